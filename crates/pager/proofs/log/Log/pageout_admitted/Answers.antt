use Rattle.std.proofs.Common.{ℕ, List, subst}
use Rattle.parity_log.specs.Rule.{Ends}
use Rattle.parity_log.specs.Paging.{steps, told}
use Rattle.pager.specs.Moments.{log_state}
use Rattle.pager.proofs.Fitting.{ends_ordered}
use Rattle.pager.proofs.PageinLaws.{admitted}
use Rattle.pager.proofs.CallWays.{settled_order, pageout_let_in}
use Rattle.pager.proofs.Seen.{pageout_turn}
use Rattle.pager.proofs.log.Log.pageout_admitted.Goals as goal

pub page_out-requires : goal.page_out-requires
page_out-requires g c =
    let v = c.args.self.now.ledger.tables in
    let a = admitted v c.args.page _ c.requires.admitted in
    record { settled = c.requires.order.log.made a.0; page = a.1 }

pub returns-in-Ok : goal.returns-in-Ok
returns-in-Ok g c =
    let bank = g.B.Bank in
    let old = c.args.self.now in
    let l = log_state old in
    let now = c.page_out.new.self in
    let out = c.page_out.ensures in
    let part = subst (λ (x : List ℕ). Ends bank.steps (steps l c.args.page x) old.bank (told c.page_out.result (log_state now)) now.bank) c.in-Ok.ensures.1.same out.ran in
    let run = pageout_let_in bank.steps l c.args.page old.bank c.args.bytes.now _ now.bank c.requires.admitted part in
    record {
      order = ends_ordered bank.count bank.means bank.steps bank.laws old now _ _ c.requires.order out.shape (settled_order (log_state now) out.settled) out.ran;
      ran = run;
      turn = pageout_turn bank.count bank.means bank.steps bank.laws old now c.args.page c.args.bytes.now c.page_out.result run;
    }
