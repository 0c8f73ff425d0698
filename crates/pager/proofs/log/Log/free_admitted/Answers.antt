use Rattle.std.proofs.Common.{Ok, subst, arith}
use Rattle.parity_log.specs.declared.records.Tables.{Tables}
use Rattle.parity_log.specs.LogState.{with_tables}
use Rattle.parity_log.specs.Rule.{Ends}
use Rattle.parity_log.specs.Tables.{page_state, group_of}
use Rattle.parity_log.specs.Paging.{release_old}
use Rattle.parity_log.proofs.Bounds.{capacity_fits}
use Rattle.parity_log.proofs.ChangesLaws.{changes_drop}
use Rattle.pager.specs.Moments.{log_state}
use Rattle.pager.proofs.Fitting.{ends_ordered}
use Rattle.pager.proofs.PageinLaws.{admitted}
use Rattle.pager.proofs.CallWays.{settled_order, free_let_in, free_settles}
use Rattle.pager.proofs.Seen.{free_turn}
use Rattle.pager.proofs.log.Log.free_admitted.Goals as goal

pub bounds-self-page : goal.bounds-self-page
bounds-self-page g c =
    let v = c.args.self.now.ledger.tables in
    let a = admitted v c.args.page 512 c.requires.admitted in
    omega (arith, a.1, capacity_fits v.shape a.0)

pub set_page-requires-clause-changes : goal.set_page-requires-clause-changes
set_page-requires-clause-changes g c =
    let v = c.args.self.now.ledger.tables in
    let a = admitted v c.args.page 512 c.requires.admitted in
    changes_drop c.args.self.now.ledger.tables c.args.page (c.requires.order.log.made a.0).tables.sound a.1

pub returns : goal.returns
returns g c =
    let bank = g.B.Bank in
    let old = c.args.self.now in
    let l = log_state old in
    let v = l.tables in
    let t = c.set_page.new.self.tables in
    let now = c.release_old.new.self in
    let m = log_state now in
    let a = admitted v c.args.page 512 c.requires.admitted in
    let out = rw c.group.ensures at c.release_old.ensures in
    let left = free_settles l m t c.args.page (c.requires.order.log.made a.0) a.1 c.set_page.ensures.tables out.log in
    let run = subst (λ (y : Tables). Ends bank.steps (release_old (group_of (page_state v c.args.page)) (with_tables l y)) old.bank m now.bank) c.set_page.ensures.tables out.ran in
    let all = free_let_in bank.steps l c.args.page old.bank m now.bank c.requires.admitted run in
    record {
      order = ends_ordered bank.count bank.means bank.steps bank.laws old now _ _ c.requires.order left.1 (settled_order m left.0) all;
      ran = all;
      turn = free_turn bank.count bank.means bank.steps bank.laws old now c.args.page (Ok tt) all;
    }
