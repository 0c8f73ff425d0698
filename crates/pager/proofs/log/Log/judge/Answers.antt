use Rattle.std.proofs.Common.{◌+◌, false, Some, Ok, Err, sym, ap, ◌∙◌, subst}
use Rattle.page.specs.declared.faults.Fault.{Fault}
use Rattle.parity_log.specs.declared.ledger.Ledger.{Ledger}
use Rattle.parity_log.specs.declared.records.PageState.TheVariants.{Lost}
use Rattle.parity_log.specs.declared.records.Tables.{Tables}
use Rattle.parity_log.specs.LogState.{LogState, with_tables}
use Rattle.parity_log.specs.Rule.{Ends}
use Rattle.parity_log.specs.Paging.{ending, told, release_old, released_old}
use Rattle.parity_log.specs.Faults.{lost_page}
use Rattle.parity_log.specs.Order.{SettledLog}
use Rattle.parity_log.specs.Owners.{Changes}
use Rattle.parity_log.specs.Tables.{with_page}
use Rattle.parity_log.proofs.ChangesLaws.{changes_lose}
use Rattle.parity_log.proofs.RuleLaws.{ends_as}
use Rattle.pager.specs.Moments.{log_state}
use Rattle.pager.proofs.Fitting.{kept_log}
use Rattle.pager.proofs.ReadLaws.{own_weight}
use Rattle.pager.proofs.PageoutWays.{kept_ends, lost_ends, lost_settles}
use Rattle.pager.proofs.log.Log.judge.Goals as goal

pub returns-in_default : goal.returns-in_default
returns-in_default g c =
    let l = log_state c.args.self.now in
    let out = c.in_default.ensures in
    let same = kept_log c.args.self.now c.gather.new.self out.tables out.running in
    let run = kept_ends g.B.Bank.steps l c.args.page c.args.group c.args.position c.args.self.now.bank c.gather.new.self.bank out.ran.0 _ out.ran.2 out.ran.1 in
    record {
      settled = subst SettledLog (sym same) c.requires.settled;
      shape = ap (λ (k : LogState). k.tables.shape) same;
      ran = ends_as g.B.Bank.steps (ending l c.args.page c.args.group c.args.position false) c.args.self.now.bank c.gather.new.self.bank (told (Ok tt) l) _ (ap (told (Ok tt)) (sym same)) run;
    }

pub set_page-requires-clause-changes : goal.set_page-requires-clause-changes
set_page-requires-clause-changes g c =
    let same = ap (λ (l : Ledger). l.tables) c.in-Err.ensures.tables in
    subst (λ (w : Tables). Changes w c.args.page (Lost c.args.group (c.in-Err.others + c.weight.result))) (sym same) (changes_lose c.args.self.now.ledger.tables c.args.page c.args.group _ c.requires.settled.tables.sound c.requires.page)

pub returns : goal.returns
returns g c =
    let l = log_state c.args.self.now in
    let p = c.args.page in
    let n = c.args.group in
    let i = c.args.position in
    let b = c.args.self.now.bank in
    let m = c.gather.new.self.bank in
    let e = c.release_old.new.self.bank in
    let k = log_state c.release_old.new.self in
    let others = c.in-Err.others in
    let s = others + c.weight.result in
    let steps = g.B.Bank.steps in
    let asked = c.in-Err.ensures in
    let out = c.release_old.ensures in
    let t = c.set_page.new.self.tables in
    let same = kept_log c.args.self.now c.gather.new.self asked.tables asked.running in
    let marked = c.set_page.ensures.tables ∙ ap (λ (y : Ledger). with_page y.tables p (Lost n s)) asked.tables in
    let is-k = out.log ∙ ap (λ (y : LogState). with_tables y (released_old (Some n) t)) same in
    let left = lost_settles l k t p n i s c.requires.settled c.requires.page c.requires.there marked is-k in
    let rel = subst (λ (y : Tables). Ends steps (release_old (Some n) (with_tables l y)) m k e) marked (subst (λ (y : LogState). Ends steps (release_old (Some n) (with_tables y t)) m k e) same out.ran) in
    let run = lost_ends steps l p n i b e asked.ran.0 m k others s asked.ran.2 (ap (λ w. others + w) (own_weight _ c.args.self.now.ledger c.args.position _ asked.tables c.weight.ensures)) asked.ran.1 rel in
    record { settled = left.0; shape = left.1; ran = ends_as steps (ending l p n i false) b e (told (Err (lost_page p n s)) k) _ (ap (λ (f : Fault). told (Err f) k) (sym c.lost.ensures)) run }
