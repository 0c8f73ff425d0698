use Rattle.std.proofs.Common.{sym, ap, ap₂, ◌∙◌}
use Rattle.parity_log.specs.LogState.{log_of}
use Rattle.parity_log.specs.Paging.{grown, place}
use Rattle.parity_log.proofs.RuleLaws.{ends_as}
use Rattle.pager.specs.Moments.{log_state}
use Rattle.pager.specs.Places.{placed_as}
use Rattle.pager.proofs.PlacingLaws.{places}
use Rattle.pager.proofs.log.Log.place.Goals as goal

pub returns : goal.returns
returns g c =
    let l = log_state c.args.self.now in
    let x = c.args.bytes.now in
    let b = c.args.self.now.bank in
    let steps = g.B.Bank.steps in
    let after = ap₂ log_of (c.fill_next.ensures.tables ∙ ap grown c.set_page.ensures.tables) c.add.ensures in
    record {
      log = after;
      ran = ends_as steps (place l c.args.group c.args.page x) b c.put.new.self _ _ (ap₂ placed_as (sym c.is_ok-done.ensures.value) (sym after)) (places steps l c.args.group b c.put.new.self c.args.page x c.put.result c.put.ensures);
    }
