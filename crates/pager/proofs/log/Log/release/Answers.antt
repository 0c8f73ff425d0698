use Rattle.std.proofs.Common.{ap}
use Rattle.parity_log.specs.LogState.{with_tables}
use Rattle.pager.specs.Moments.{log_state}
use Rattle.pager.proofs.PlacingLaws.{releases}
use Rattle.pager.proofs.log.Log.release.Goals as goal

pub returns : goal.returns
returns g c =
    let l = log_state c.args.self.now in
    let m = with_tables l c.free_group.new.self.tables in
    let is = ap (with_tables l) c.free_group.ensures.tables in
    record { log = is; ran = releases g.B.Bank.steps l c.args.self.now.bank c.free_slots.new.bank c.args.group m is (c.free_slots.ensures m) }
