use Rattle.std.proofs.Common.{sym}
use Rattle.pager.specs.Moments.{log_state}
use Rattle.pager.proofs.PlacingLaws.{leaves_unused, leaves_used, leaves_none}
use Rattle.pager.proofs.log.Log.release_old.Goals as goal

pub returns-then-unused : goal.returns-then-unused
returns-then-unused g c =
    let r = c.release.ensures in
    let out = leaves_unused g.B.Bank.steps (log_state c.args.self.now) c.args.self.now.bank c.release.new.self.bank c.args.old c.in-Some.group (log_state c.release.new.self) c.in-Some.is (sym c.if-unused.ensures) r.ran r.log in
    record { log = out.1; ran = out.0 }

pub returns-else-unused : goal.returns-else-unused
returns-else-unused g c =
    let b = c.args.self.now.bank in
    let out = leaves_used g.B.Bank.steps (log_state c.args.self.now) b b c.args.old c.in-Some.group c.in-Some.is (sym c.if-unused.ensures) in
    record { log = out.1; ran = out.0 }

pub returns-in_default : goal.returns-in_default
returns-in_default g c =
    let b = c.args.self.now.bank in
    let out = leaves_none g.B.Bank.steps (log_state c.args.self.now) b b c.args.old c.in_default.is in
    record { log = out.1; ran = out.0 }
