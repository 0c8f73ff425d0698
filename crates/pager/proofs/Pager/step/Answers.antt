use Rattle.std.proofs.Common.{refl}
use Rattle.pager.specs.Moments.{log_state}
use Rattle.pager.proofs.Seen.{step_turn}
use Rattle.pager.proofs.StepWays.{step_refused}
use Rattle.pager.proofs.Pager.step.Goals as goal

pub returns-in-Err : goal.returns-in-Err
returns-in-Err g c =
    let bank = g.B.Bank in
    let old = c.args.self.now.log in
    let b = old.bank in
    let j = c.args.job.progress in
    let run = step_refused bank.steps (log_state old) j b b c.in-Err.fault c.in-Err.ensures in
    record { tables = refl; running = refl; ran = run; turn = step_turn bank.count bank.means bank.steps bank.laws old old refl j _ _ run }
