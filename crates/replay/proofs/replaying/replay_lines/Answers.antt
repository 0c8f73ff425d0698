use Rattle.std.proofs.Common.{refl}
use Rattle.replay.proofs.replaying.replay_lines.Goals as goal

pub loop-line-init : goal.loop-line-init
loop-line-init g c = record { counted = refl; leads = λ outcome y after ran. ran }
