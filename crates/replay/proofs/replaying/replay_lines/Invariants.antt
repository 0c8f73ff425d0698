use Rattle.std.proofs.Common.{◌≡◌, ℕ, ◌+◌, List, length, Result}
use Rattle.replay.specs.Replaying.{ReplaysLines}
use Rattle.replay.specs.Script.{parts_left}
use Rattle.replay.specs.declared.listing.Halt.{Halt}
use Rattle.replay.proofs.replaying.replay_lines.Given as goal

abbrev pub invariant-loop-line : goal.invariant-loop-line
invariant-loop-line g l = record {
  counted : l.number + length (parts_left l.line-iterator) ≡ 2 + length (parts_left l.initial.line-iterator);
  leads : (outcome : Result ℕ Halt) (y : _) (after : List ℕ) → ReplaysLines g.R.Runner.runs l.number (parts_left l.line-iterator) l.runner l.listing l.count outcome y after → ReplaysLines g.R.Runner.runs 2 (parts_left l.initial.line-iterator) l.initial.runner l.initial.listing l.initial.count outcome y after;
}
