use Rattle.std.proofs.Common.{◌≤◌}
use Rattle.keep_pages.proofs.read_back.Given as goal

abbrev pub invariant-loop-slot : goal.invariant-loop-slot
invariant-loop-slot g l = l.equal ≤ l.slot
