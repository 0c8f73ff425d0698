use Rattle.std.proofs.Common.{◌≤◌}
use Rattle.paging.proofs.page_in.Given as goal

abbrev pub invariant-loop-number : goal.invariant-loop-number
invariant-loop-number g l = l.equal ≤ l.number
