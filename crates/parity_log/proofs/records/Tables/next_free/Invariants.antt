use Rattle.std.proofs.Common.{◌≡◌, ℕ, ◌+◌, ◌-◌, ◌%◌, ◌<◌, false}
use Rattle.parity_log.specs.Tables.{is_free, state_of}
use Rattle.parity_log.proofs.records.Tables.next_free.Given as goal

abbrev pub invariant-loop-group : goal.invariant-loop-group
invariant-loop-group l = (l.far < l.groups) × ((k : ℕ) → k < l.far → is_free (state_of l.self ((l.start + k) % l.groups)) ≡ false)

abbrev pub decreases-loop-group : goal.decreases-loop-group
decreases-loop-group l = l.groups - l.far
