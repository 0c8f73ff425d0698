use Rattle.std.proofs.Common.{◌≡◌, ◌≤◌, count_by}
use Rattle.std.specs.List.{range_with_len}
use Rattle.parity_log.specs.Tables.{is_free, state_of}
use Rattle.parity_log.proofs.records.Tables.free_count.Given as goal

abbrev pub invariant-loop-group : goal.invariant-loop-group
invariant-loop-group l = (l.free ≡ count_by (λ g. is_free (state_of l.self g)) (range_with_len 0 l.group)) × (l.free ≤ l.group)
