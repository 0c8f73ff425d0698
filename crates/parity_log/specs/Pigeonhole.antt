-- Why the open group never fills in a cleaning: some closed group has few live positions.
use Rattle.std.specs.Prelude.{◌≡◌, ℕ, ◌-◌, ◌*◌, ◌/◌, ◌<◌, ◌≤◌, Some, ◌≢◌}
use Rattle.parity_log.specs.declared.records.GroupState.TheVariants.{Closed}
use Rattle.parity_log.specs.declared.records.Shape.{Shape}
use Rattle.parity_log.specs.declared.records.Tables.{Tables}
use Rattle.parity_log.specs.Tables.{state_of, live}
use Rattle.parity_log.specs.Choices.{fewest_live}
use Rattle.parity_log.specs.Order.{Sound}

-- the most that a cleaning moves
abbrev pub most_moved : Shape → ℕ
most_moved s = (s.groups - s.spares) * s.servers / (s.groups - 1)

-- all groups but one are closed
abbrev pub AllButOne : Tables → ℕ → Type 0
AllButOne v h = (g : ℕ) → g < v.shape.groups → (g ≢ h) → state_of v g ≡ Closed

-- where all groups but h are closed, the group that is cleaned has at most that many live positions, and fewer than there are servers
abbrev pub Pigeonhole : Type 0
Pigeonhole = (v : Tables) (h : ℕ) → Sound v → h < v.shape.groups → (state_of v h ≢ Closed) → AllButOne v h
    → (c : ℕ) × (fewest_live v ≡ Some c) × (c < v.shape.groups) × (state_of v c ≡ Closed) × (live v c ≤ most_moved v.shape) × (most_moved v.shape < v.shape.servers)
