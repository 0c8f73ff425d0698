-- What the placing of a page comes to in the code.
use Rattle.std.specs.Prelude.{◌≡◌, ℕ, ◌<◌, Bool, Some, None, Option}
use Rattle.parity_log.specs.declared.records.Tables.{Tables}
use Rattle.parity_log.specs.LogState.{LogState}
use Rattle.parity_log.specs.declared.records.GroupState.TheVariants.{Open}
use Rattle.parity_log.specs.Tables.{state_of}
use Rattle.parity_log.specs.Order.{Settled}
use Rattle.parity_log.specs.Paging.{Placed}

abbrev pub placed_as : Bool → LogState → Placed
placed_as done l = record { done = done; log = l }

-- a group, if one is named, has a place in the table
abbrev pub Fit : Option ℕ → Type 0
Fit None = Unit {0}
Fit (Some g) = g < 32

-- settled tables, in which this group is open
pub record Ready (v : Tables) (g : ℕ) : Type 0 where
  pub settled : Settled v
  pub open_now : state_of v g ≡ Open
