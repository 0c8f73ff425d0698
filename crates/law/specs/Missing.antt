-- Members that are missing: their slot holds nothing.
use Rattle.std.specs.Prelude.{◌≡◌, ℕ, zero, suc, ◌+◌, ◌<◌}
use Rattle.server.specs.Meaning.{Held, nothing, holds}
use Rattle.parity_log.specs.declared.records.Tables.{Tables}
use Rattle.parity_log.specs.Tables.{state_of, member_count_of, weight}
use Rattle.law.specs.Rows.{Row}

-- how many members of a group are on servers
abbrev pub members_on : Tables → ℕ → ℕ
members_on v g = member_count_of (state_of v g) v.shape.servers v.filled

abbrev pub Missing : Tables → Row → ℕ → ℕ → Type 0
Missing v b g k = (k < members_on v g) × ((b k).held g ≡ nothing)

-- what a slot adds to a missing set
abbrev pub lacking : ℕ → Held → ℕ
lacking w nothing = w
lacking w (holds p) = 0

-- the weights of the missing ones on servers below n
abbrev pub missing_below : Tables → Row → ℕ → ℕ → ℕ
missing_below v b g zero = 0
missing_below v b g (suc k) = missing_below v b g k + lacking (weight v.shape.servers k) ((b k).held g)

abbrev pub missing_set : Tables → Row → ℕ → ℕ
missing_set v b g = missing_below v b g (members_on v g)
