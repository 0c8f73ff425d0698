-- A page that is copied from one server of a row to another, at the same slot.
use Rattle.std.specs.Prelude.{◌≡◌, ℕ, List, Ok, Err, Result}
use Rattle.page.specs.declared.faults.Fault.{Fault}
use Rattle.server.specs.Meaning.{holds, Meaning}
use Rattle.server.specs.Calls.{to_put, to_get}
use Rattle.bank.specs.Rows.{RowRule}

-- the put of what was got, or the fault of the get handed up and nothing more
abbrev pub PutsOn : {S : Type 0} → RowRule S → S → ℕ → ℕ → Result (List ℕ) Fault → Result (Unit {0}) Fault → S → Type 0
PutsOn steps s to slot (Ok page) r t = steps s to (to_put slot page) r t
PutsOn steps s to slot (Err fault) r t = (r ≡ Err fault) × (t ≡ s)

-- a get, and then the put
abbrev pub Copies : {S : Type 0} → RowRule S → S → ℕ → ℕ → ℕ → Result (Unit {0}) Fault → S → Type 0
Copies {S} steps s from to slot r t = (got : Result (List ℕ) Fault) × (mid : S) × steps s from (to_get slot 512) got mid × PutsOn steps mid to slot got r t

-- where it is done, the target then holds the page that the source held
abbrev pub Copied : Result (Unit {0}) Fault → ℕ → Meaning → Meaning → Type 0
Copied (Ok x) slot source target = (page : List ℕ) × (source.held slot ≡ holds page) × (target.held slot ≡ holds page)
Copied (Err f) slot source target = Unit {0}
