-- What the reading of members comes to in the code.
use Rattle.std.specs.Prelude.{◌≡◌, ℕ, ◌≢◌, List, Ok, Err, Result}
use Rattle.page.specs.declared.faults.Fault.{Fault}
use Rattle.page.specs.declared.pages.Page.{Page}
use Rattle.server.specs.Calls.{to_get}
use Rattle.bank.specs.Rows.{RowRule}
use Rattle.parity_log.specs.Tables.{weight}
use Rattle.parity_log.specs.Reading.{Gathered, Reading, found, missed, added, refusers}

abbrev pub gathered : List ℕ → ℕ → Gathered
gathered sum missing = record { sum = sum; missing = missing }

-- what the others came to: their sum if none of them refused, or else the set of those that did
abbrev pub Gathers : Gathered → Result Page ℕ → Type 0
Gathers q (Ok p) = (q.missing ≡ 0) × (q.sum ≡ p.0)
Gathers q (Err s) = (q.missing ≡ s) × (s ≢ 0)

-- one member is asked: what it delivers is added, or its weight is answered
abbrev pub AskedOne : {B : Type 0} → RowRule B → ℕ → ℕ → ℕ → B → List ℕ → ℕ → B → List ℕ → Type 0
AskedOne steps servers g k b sum r e sum' = (a : Result (List ℕ) Fault) × steps b k (to_get g 512) a e × (sum' ≡ added sum a) × (r ≡ refusers 0 (weight servers k) a)

-- a reading, by its result and what the buffer then holds
abbrev pub reading_of : Result (Unit {0}) ℕ → List ℕ → Reading
reading_of (Ok x) buffer = found buffer
reading_of (Err s) buffer = missed s

-- a reading that missed leaves the buffer
abbrev pub Unread : Result (Unit {0}) ℕ → List ℕ → List ℕ → Type 0
Unread (Ok x) before after = Unit {0}
Unread (Err s) before after = after ≡ before
