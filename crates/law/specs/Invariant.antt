-- What the book and the findings say of a page, by its state in the tables.
use Rattle.std.specs.Prelude.{◌≡◌, ℕ, ◌<◌, ◌⊎◌, List, Some, Option, ◌≢◌}
use Rattle.server.specs.Meaning.{Held, nothing as empty}
use Rattle.parity_log.specs.declared.records.PageState.{PageState}
use Rattle.parity_log.specs.declared.records.PageState.TheVariants.{NotOut, Out, Lost}
use Rattle.parity_log.specs.declared.records.Tables.{Tables}
use Rattle.parity_log.specs.Reading.{Finding}
use Rattle.law.specs.Rows.{Row, slots}
use Rattle.law.specs.Missing.{members_on, missing_set}
use Rattle.law.specs.Book.{Entry, has, nothing, lost}

-- of a group's first n servers, whose slots hold h, the one of a position is missing, and another one
pub record TwoMissing (n : ℕ) (h : ℕ → Held) (i : ℕ) : Type 0 where
  pub own : (i < n) × (h i ≡ empty)
  pub other : (k : ℕ) × (k ≢ i) × ((k < n) × (h k ≡ empty))

-- at a finding two members were missing, the page's own among them, and the set names exactly the missing ones
pub record Right (f : Finding) (b : Row) : Type 0 where
  pub two : TwoMissing (members_on f.tables f.group) (slots b f.group) f.position
  pub set : f.set ≡ missing_set f.tables b f.group

abbrev pub FoundAt : ℕ → ℕ → Option (Finding × Row) → Type 0
FoundAt g s o = (f : Finding × Row) × (o ≡ Some f) × (f.0.group ≡ g) × (f.0.set ≡ s) × Right f.0 f.1

-- of a page in each state, with its entry in the book and its latest finding, where c is what each group's members ought to hold
abbrev pub PageOk : Tables → Row → (ℕ → ℕ → List ℕ) → Entry → Option (Finding × Row) → PageState → Type 0
PageOk v b c e o NotOut = e ≡ nothing
PageOk v b c e o (Out g i) = (i < members_on v g) × ((e ≡ has (c g i)) ⊎ ((e ≡ lost) × TwoMissing (members_on v g) (slots b g) i))
PageOk v b c e o (Lost g s) = (e ≡ lost) × FoundAt g s o
