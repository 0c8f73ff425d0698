-- The book of a run: what was last written out of each page, as the answers and the findings say.
use Rattle.std.specs.Prelude.{ℕ, cond, List, [], ◌∷◌, Some, Ok, Err, Option, Result, ◌==◌}
use Rattle.page.specs.declared.faults.Fault.{Fault}
use Rattle.page.specs.declared.faults.Refusal.TheVariants.{Lost}
use Rattle.page.specs.Refusals.{same_refusal}
use Rattle.parity_log.specs.Reading.{Finding}
use Rattle.law.specs.Rows.{Row}

pub data Entry : Type 0 where
  has : List ℕ → Entry
  nothing : Entry
  lost : Entry

abbrev pub Book : Type 0
Book = ℕ → Entry

-- the same but at k
abbrev pub written : {A : Type 0} → ℕ → A → (ℕ → A) → ℕ → A
written k a f j = cond (k == j) a (f j)

-- every finding writes its page lost
abbrev pub found : List (Finding × Row) → Book → Book
found [] b = b
found (f ∷ fs) b = found fs (written f.0.page lost b)

-- a page refused as lost is written so, and any other refusal leaves the book
abbrev pub refused : ℕ → Fault → Book → Book
refused p f b = cond (same_refusal f.refusal Lost) (written p lost b) b

-- the answer to a pageout, which writes the bytes, or to a free, which writes nothing
abbrev pub heard : ℕ → Entry → Result (Unit {0}) Fault → Book → Book
heard p e (Ok x) b = written p e b
heard p e (Err f) b = refused p f b

-- the answer to a pagein
abbrev pub heard_page : ℕ → Result (List ℕ) Fault → Book → Book
heard_page p (Ok x) b = b
heard_page p (Err f) b = refused p f b

-- the finding by which a page was last found lost, with the row at that moment
abbrev pub latest : ℕ → List (Finding × Row) → Option (Finding × Row) → Option (Finding × Row)
latest p [] o = o
latest p (f ∷ fs) o = latest p fs (cond (f.0.page == p) (Some f) o)
