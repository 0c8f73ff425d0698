-- A row of page servers, told by number from 0, and what every kind of row owes.
use Rattle.std.specs.Prelude.{◌≡◌, ℕ, ◌-◌, ◌<◌, ◌≤◌, false, cond, Ok, Err, Result, ◌==◌, ◌≢◌}
use Rattle.page.specs.declared.faults.Fault.{Fault}
use Rattle.page.specs.declared.faults.Layer.TheVariants.{Server}
use Rattle.page.specs.declared.faults.Refusal.TheVariants.{Range}
use Rattle.page.specs.Refusals.{fault_of}
use Rattle.server.specs.Meaning.{nothing, Meaning, Sound}
use Rattle.server.specs.Calls.{Call, Answer}
use Rattle.server.specs.Steps.{Step}

-- a rule of a row: the number, the call, its answer, and what is left
abbrev pub RowRule : Type 0 → Type 1
RowRule S = S → ℕ → (c : Call) → Answer c → S → Type 0

-- the fault of a number past the end
abbrev pub absent : Fault
absent = fault_of Server Range

-- what a number past the end means
abbrev pub nowhere : Meaning
nowhere = record { size = 0; up = false; era = 0; held = λ _. nothing }

-- a server before the rest of a row: the rest is told by the number less one
abbrev pub means_at : Meaning → (ℕ → Meaning) → ℕ → Meaning
means_at m f i = cond (i == 0) m (f (i - 1))

-- what the size of server i of n is said to be
pub record SizeAt (n : ℕ) (means : ℕ → Meaning) (i : ℕ) (r : Result ℕ Fault) : Type 0 where
  pub here : i < n → r ≡ Ok (means i).size
  pub past : n ≤ i → r ≡ Err absent

-- a call's step, with its answer as a rule of a server has it
abbrev pub StepBy : (c : Call) → Meaning → Answer c → Meaning → Type 0
StepBy c m a n = Step m c a n

-- what a row of n means, before and after something is asked of server i: that one goes by the rule, and every other means what it meant
pub record Reaches {T : Type 0} (rule : Meaning → Result T Fault → Meaning → Type 0) (n : ℕ) (before : ℕ → Meaning) (i : ℕ) (a : Result T Fault) (n' : ℕ) (after : ℕ → Meaning) : Type 0 where
  pub here : i < n → rule (before i) a (after i)
  pub past : n ≤ i → (a ≡ Err absent) × ((j : ℕ) → after j ≡ before j)
  pub others : (j : ℕ) → (j ≢ i) → after j ≡ before j
  pub keeps : n' ≡ n

-- what a kind of row owes; past the end a call is refused, and the row is the same value
pub record Rowed {S : Type 0} (count : S → ℕ) (means : S → ℕ → Meaning) (steps : RowRule S) : Type 0 where
  pub sound : (s : S) (i : ℕ) → i < count s → Sound (means s i)
  pub meets : (s : S) (i : ℕ) (c : Call) (a : Answer c) (t : S) → steps s i c a t → i < count s → Step (means s i) c a (means t i)
  pub others : (s : S) (i : ℕ) (c : Call) (a : Answer c) (t : S) → steps s i c a t → (j : ℕ) → (j ≢ i) → means t j ≡ means s j
  pub past : (s : S) (i : ℕ) (c : Call) (a : Answer c) (t : S) → steps s i c a t → count s ≤ i → (a ≡ Err absent) × (t ≡ s)
  pub keeps : (s : S) (i : ℕ) (c : Call) (a : Answer c) (t : S) → steps s i c a t → count t ≡ count s

-- a server before the rest of a row: exactly one of them moves, and the other is the same value
pub record Pairs {X Y : Type 0} (first : X → X → Type 0) (rest : Y → ℕ → Y → Type 0) (x : X) (y : Y) (i : ℕ) (x' : X) (y' : Y) : Type 0 where
  pub here : i ≡ 0 → first x x' × (y' ≡ y)
  pub there : 0 < i → rest y (i - 1) y' × (x' ≡ x)
