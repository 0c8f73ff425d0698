-- The servers of a bank by what they mean, and what a call on one of them does.
use Rattle.std.specs.Prelude.{◌≡◌, ℕ, ◌<◌, ◌≢◌}
use Rattle.server.specs.Meaning.{Held, Meaning, Sound}
use Rattle.server.specs.Calls.{Call, Answer}
use Rattle.server.specs.Steps.{Step}

-- every server's meaning, by its number
abbrev pub Row : Type 0
Row = ℕ → Meaning

-- what the servers hold in one slot, by their numbers
abbrev pub slots : Row → ℕ → ℕ → Held
slots b g k = (b k).held g

-- a call on one of n servers leaves every other as it was
pub record RowStep (n : ℕ) (b : Row) (s : ℕ) (c : Call) (a : Answer c) (e : Row) : Type 0 where
  pub one : s < n → Step (b s) c a (e s)
  pub sound : s < n → Sound (b s) → Sound (e s)
  pub others : (k : ℕ) → (k ≢ s) → e k ≡ b k
