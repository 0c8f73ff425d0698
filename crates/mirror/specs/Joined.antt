-- What a mirror means, over what its two halves mean, and what it needs between them.
use Rattle.std.specs.Prelude.{◌≡◌, ℕ, ◌+◌, ◌≤◌, min, ◌||◌, List}
use Rattle.server.specs.Meaning.{Held, nothing, holds, Meaning}

-- what the first half holds, or else what the second holds
abbrev pub first_of : Held → Held → Held
first_of nothing h = h
first_of (holds p) h = holds p

abbrev pub joined : Meaning → Meaning → Meaning
joined m n = record { size = min m.size n.size; up = m.up || n.up; era = m.era + n.era; held = λ k. first_of (m.held k) (n.held k) }

-- two held copies are equal
abbrev pub Copies : Held → Held → Type 0
Copies a b = (p q : List ℕ) → a ≡ holds p → b ≡ holds q → p ≡ q

abbrev pub Agree : Meaning → Meaning → Type 0
Agree m n = (k : ℕ) → Copies (m.held k) (n.held k)

-- the copies of the halves agree, and neither holds a page past the smaller one's end
pub record Paired (m n : Meaning) : Type 0 where
  pub agree : Agree m n
  pub past : (k : ℕ) → (joined m n).size ≤ k → (joined m n).held k ≡ nothing
