-- A rule as what it asks of the servers, answer by answer, and a run of one.
use Rattle.std.specs.Prelude.{◌≡◌, ℕ, List, [], ◌∷◌}
use Rattle.server.specs.Calls.{Call, Answer}

-- It gives its result; or asks a server, and goes on with the answer; or notes something, and goes on.
pub data Rule (N A : Type 0) : Type 0 where
  give : A → Rule N A
  ask : ℕ → (c : Call) → (Answer c → Rule N A) → Rule N A
  note : N → Rule N A → Rule N A

infixl 20 ◌>>=◌
-- one rule and then another, which `do` writes line by line
abbrev pub ◌>>=◌ : {N A B : Type 0} → Rule N A → (A → Rule N B) → Rule N B
give a >>= f = f a
ask s c k >>= f = ask s c (λ x. k x >>= f)
note n r >>= f = note n (r >>= f)

-- From the bank b a rule can end with the result r and the bank e, having made these notes, each with the bank at its moment.
-- What a bank is, and what a call on it does, is left open.
abbrev pub Runs : {B N A : Type 0} → (B → ℕ → (c : Call) → Answer c → B → Type 0) → Rule N A → B → List (N × B) → A → B → Type 0
Runs steps (give a) b ns r e = (ns ≡ []) × (r ≡ a) × (e ≡ b)
Runs {B} steps (ask s c k) b ns r e = (x : Answer c) × (m : B) × steps b s c x m × Runs steps (k x) m ns r e
Runs {B} {N} steps (note n k) b ns r e = (rest : List (N × B)) × (ns ≡ ((n, b) ∷ rest)) × Runs steps k b rest r e

-- the same, whatever it notes
abbrev pub Ends : {B N A : Type 0} → (B → ℕ → (c : Call) → Answer c → B → Type 0) → Rule N A → B → A → B → Type 0
Ends {B} {N} steps rule b r e = (ns : List (N × B)) × Runs steps rule b ns r e
