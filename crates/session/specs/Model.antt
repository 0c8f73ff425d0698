-- A row of memory servers as plain values: what a call on one of them answers and leaves, and what a rule makes of them.
use Rattle.std.specs.Prelude.{◌≡◌, ℕ, ◌-◌, cond, List, [], ◌∷◌, length, Ok, Err, Result, ◌==◌}
use Rattle.page.specs.declared.faults.Fault.{Fault}
use Rattle.server.specs.Meaning.{Meaning}
use Rattle.server.specs.Calls.{Call, Answer}
use Rattle.memory.specs.Store.{Store, meant}
use Rattle.memory.specs.Rule.{says, after, fallen, says_back, revived}
use Rattle.bank.specs.Rows.{RowRule, absent, nowhere, means_at}
use Rattle.parity_log.specs.Rule.{Rule, give, ask, note}

abbrev pub Row : Type 0
Row = List Store

-- what each server of a row means
abbrev pub meanings : Row → ℕ → Meaning
meanings [] = λ _. nowhere
meanings (x ∷ xs) = means_at (meant x) (meanings xs)

-- what the server of a number says
abbrev pub said_at : {T : Type 0} → (Store → Result T Fault) → Row → ℕ → Result T Fault
said_at says [] i = Err absent
said_at says (x ∷ xs) i = cond (i == 0) (says x) (said_at says xs (i - 1))

-- a row in which the server of a number is changed
abbrev pub changed_at : (Store → Store) → Row → ℕ → Row
changed_at change [] i = []
changed_at change (x ∷ xs) i = cond (i == 0) (change x ∷ xs) (x ∷ changed_at change xs (i - 1))

-- what one server is asked: the answer, and the row after it
abbrev pub asked : Row → ℕ → (c : Call) → Answer c × Row
asked row i c = (said_at (λ x. says x c) row i, changed_at (λ x. after x c) row i)

-- one server is made to fall
abbrev pub felled : Row → ℕ → Result (Unit {0}) Fault × Row
felled row i = (said_at (λ _. Ok tt) row i, changed_at fallen row i)

-- one server is brought back
abbrev pub brought_back : Row → ℕ → Result (Unit {0}) Fault × Row
brought_back row i = (said_at says_back row i, changed_at revived row i)

-- a rule from its first call to its last: the result, and the row after it
abbrev pub exec : {N A : Type 0} → Rule N A → Row → A × Row
exec (give a) row = (a, row)
exec (ask s c k) row = let r = asked row s c in exec (k r.0) r.1
exec (note n rule) row = exec rule row

-- A rule of a kind of row goes by what its servers say and are changed to. What the row keeps, such as who lent each server its bytes, stays.
abbrev pub GoesAs : {B K T : Type 0} → (B → Row) → (B → K) → (B → ℕ → Result T Fault → B → Type 0) → (Store → Result T Fault) → (Store → Store) → Type 0
GoesAs {B} {K} {T} stores kept rule says change =
    (b : B) (i : ℕ) (a : Result T Fault) (e : B) → rule b i a e → (a ≡ said_at says (stores b) i) × (stores e ≡ changed_at change (stores b) i) × (kept e ≡ kept b)

-- what a rule of a bank comes to at its servers' values
abbrev pub Comes : {B K R : Type 0} → (B → Row) → (B → K) → B → R × Row → R → B → Type 0
Comes stores kept b model r e = (r ≡ model.0) × (stores e ≡ model.1) × (kept e ≡ kept b)

-- every call on a bank answers and leaves what it does at its servers' values
pub record Modelled {B K : Type 0} (count : B → ℕ) (means : B → ℕ → Meaning) (steps : RowRule B) (falls backs : B → ℕ → Result (Unit {0}) Fault → B → Type 0) (stores : B → Row) (kept : B → K) : Type 0 where
  pub counts : (b : B) → count b ≡ length (stores b)
  pub meant : (b : B) → means b ≡ meanings (stores b)
  pub asks : (c : Call) → GoesAs stores kept (λ b i a e. steps b i c a e) (λ x. says x c) (λ x. after x c)
  pub felled : GoesAs stores kept falls (λ _. Ok tt) fallen
  pub brought_back : GoesAs stores kept backs says_back revived
