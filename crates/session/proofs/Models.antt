-- Banks of memory servers are modelled, and a rule over one leaves what it does at its servers' values.
use Rattle.std.proofs.Common.{◌≡◌, ◌≢◌, ℕ, ◌+◌, ◌-◌, Bool, true, false, List, [], ◌∷◌, Ok, Err, Result, ◌==◌, refl, ap, subst, ◌∙◌, arith, eqb-true}
use Rattle.std.proofs.lemmas.Bool.{eqb-false}
use Rattle.page.specs.declared.faults.Fault.{Fault}
use Rattle.server.specs.Calls.{Call, Answer}
use Rattle.bank.specs.declared.rows.End.{End}
use Rattle.bank.specs.declared.rows.Pair.{Pair}
use Rattle.memory.specs.Stands.{store_of}
use Rattle.memory.specs.Store.{Store, meant}
use Rattle.memory.specs.declared.Memory.{Memory}
use Rattle.std.specs.Borrow.{GName}
use Rattle.memory.specs.Rule.{Stepped, says, after, fallen, says_back, revived}
use Rattle.bank.specs.Rows.{RowRule, absent, nowhere, means_at, Pairs}
use Rattle.server.specs.Meaning.{Meaning}
use Rattle.parity_log.specs.Rule.{Rule, give, ask, note, Runs, Ends}
use Rattle.session.specs.Model.{Row, said_at, changed_at, asked, exec, GoesAs, Comes, Modelled}

-- a rule over a modelled bank, whatever it notes
module _ {B K : Type 0} (steps : RowRule B) (stores : B → Row) (kept : B → K) (asks : (c : Call) → GoesAs stores kept (λ b i a e. steps b i c a e) (λ x. says x c) (λ x. after x c)) where
  runs_as : {N A : Type 0} (rule : Rule N A) (b : B) (ns : List (N × B)) (r : A) (e : B) → Runs steps rule b ns r e → Comes stores kept b (exec rule (stores b)) r e
  runs_as (give a) b ns r e h = (h.1, ap stores h.2, ap kept h.2)
  runs_as {A = A} (ask s c k) b ns r e (x, m, step, rest) =
      let first = asks c b s x m step in
      let later = runs_as (k x) m ns r e rest in
      let P : Answer c → Type 0 = λ v. (r ≡ (exec (k v) (stores m)).0) × (stores e ≡ (exec (k v) (stores m)).1) in
      let Q : Row → Type 0 = λ w. (r ≡ (exec (k (asked (stores b) s c).0) w).0) × (stores e ≡ (exec (k (asked (stores b) s c).0) w).1) in
      let same = subst Q first.1 (subst P first.0 (later.0, later.1)) in
      (same.0, same.1, later.2 ∙ first.2)
  runs_as (note n rule) b ns r e (rest, q, h) = runs_as rule b rest r e h

  pub ends_as : {N A : Type 0} (rule : Rule N A) (b : B) (r : A) (e : B) → Ends steps rule b r e → Comes stores kept b (exec rule (stores b)) r e
  ends_as rule b r e (ns, h) = runs_as rule b ns r e h

-- a row of none
none_goes : {T : Type 0} (says : Store → Result T Fault) (change : Store → Store) → GoesAs {K = List GName} (λ _. []) (λ _. []) (λ (s : End) i a t. (a ≡ Err absent) × (t ≡ s)) says change
none_goes word change s i a t (r, same) = (r, refl, refl)

pub none_modelled : Modelled {K = List GName} (λ (s : End). 0) (λ s i. nowhere) (λ s i c a t. (a ≡ Err absent) × (t ≡ s)) (λ s i a t. (a ≡ Err absent) × (t ≡ s)) (λ s i a t. (a ≡ Err absent) × (t ≡ s)) (λ _. []) (λ (s : End). [])
none_modelled =
    record {
      counts = λ b. refl;
      meant = λ b. refl;
      asks = λ c. none_goes (λ x. says x c) (λ x. after x c);
      felled = none_goes (λ _. Ok tt) fallen;
      brought_back = none_goes says_back revived;
    }

-- the reference that a server holds
abbrev pub lender : Memory → GName
lender m = m.bytes.ghost_name

-- what a memory server does, by what it holds
abbrev pub FirstGoes : {T : Type 0} → (Store → Result T Fault) → (Store → Store) → (Memory → Result T Fault → Memory → Type 0) → Type 0
FirstGoes {T} word change first = (x : Memory) (a : Result T Fault) (y : Memory) → first x a y → (a ≡ word (store_of x)) × (store_of y ≡ change (store_of x)) × (lender y ≡ lender x)

-- a memory server before the rest of a row
module _ {Y : Type 0} {stores : Y → Row} {kept : Y → List GName} where
  pair_goes : {T : Type 0} (says : Store → Result T Fault) (change : Store → Store) (first : Memory → Result T Fault → Memory → Type 0) (others : Y → ℕ → Result T Fault → Y → Type 0)
      → FirstGoes says change first
      → GoesAs stores kept others says change
      → GoesAs (λ s. store_of s.0 ∷ stores s.1) (λ s. lender s.0 ∷ kept s.1) (λ (s : Pair Memory Y) i a t. Pairs (λ x y. first x a y) (λ x j y. others x j a y) s.0 s.1 i t.0 t.1) says change
  pair_goes word change first others one more s i a t r = go (i == 0) refl
    where
      go : (v : Bool) → (i == 0) ≡ v → (a ≡ said_at word (store_of s.0 ∷ stores s.1) i) × (store_of t.0 ∷ stores t.1 ≡ changed_at change (store_of s.0 ∷ stores s.1) i) × (lender t.0 ∷ kept t.1 ≡ lender s.0 ∷ kept s.1)
      go true v =
          let h = r.here (eqb-true i 0 v) in
          let q = one s.0 a t.0 h.0 in
          rw v (q.0, rw (q.1, h.1) refl, rw (q.2, h.1) refl)
      go false v =
          let n : i ≢ 0 = eqb-false i 0 v in
          let h = r.there (omega arith) in
          let q = more s.1 (i - 1) a t.1 h.0 in
          rw v (q.0, rw (q.1, h.1) refl, rw (q.2, h.1) refl)

  pub memory_before : {count : Y → ℕ} {means : Y → ℕ → Meaning} {steps : RowRule Y} {falls backs : Y → ℕ → Result (Unit {0}) Fault → Y → Type 0}
      → Modelled count means steps falls backs stores kept
      → Modelled (λ (s : Pair Memory Y). count s.1 + 1) (λ s. means_at (meant (store_of s.0)) (means s.1))
      (λ s i c a t. Pairs (λ x y. Stepped (store_of x) c a (store_of y) × (lender y ≡ lender x)) (λ x j y. steps x j c a y) s.0 s.1 i t.0 t.1)
      (λ s i a t. Pairs (λ x y. (a ≡ Ok tt) × ((store_of y ≡ fallen (store_of x)) × (lender y ≡ lender x))) (λ x j y. falls x j a y) s.0 s.1 i t.0 t.1)
      (λ s i a t. Pairs (λ x y. (a ≡ says_back (store_of x)) × (store_of y ≡ revived (store_of x)) × (lender y ≡ lender x)) (λ x j y. backs x j a y) s.0 s.1 i t.0 t.1)
      (λ s. store_of s.0 ∷ stores s.1) (λ s. lender s.0 ∷ kept s.1)
  memory_before {means = means} {steps = steps} {falls = falls} {backs = backs} m =
      record {
        counts = λ b. rw (m.counts b.1) (omega arith);
        meant = λ b. ap (λ f. means_at (meant (store_of b.0)) f) (m.meant b.1);
        asks = λ c. pair_goes (λ x. says x c) (λ x. after x c) (λ x a y. Stepped (store_of x) c a (store_of y) × (lender y ≡ lender x)) (λ x j a y. steps x j c a y) (λ x a y h. (h.0.says, h.0.leaves, h.1)) (m.asks c);
        felled = pair_goes (λ _. Ok tt) fallen (λ x a y. (a ≡ Ok tt) × ((store_of y ≡ fallen (store_of x)) × (lender y ≡ lender x))) falls (λ x a y h. (h.0, h.1.0, h.1.1)) m.felled;
        brought_back = pair_goes says_back revived (λ x a y. (a ≡ says_back (store_of x)) × (store_of y ≡ revived (store_of x)) × (lender y ≡ lender x)) backs (λ x a y h. h) m.brought_back;
      }
