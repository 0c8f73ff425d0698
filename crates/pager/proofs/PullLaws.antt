-- A server that is made to fall or is brought back: what it leaves, and the turn that it is.
use Rattle.std.proofs.Common.{◌≡◌, ℕ, ◌<◌, Bool, true, false, Result, sym, refl, ap, subst, inl, inr, ⊎_elim, arith}
use Rattle.std.proofs.lemmas.Bool.{cases_eq, cases_lt}
use Rattle.page.specs.declared.faults.Fault.{Fault}
use Rattle.server.specs.Meaning.{Meaning}
use Rattle.server.specs.Pulls.{Falls, Backs}
use Rattle.bank.specs.Pulling.{Fell}
use Rattle.bank.specs.Rows.{RowRule, Rowed, Reaches}
use Rattle.parity_log.specs.LogState.{LogState}
use Rattle.law.specs.Rows.{Row}
use Rattle.law.specs.Runs.{Moment, loses, returns}
use Rattle.pager.specs.declared.log.Log.{Log}
use Rattle.pager.specs.Moments.{AtMost, log_state}
use Rattle.pager.specs.Order.{Ordered}
use Rattle.pager.proofs.Fitting.{reached_ordered}

backs_size : (m : Meaning) (a : Result (Unit {0}) Fault) (n : Meaning) → Backs m a n → n.size ≡ m.size
backs_size m a n r = go m.up refl
  where
    go : (u : Bool) → m.up ≡ u → n.size ≡ m.size
    go true u = ap (λ (x : Meaning). x.size) (r.up u).1
    go false u = ⊎_elim (λ came. came.1.2) (λ worn. ap (λ (x : Meaning). x.size) worn.1) (r.down u)

abbrev moment : LogState → ℕ → Row → Moment
moment l n r = record { log = l; servers = n; row = r }

-- something was asked of server k, by whatever rule
module _ {B : Type 0} (count : B → ℕ) (means : B → ℕ → Meaning) (b e : B) (k : ℕ) (a : Result (Unit {0}) Fault) (rule : Meaning → Result (Unit {0}) Fault → Meaning → Type 0) (moved : Reaches rule (count b) (means b) k a (count e) (means e)) where
  -- where every server means what it meant, nothing happened
  unmoved : (l : LogState) → ((j : ℕ) → means e j ≡ means b j) → moment l (count e) (means e) ≡ moment l (count b) (means b)
  unmoved l same i = record { log = l; servers = moved.keeps i; row = λ j. same j i }

  own_unmoved : (l : LogState) → means e k ≡ means b k → moment l (count e) (means e) ≡ moment l (count b) (means b)
  own_unmoved l own = unmoved l (λ j. ⊎_elim (λ same. subst (λ (i : ℕ). means e i ≡ means b i) (sym same) own) (λ other. moved.others j other) (cases_eq j k))

module _ {B : Type 0} (count : B → ℕ) (means : B → ℕ → Meaning) (steps : RowRule B) (laws : Rowed count means steps) (b e : B) (l : LogState) (k : ℕ) (a : Result (Unit {0}) Fault) where
  -- a server that was up lost all, and for one that was down nothing happened
  pub falls_turn : Reaches Fell (count b) (means b) k a (count e) (means e) → AtMost (moment l (count b) (means b)) (loses k) (moment l (count e) (means e))
  falls_turn moved = ⊎_elim (λ here. fell here (moved.here here).1 (means b k).up refl) (λ past. inl (unmoved count means b e k a Fell moved l (moved.past past).1)) (cases_lt k (count b))
    where
      fell : k < count b → Falls (means b k) (means e k) → (u : Bool) → (means b k).up ≡ u → AtMost (moment l (count b) (means b)) (loses k) (moment l (count e) (means e))
      fell here f false u = inl (own_unmoved count means b e k a Fell moved l (f.down u))
      fell here f true u = inr (record {
        servers = moved.keeps;
        goes = (here, record { size = f.size; era = (f.up u).1; slots = λ j. inr ((f.up u).2 j); sound = laws.sound e k (subst (λ (n : ℕ). k < n) (sym moved.keeps) here) }, moved.others, refl);
      })

  -- a server that was down came up empty, or nothing happened
  pub backs_turn : Reaches Backs (count b) (means b) k a (count e) (means e) → AtMost (moment l (count b) (means b)) (returns k) (moment l (count e) (means e))
  backs_turn moved = ⊎_elim (λ here. came here (moved.here here) (means b k).up refl) (λ past. inl (unmoved count means b e k a Backs moved l (moved.past past).1)) (cases_lt k (count b))
    where
      came : k < count b → Backs (means b k) a (means e k) → (u : Bool) → (means b k).up ≡ u → AtMost (moment l (count b) (means b)) (returns k) (moment l (count e) (means e))
      came here r true u = inl (own_unmoved count means b e k a Backs moved l (r.up u).1)
      came here r false u = ⊎_elim
          (λ done. let new = done.1 in let era = new.1 in inr (record { servers = moved.keeps; goes = (here, record { size = new.2; was = u; is = new.0; era = omega arith; slots = new.3 }, moved.others, refl) }))
          (λ worn. inl (own_unmoved count means b e k a Backs moved l worn.1))
          (r.down u)

module _ {B : Type 0} (count : B → ℕ) (means : B → ℕ → Meaning) (p q : Log B) (same : log_state q ≡ log_state p) (k : ℕ) (a : Result (Unit {0}) Fault) (h : Ordered count means p) where
  pub falls_ordered : Reaches Fell (count p.bank) (means p.bank) k a (count q.bank) (means q.bank) → Ordered count means q
  falls_ordered moved = reached_ordered count means Fell k a (λ m n f. f.1.size) p q same moved h

  pub backs_ordered : Reaches Backs (count p.bank) (means p.bank) k a (count q.bank) (means q.bank) → Ordered count means q
  backs_ordered moved = reached_ordered count means Backs k a (λ m n r. backs_size m a n r) p q same moved h
