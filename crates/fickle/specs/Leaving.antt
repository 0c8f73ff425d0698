-- What a call in good form leaves of a server, whether it is up or down.
use Rattle.std.specs.Prelude.{◌≡◌, ℕ, ◌≤◌, true, ◌==◌, refl}
use Rattle.std.proofs.Common.{sym, ap, subst, ◌∙◌, inl, inr, ⊎_elim, arith, eqb-true}
use Rattle.std.proofs.lemmas.Bool.{cases_Bool, eqb-false}
use Rattle.server.specs.Meaning.{Held, Meaning, Sound, SameOrNothing}
use Rattle.server.specs.Calls.{Call, to_put, to_get, to_free, slot_of, Answer}
use Rattle.server.specs.Steps.{Fine, Raised, Fewer, Step}
use Rattle.server.specs.Pulls.{Falls}
use Rattle.server.specs.Ways.{clash, same_or_more, same_meaning, named_raised}

pub still_same_or_nothing : {h k l : Held} → SameOrNothing h k → SameOrNothing k l → SameOrNothing h l
still_same_or_nothing e (inr f) = inr f
still_same_or_nothing (inl e) (inl f) = inl (f ∙ e)
still_same_or_nothing (inr e) (inl f) = inr (f ∙ e)

-- a slot that was emptied before the call is to the caller a slot that the call lost
pub emptied_raised : (c : Call) (h i : Held) (a : Answer c) (k : Held) → SameOrNothing h i → Raised c i a k → Raised c h a k
emptied_raised (to_put s p) h i a k e r = r
emptied_raised (to_get s n) h i a k (inl e) (inl r) = inl (r.0, sym e ∙ r.1, r.2, r.3)
emptied_raised (to_get s n) h i a k (inr e) (inl r) = let f = r.1 in clash (cc)
emptied_raised (to_get s n) h i a k e (inr r) = inr r
emptied_raised (to_free s) h i a k e r = r

module _ {m n : Meaning} (c : Call) {a : Answer c} (sound : Sound m) (fine : Fine m c) (step : Step m c a n) where
  pub others_fewer : Fewer m n (slot_of c)
  others_fewer =
      ⊎_elim
      (λ u. ⊎_elim (λ e k ne. inl ((step.kept fine u e).1 k ne)) (λ l. (step.raised fine u l).0) (same_or_more m.era n.era step.era))
      (λ d k _. inl (ap (λ (x : Meaning). x.held k) (step.down fine d).1))
      (cases_Bool m.up)

-- as large, with no smaller era, and each slot holds what it held or nothing
pub record Emptier (m n : Meaning) : Type 0 where
  pub size : n.size ≡ m.size
  pub era : m.era ≤ n.era
  pub slots : (k : ℕ) → SameOrNothing (m.held k) (n.held k)

pub emptier_still : {l m n : Meaning} → Emptier l m → Emptier m n → Emptier l n
emptier_still f g = record { size = g.size ∙ f.size; era = omega (arith, f.era, g.era); slots = λ k. still_same_or_nothing (f.slots k) (g.slots k) }

-- a call that puts nothing
call_empties : {m n : Meaning} (c : Call) {a : Answer c} → Sound m → Fine m c → Step m c a n → ((h k : Held) → Raised c h a k → SameOrNothing h k) → Emptier m n
call_empties {m} {n} c sound fine step spares = record {
  size = step.size;
  era = step.era;
  slots = λ k.
      ⊎_elim
      (λ e. subst (λ (j : ℕ). SameOrNothing (m.held j) (n.held j)) (sym (eqb-true k (slot_of c) e)) (spares _ _ (named_raised c sound fine step)))
      (λ e. others_fewer c sound fine step k (eqb-false k (slot_of c) e))
      (cases_Bool (k == slot_of c));
}

pub get_empties : {m n : Meaning} (s l : ℕ) {a : Answer (to_get s l)} → Sound m → Fine m (to_get s l) → Step m (to_get s l) a n → Emptier m n
get_empties s l sound fine step = call_empties (to_get s l) sound fine step (λ h k r. ⊎_elim (λ g. inl (g.3 ∙ sym g.1)) (λ d. inr d.1) r)

pub free_empties : {m n : Meaning} (s : ℕ) {a : Answer (to_free s)} → Sound m → Fine m (to_free s) → Step m (to_free s) a n → Emptier m n
free_empties s sound fine step = call_empties (to_free s) sound fine step (λ h k r. inr r.1)

pub fall_empties : {m n : Meaning} → Falls m n → Emptier m n
fall_empties {m} {n} f =
    ⊎_elim
    (λ u. let l = (f.up u).1 in record { size = f.size; era = omega arith; slots = λ k. inr ((f.up u).2 k) })
    (λ d. subst (Emptier m) (sym (f.down d)) (record { size = refl; era = omega arith; slots = λ _. inl refl }))
    (cases_Bool m.up)

-- a get on a server whose era is kept changes nothing of what it means
pub get_still : {m n : Meaning} (s l : ℕ) {a : Answer (to_get s l)} → Fine m (to_get s l) → Step m (to_get s l) a n → n.era ≡ m.era → n ≡ m
get_still {m} {n} s l fine step e = ⊎_elim up (λ d. (step.down fine d).1) (cases_Bool m.up)
  where
    up : m.up ≡ true → n ≡ m
    up u =
        let k = step.kept fine u e in
        same_meaning step.size (k.0 ∙ sym u) e (λ j. ⊎_elim (λ f. subst (λ (i : ℕ). n.held i ≡ m.held i) (sym (eqb-true j s f)) k.2.1) (λ f. k.1 j (eqb-false j s f)) (cases_Bool (j == s)))
