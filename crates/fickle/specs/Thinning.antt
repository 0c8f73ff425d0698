-- What may come over a server before a call, so that the two together are one call.
use Rattle.std.specs.Prelude.{◌≡◌, ℕ, ◌+◌, true, false, List, Ok, refl}
use Rattle.std.proofs.Common.{sym, ap, subst, ◌∙◌, inl, inr, ⊎_elim, arith}
use Rattle.std.proofs.lemmas.Bool.{cases_Bool}
use Rattle.server.specs.Meaning.{Meaning, Sound}
use Rattle.server.specs.Calls.{Call, to_get, slot_of, Answer, Denied}
use Rattle.server.specs.Steps.{Fine, Step}
use Rattle.server.specs.Ways.{clash, named_raised}
use Rattle.fickle.specs.Rule.{with_losses}
use Rattle.fickle.specs.Leaving.{still_same_or_nothing, emptied_raised, others_fewer, Emptier, get_empties, get_still}

-- slots are emptied only where the era rises, and a server that is down is left
pub record Thinned (m n : Meaning) : Type 0 where
  pub empties : Emptier m n
  pub still : n.era ≡ m.era → n ≡ m
  pub down : m.up ≡ false → n ≡ m

pub thinned_step : {m n p : Meaning} (c : Call) {a : Answer c} → Thinned m n → Sound n → Fine m c → Step n c a p → Step m c a p
thinned_step {m} {n} {p} c {a} t sound fine step = record {
  long = λ bad. absurd (bad fine.0);
  past = λ _ q. let z : ⊥ = omega (arith, fine.1) in absurd z;
  down = λ _ d. (unharmed (t.down d)).down fine d;
  kept = λ _ u e. (unharmed (t.still (omega (arith, t.empties.era, step.era)))).kept fine u e;
  raised = λ _ _ _. (λ k ne. still_same_or_nothing (t.empties.slots k) (others_fewer c sound fits step k ne), emptied_raised c _ _ a _ (t.empties.slots (slot_of c)) (named_raised c sound fits step));
  size = step.size ∙ t.empties.size;
  era = omega (arith, t.empties.era, step.era);
}
  where
    unharmed : n ≡ m → Step m c a p
    unharmed e = subst (λ (x : Meaning). Step x c a p) e step

    fits : Fine n c
    fits = (fine.0, omega (arith, fine.1, t.empties.size))

pub losses_step : {m n : Meaning} (l : ℕ) (c : Call) {a : Answer c} → Step m c a n → Step (with_losses l m) c a (with_losses l n)
losses_step l c step = record {
  long = λ bad. let r = step.long bad in (r.0, ap (with_losses l) r.1);
  past = λ f q. let r = step.past f q in (r.0, ap (with_losses l) r.1);
  down = λ f d. let r = step.down f d in (r.0, ap (with_losses l) r.1);
  kept = λ f u e. step.kept f u (omega arith);
  raised = λ f u e. step.raised f u (omega arith);
  size = step.size;
  era = omega (arith, step.era);
}

pub losses_sound : (l : ℕ) {m : Meaning} → Sound m → Sound (with_losses l m)
losses_sound l sound = record { down = sound.down; past = sound.past }

-- a server that hands over a page is up
pub delivered_up : {m n : Meaning} (s l : ℕ) (p : List ℕ) → Fine m (to_get s l) → Step m (to_get s l) (Ok p) n → m.up ≡ true
delivered_up {m} s l p fine step = ⊎_elim (λ u. u) (λ d. not_denied (step.down fine d).0) (cases_Bool m.up)
  where
    not_denied : Denied (Ok p) s → m.up ≡ true
    not_denied (inl x) = let e = x.2 in clash (cc)
    not_denied (inr x) = let e = x.2 in clash (cc)

pub get_thins : {m n : Meaning} (s l : ℕ) {a : Answer (to_get s l)} → Sound m → Fine m (to_get s l) → Step m (to_get s l) a n → Thinned m n
get_thins s l sound fine step = record { empties = get_empties s l sound fine step; still = get_still s l fine step; down = λ d. (step.down fine d).1 }

-- a loss that is counted
pub lost_thins : {m n : Meaning} (l : ℕ) → m.up ≡ true → Emptier m n → Thinned (with_losses l m) (with_losses (l + 1) n)
lost_thins {m} {n} l u f = record {
  empties = record { size = f.size; era = omega (arith, f.era); slots = f.slots };
  still = λ e. let z : ⊥ = omega (arith, f.era) in absurd z;
  down = λ d. clash (cc);
}

pub unharmed_thins : {m n : Meaning} → n ≡ m → Thinned m n
unharmed_thins {m} e = subst (Thinned m) (sym e) (record { empties = record { size = refl; era = omega arith; slots = λ _. inl refl }; still = λ _. refl; down = λ _. refl })
