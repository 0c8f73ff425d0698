-- Why good order outlives the losses and returns of the halves.
use Rattle.std.proofs.Common.{◌≡◌, ℕ, ◌<◌, ◌≤◌, min, true, false, ◌||◌, sym, refl, ap, ap₂, subst, ◌∙◌, inl, inr, ⊎_elim, arith}
use Rattle.std.proofs.lemmas.Bool.{both_ways, cases_Bool, or_right}
use Rattle.server.specs.Meaning.{Meaning, Sound, Loss, Return, MayBecome, SameOrNothing}
use Rattle.server.specs.Ways.{same_or_more, same_meaning}
use Rattle.mirror.specs.Joined.{first_of, joined, Paired}
use Rattle.mirror.specs.Joining.{or_true, fewer_copies, fewer_joined, paired_sound}
use Rattle.mirror.specs.Outliving.{Outlives, OrderOutlives}

-- what a change between calls leaves of a server; with its era it keeps what it held, and is up if it was
record Wanes (m n : Meaning) : Type 0 where
  size : n.size ≡ m.size
  era : m.era ≤ n.era
  slots : (k : ℕ) → SameOrNothing (m.held k) (n.held k)
  sound : Sound n
  held : n.era ≡ m.era → (k : ℕ) → n.held k ≡ m.held k
  up : n.era ≡ m.era → m.up ≡ true → n.up ≡ true

wanes : {m n : Meaning} → Sound m → MayBecome m n → Wanes m n
wanes {m} sound (inl e) = subst (Wanes m) (sym e) (record { size = refl; era = omega arith; slots = λ _. inl refl; sound = sound; held = λ _ _. refl; up = λ _ u. u })
wanes sound (inr (inl l)) = record {
  size = l.size;
  era = omega (arith, l.era);
  slots = l.slots;
  sound = l.sound;
  held = λ e. let z : ⊥ = omega (arith, l.era) in absurd z;
  up = λ e. let z : ⊥ = omega (arith, l.era) in absurd z;
}
wanes {n = n} sound (inr (inr r)) = record {
  size = r.size;
  era = r.era;
  slots = λ k. inr (r.slots k);
  sound = record { down = λ d. absurd (both_ways n.up d r.is); past = λ k _. r.slots k };
  held = λ _ k. r.slots k ∙ sym (sound.down r.was k);
  up = λ _ _. r.is;
}

module _ {m n m' n' : Meaning} (om : Sound m) (on : Sound n) (o : Paired m n) (f : Wanes m m') (g : Wanes n n') where
  size : (joined m' n').size ≡ (joined m n).size
  size = ap₂ min f.size g.size

  fewer : (k : ℕ) → SameOrNothing ((joined m n).held k) ((joined m' n').held k)
  fewer k = fewer_joined (m.held k) (n.held k) (m'.held k) (n'.held k) (o.agree k) (f.slots k) (g.slots k)

  still_paired : Paired m' n'
  still_paired = record {
    agree = λ k. fewer_copies (m.held k) (n.held k) (m'.held k) (n'.held k) (o.agree k) (f.slots k) (g.slots k);
    past = λ k l. ⊎_elim (λ e. e ∙ o.past k (omega (arith, size))) (λ e. e) (fewer k);
  }

  lost : (joined m n).era < (joined m' n').era → Loss (joined m n) (joined m' n')
  lost l = record { size = size; era = l; slots = fewer; sound = paired_sound m' n' f.sound g.sound still_paired }

  module _ (e : (joined m' n').era ≡ (joined m n).era) where
    eras : (m'.era ≡ m.era) × (n'.era ≡ n.era)
    eras = (omega (arith, f.era, g.era), omega (arith, f.era, g.era))

    held : (k : ℕ) → (joined m' n').held k ≡ (joined m n).held k
    held k = ap₂ first_of (f.held eras.0 k) (g.held eras.1 k)

    stays_up : (joined m n).up ≡ true → (joined m' n').up ≡ true
    stays_up u = ⊎_elim (λ v. ap (λ x. x || n'.up) (f.up eras.0 v)) (λ v. or_right m'.up n'.up (g.up eras.1 v.1)) (or_true m.up n.up u)

    same : (joined m' n').up ≡ (joined m n).up → joined m' n' ≡ joined m n
    same u = same_meaning size u e held

    returned : (joined m n).up ≡ false → (joined m' n').up ≡ true → Return (joined m n) (joined m' n')
    returned d u = record { size = size; was = d; is = u; era = omega arith; slots = λ k. held k ∙ (paired_sound m n om on o).down d k }

    kept : MayBecome (joined m n) (joined m' n')
    kept =
        ⊎_elim
        (λ u. inl (same (stays_up u ∙ sym u)))
        (λ d. ⊎_elim (λ u. inr (inr (returned d u))) (λ v. inl (same (v ∙ sym d))) (cases_Bool (joined m' n').up))
        (cases_Bool (joined m n).up)

  outlives : Outlives m n m' n'
  outlives = record {
    first = f.sound;
    second = g.sound;
    paired = still_paired;
    mirror = ⊎_elim kept (λ l. inr (inl (lost l))) (same_or_more (joined m n).era (joined m' n').era (omega (arith, f.era, g.era)));
  }

pub order_outlives : OrderOutlives
order_outlives m n m' n' om on o a b = outlives om on o (wanes om a) (wanes on b)
