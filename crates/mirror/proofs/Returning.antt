-- What bringing back its halves makes of a mirror.
use Rattle.std.proofs.Common.{◌≡◌, ℕ, ◌+◌, min, true, false, ◌||◌, ◌⊎◌, Ok, Err, sym, refl, ap, ◌∙◌, ap₂, inl, inr, ⊎_elim, arith}
use Rattle.std.proofs.lemmas.Bool.{both_ways, cases_Bool, or_parts, or_right}
use Rattle.page.specs.declared.faults.Fault.{Fault}
use Rattle.page.specs.declared.faults.Layer.TheVariants.{Mirror as InMirror}
use Rattle.server.specs.Meaning.{Meaning, Sound}
use Rattle.server.specs.Pulls.{Backs, Revived}
use Rattle.server.specs.Ways.{same_meaning}
use Rattle.mirror.specs.Joined.{first_of, joined, Paired}
use Rattle.mirror.specs.Rule.{Reply, either_done_of}
use Rattle.mirror.specs.Pulling.{worn, ReturnAtMost}
use Rattle.mirror.specs.Joining.{or_true}

module _ {m n : Meaning} {a : Reply} (b : Backs m a n) where
  same_or_revived : (n ≡ m) ⊎ ((m.up ≡ false) × Revived m n)
  same_or_revived = ⊎_elim (λ u. inl (b.up u).1) (λ d. ⊎_elim (λ r. inr (d, r.1)) (λ r. inl r.1) (b.down d)) (cases_Bool m.up)

  back_size : n.size ≡ m.size
  back_size = ⊎_elim (ap (λ (x : Meaning). x.size)) (λ r. r.1.2) same_or_revived

  back_era : n.era ≡ m.era
  back_era = ⊎_elim (ap (λ (x : Meaning). x.era)) (λ r. r.1.1) same_or_revived

  back_up : m.up ≡ true → n.up ≡ true
  back_up u = ap (λ (x : Meaning). x.up) (b.up u).1 ∙ u

  -- a server that comes back held nothing before and holds nothing after
  back_held : Sound m → (k : ℕ) → n.held k ≡ m.held k
  back_held sound k = ⊎_elim (ap (λ (x : Meaning). x.held k)) (λ r. r.1.3 k ∙ sym (sound.down r.0 k)) same_or_revived

  back_returns : ReturnAtMost m n
  back_returns = ⊎_elim inl (λ r. let e = r.1.1 in inr (record { size = r.1.2; was = r.0; is = r.1.0; era = omega arith; slots = r.1.3 })) same_or_revived

second_done : (f : Fault) (b d : Reply) → d ≡ Ok tt → either_done_of f b d ≡ Ok tt
second_done f (Ok x) d e = refl
second_done f (Err g) d e = ap (either_done_of f (Err g)) e

module _ {m n m' n' : Meaning} {b d : Reply} (om : Sound m) (on : Sound n) (f : Backs m b m') (g : Backs n d n') where
  size : (joined m' n').size ≡ (joined m n).size
  size = ap₂ min (back_size f) (back_size g)

  era : (joined m' n').era ≡ (joined m n).era
  era = ap₂ ◌+◌ (back_era f) (back_era g)

  held : (k : ℕ) → (joined m' n').held k ≡ (joined m n).held k
  held k = ap₂ first_of (back_held f om k) (back_held g on k)

  pub paired_back : Paired m n → Paired m' n'
  paired_back o = record {
    agree = λ k p q x y. o.agree k p q (sym (back_held f om k) ∙ x) (sym (back_held g on k) ∙ y);
    past = λ k l. held k ∙ o.past k (omega (arith, size));
  }

  stays_up : (joined m n).up ≡ true → (either_done_of worn b d ≡ Ok tt) × ((joined m' n').up ≡ true)
  stays_up u =
      ⊎_elim
      (λ v. (ap (λ (x : Reply). either_done_of worn x d) (f.up v).0, ap (λ x. x || n'.up) (back_up f v)))
      (λ v. (second_done worn b d (g.up v.1).0, or_right m'.up n'.up (back_up g v.1)))
      (or_true m.up n.up u)

  revives : (joined m n).up ≡ false → (joined m' n').up ≡ true → Revived (joined m n) (joined m' n')
  revives v u = let e = or_parts m.up n.up v in (u, era, size, λ k. held k ∙ ap₂ first_of (om.down e.0 k) (on.down e.1 k))

  pub joined_backs : Backs (joined m n) (either_done_of worn b d) (joined m' n')
  joined_backs = record {
    up = λ u. let r = stays_up u in (r.0, same_meaning size (r.1 ∙ sym u) era held);
    down = λ v. let e = or_parts m.up n.up v in
        ⊎_elim
        (λ r. inl (ap (λ (x : Reply). either_done_of worn x d) r.0, revives v (ap (λ x. x || n'.up) r.1.0)))
        (λ r. ⊎_elim
        (λ t. inl (second_done worn b d t.0, revives v (or_right m'.up n'.up t.1.0)))
        (λ t. inr ((InMirror, tt, ap₂ (either_done_of worn) r.0.2 t.0.2), ap₂ joined r.1 t.1))
        (g.down e.1))
        (f.down e.0);
  }

-- a half that is left alone: up it would say so, and down it may be worn
left_alone : (m : Meaning) → (a : Reply) × Backs m a m
left_alone m =
    ⊎_elim
    (λ u. (Ok tt, record { up = λ _. (refl, refl); down = λ d. absurd (both_ways m.up d u) }))
    (λ d. (Err worn, record { up = λ u. absurd (both_ways m.up d u); down = λ _. inr ((InMirror, tt, refl), refl) }))
    (cases_Bool m.up)

pub first_return : {m n m' : Meaning} {a : Reply} → Sound m → Sound n → Backs m a m' → ReturnAtMost (joined m n) (joined m' n)
first_return {n = n} om on f = back_returns (joined_backs om on f (left_alone n).1)

pub second_return : {m n n' : Meaning} {a : Reply} → Sound m → Sound n → Backs n a n' → ReturnAtMost (joined m n) (joined m n')
second_return {m} om on f = back_returns (joined_backs om on (left_alone m).1 f)
