-- The search for the group with the fewest live positions: the first of those with the least count.
use denote.Param.Members.{Mut}
use denote.Ref.{Bor}
use Rattle.std.proofs.Common.{◌≡◌, ℕ, ◌<◌, List, [], ◌∷◌, Some, None, fold, Option, sym, refl, ap, ◌∙◌, subst, arith}
use Rattle.std.specs.declared.cmp.Ordering.{Ordering}
use Rattle.std.specs.declared.cmp.Ordering.TheVariants.{Less, Equal, Greater}
use Rattle.std.specs.Fn.{CalledAt}
use Rattle.std.specs.Iterator.{KeyTurn, PicksMinByKey}
use Rattle.std.specs.List.{FoldsTo}
use Rattle.std.specs.Ordering.{nat_cmp, min_by_ordering}
use Rattle.std.proofs.lemmas.Bool.{lt-ltb, le-ltb}
use Rattle.std.proofs.lemmas.Cmp.{ranked}
use Rattle.std.proofs.lemmas.Iterator.{YieldsList, items_from_drains}
use Rattle.std.proofs.lemmas.List.{map-id}
use Rattle.parity_log.specs.Choices.{fewer}

-- the lesser of two by their counts, and the first where they have as many
fewer_is : (count : ℕ → ℕ) (b x : ℕ) (o : Ordering) → nat_cmp (count b) (count x) ≡ o → fewer count (Some b) x ≡ Some (min_by_ordering o b x)
fewer_is count b x Less e = let l : count b < count x = ranked (count b) (count x) Less (sym e) in rw (le-ltb (count x) (count b) (omega arith))
fewer_is count b x Equal e = let l : count b ≡ count x = ranked (count b) (count x) Equal (sym e) in rw (le-ltb (count x) (count b) (omega arith))
fewer_is count b x Greater e = let l : count x < count b = ranked (count b) (count x) Greater (sym e) in rw (lt-ltb (count x) (count b) l)

counted_min : (count : ℕ → ℕ) (b x : ℕ) (o : Ordering) → count (min_by_ordering o b x) ≡ min_by_ordering o (count b) (count x)
counted_min count b x Less = refl
counted_min count b x Equal = refl
counted_min count b x Greater = refl

-- what `min_by_key` picks, by keys that are counts
module _ {F : Type 0} (g : Mut F (Bor ℕ × Unit {0}) ℕ) (count : ℕ → ℕ) (f : F) (counts : (x k : ℕ) (q : F) → CalledAt g f x k q → (q ≡ f) × (k ≡ count x)) where
  folds : (p q : (F × ℕ) × ℕ) (xs : List ℕ) → p.0.0 ≡ f → p.0.1 ≡ count p.1 → FoldsTo {P = (F × ℕ) × ℕ} (KeyTurn min_by_ordering min_by_ordering g nat_cmp) p xs q → fold (fewer count) (Some p.1) xs ≡ Some q.1
  folds p q [] a k h = ap {B = Option ℕ} (λ (w : (F × ℕ) × ℕ). Some w.1) h
  folds p q (x ∷ xs) a k h =
      let t = h.1 in
      let m = counts x t.0 h.0.0.0 (subst (λ (w : F). CalledAt g w x t.0 h.0.0.0) a t.2) in
      let order = sym (ap (λ (n : ℕ). nat_cmp n t.0) k ∙ ap (nat_cmp (count p.1)) m.1) ∙ t.3 in
      let key = t.4 ∙ ap (λ (n : ℕ). min_by_ordering t.1 n t.0) k ∙ ap (min_by_ordering t.1 (count p.1)) m.1 ∙ sym (counted_min count p.1 x t.1) ∙ ap count (sym t.5) in
      ap (λ o. fold (fewer count) o xs) (fewer_is count p.1 x t.1 order ∙ ap Some (sym t.5)) ∙ folds h.0 q xs m.0 key h.2

  pub fewest_from_picks : {S : Type 0} {steps : S → Option ℕ → S → Type 0} {all : List ℕ} (s : S) (r : Option ℕ) → PicksMinByKey steps g nat_cmp s f r → YieldsList steps (λ x. x) s all → r ≡ fold (fewer count) None all
  fewest_from_picks {S} {steps} {all} s None h e = ap (fold (fewer count) None) (items_from_drains [] (h.1.0, h.1.1, λ _. (h.0, h.1.2)) e)
  fewest_from_picks {S} {steps} {all} s (Some y) h e =
      let m = counts h.0 h.2 h.3 h.6 in
      let d = h.5 in
      sym (folds ((h.3, h.2), h.0) (h.4, y) h.1 m.0 m.1 h.7) ∙ ap (fold (fewer count) None) (sym (map-id (h.0 ∷ h.1)) ∙ items_from_drains (h.0 ∷ h.1) (d.1.0, d.1.1, λ _. (d.0, d.1.2)) e)
