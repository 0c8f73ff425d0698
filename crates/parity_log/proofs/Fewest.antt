-- What the choice of the closed group with the fewest live positions gives.
use Rattle.std.proofs.Common.{◌≡◌, ℕ, ◌<◌, ◌≤◌, Bool, true, ltb, List, [], ◌∷◌, Some, None, fold, filter, Option, refl, ap, ◌∙◌, subst, zero-add, arith}
use Rattle.std.specs.List.{range_with_len, ContainsAt as Has, AllByRecursion as All}
use Rattle.std.proofs.lemmas.List.FromFn.{length-range_with_len, get_or-range_with_len}
use Rattle.std.proofs.ByRecursion.{All-get_or, all-has, all_has_itself, all_kept_by, kept_by_passes}
use Rattle.std.proofs.lemmas.Bool.{ltb-true, ltb-false, both_ways, false≢true, cond_both}
use Rattle.parity_log.specs.declared.records.GroupState.{GroupState}
use Rattle.parity_log.specs.declared.records.GroupState.TheVariants.{Free, Open, Closed}
use Rattle.parity_log.specs.declared.records.Tables.{Tables}
use Rattle.parity_log.specs.Tables.{state_of, is_closed, live}
use Rattle.parity_log.specs.Choices.{fewer, fewest_live}
use Rattle.parity_log.proofs.Counting.{all_counting}

-- of a list whose elements all have P: an element with the least count, or none where there is none
abbrev Least : (ℕ → ℕ) → (ℕ → Type 0) → List ℕ → Option ℕ → Type 0
Least count P xs None = All (λ _. ⊥) xs
Least count P xs (Some c) = P c × All (λ x. count c ≤ count x) xs

module _ (count : ℕ → ℕ) (P : ℕ → Type 0) where
  least_from : (b : ℕ) (xs : List ℕ) → All P (b ∷ xs) → (c : ℕ) × (fold (fewer count) (Some b) xs ≡ Some c) × Least count P (b ∷ xs) (Some c)
  least_from b [] h = (b, refl, (h.0, (omega arith, tt)))
  least_from b (x ∷ xs) h = cond_both (ltb (count x) (count b)) (Some x) (Some b) (λ o. (c : ℕ) × (fold (fewer count) o xs ≡ Some c) × Least count P (b ∷ x ∷ xs) (Some c))
      (λ e. let r = least_from x xs h.1 in (r.0, r.1, (r.2.0, (omega (arith, ltb-true (count x) (count b) e, r.2.1.0), r.2.1))))
      (λ e. let r = least_from b xs (h.0, h.1.1) in (r.0, r.1, (r.2.0, (r.2.1.0, (omega (arith, ltb-false (count x) (count b) e, r.2.1.0), r.2.1.1)))))

  least_of : (xs : List ℕ) → All P xs → Least count P xs (fold (fewer count) None xs)
  least_of [] h = tt
  least_of (x ∷ xs) h = let r = least_from x xs h in rw r.1 r.2

-- what holds of all numbers below n, and of all that a filter keeps, holds of each
module _ (P : ℕ → Type 0) where
  counting_all : (n k : ℕ) → k < n → All P (range_with_len 0 n) → P k
  counting_all n k l h = subst P (get_or-range_with_len 0 n k 0 l ∙ zero-add k) (All-get_or P (range_with_len 0 n) k 0 (rw length-range_with_len l) h)

  kept_all : (p : ℕ → Bool) (xs : List ℕ) → All P (filter p xs) → All (λ x. p x ≡ true → P x) xs
  kept_all p [] h = tt
  kept_all p (x ∷ xs) h = cond_both (p x) (x ∷ filter p xs) (filter p xs) (λ l. All P l → All (λ y. p y ≡ true → P y) (x ∷ xs))
      (λ _ k. (λ _. k.0, kept_all p xs k.1))
      (λ e k. (λ e'. absurd (both_ways (p x) e e'), kept_all p xs k)) h

pub closed_from : (s : GroupState) → is_closed s ≡ true → s ≡ Closed
closed_from Free e = absurd (false≢true e)
closed_from Open e = absurd (false≢true e)
closed_from Closed e = refl

abbrev closed_groups : Tables → List ℕ
closed_groups v = filter (λ g. is_closed (state_of v g)) (range_with_len 0 v.shape.groups)

-- a closed group that has no more live positions than any other, or none where no group is closed
abbrev pub Chosen : Tables → Option ℕ → Type 0
Chosen v None = (g : ℕ) → g < v.shape.groups → state_of v g ≡ Closed → ⊥
Chosen v (Some c) = (c < v.shape.groups) × (state_of v c ≡ Closed) × ((g : ℕ) → g < v.shape.groups → state_of v g ≡ Closed → live v c ≤ live v g)

module _ (v : Tables) where
  closed_all : (P : ℕ → Type 0) (g : ℕ) → g < v.shape.groups → state_of v g ≡ Closed → All P (closed_groups v) → P g
  closed_all P g l e h = counting_all (λ k. is_closed (state_of v k) ≡ true → P k) v.shape.groups g l (kept_all P (λ k. is_closed (state_of v k)) _ h) (ap is_closed e)

  chosen_from : (o : Option ℕ) → Least (live v) (Has (closed_groups v)) (closed_groups v) o → Chosen v o
  chosen_from None h = λ g l e. closed_all (λ _. ⊥) g l e h
  chosen_from (Some c) h = (
    all-has (λ g. g < v.shape.groups) (closed_groups v) c (all_kept_by _ _ _ (all_counting _ 0 v.shape.groups (λ k l. omega arith))) h.0,
    closed_from (state_of v c) (all-has (λ g. is_closed (state_of v g) ≡ true) (closed_groups v) c (kept_by_passes (λ g. is_closed (state_of v g)) (range_with_len 0 v.shape.groups)) h.0),
    λ g l e. closed_all (λ k. live v c ≤ live v k) g l e h.1,
  )

  pub fewest_chosen : Chosen v (fewest_live v)
  unfolding fewest_live
  fewest_chosen = chosen_from _ (least_of (live v) (Has (closed_groups v)) (closed_groups v) (all_has_itself _))

  pub fewest_exists : (g : ℕ) → g < v.shape.groups → state_of v g ≡ Closed → (c : ℕ) × (fewest_live v ≡ Some c) × Chosen v (Some c)
  fewest_exists g l closed = elim (fewest_live v) as (λ o. Chosen v o → (c : ℕ) × (o ≡ Some c) × Chosen v (Some c)) [ None ↦ λ h. absurd (h g l closed) | Some c ↦ λ h. (c, refl, h) ] fewest_chosen
