-- Lists of server numbers, those but one, and what is added up over a list.
use Rattle.std.proofs.Common.{◌≡◌, ℕ, zero, suc, ◌+◌, ◌<◌, ◌≤◌, not, eqb, List, [], ◌∷◌, filter, refl, ap, ◌∙◌, inl, inr, arith, eq-eqb, ne_eqb}
use Rattle.std.specs.List.{range_with_len, AllByRecursion as All}
use Rattle.std.proofs.lemmas.Bool.{cases_eq}

-- what f gives at the numbers of a list, added up
abbrev pub over : {M : Type 0} → (M → M → M) → M → (ℕ → M) → List ℕ → M
over add none f [] = none
over add none f (k ∷ ks) = add (f k) (over add none f ks)

abbrev pub Apart : List ℕ → Type 0
Apart [] = Unit {0}
Apart (k ∷ ks) = All (λ j. j ≡ k → ⊥) ks × Apart ks

abbrev pub but : ℕ → List ℕ → List ℕ
but i ks = filter (λ m. not (eqb m i)) ks

pub all_both : (P Q R : ℕ → Type 0) (ks : List ℕ) → All P ks → All Q ks → ((k : ℕ) → P k → Q k → R k) → All R ks
all_both P Q R [] p q f = tt
all_both P Q R (k ∷ ks) p q f = (f k p.0 q.0, all_both P Q R ks p.1 q.1 f)

counting_but : (i from n : ℕ) → i < from → but i (range_with_len from n) ≡ range_with_len from n
counting_but i from zero h = refl
counting_but i from (suc n) h = rw (ne_eqb from i (λ e. omega arith)) (ap (λ l. from ∷ l) (counting_but i (from + 1) n (omega arith)))

pub all_but : (P : ℕ → Type 0) (i from n : ℕ) → ((k : ℕ) → from ≤ k → k < from + n → (k ≡ i → ⊥) → P k) → All P (but i (range_with_len from n))
all_but P i from zero f = tt
all_but P i from (suc n) f =
    let rest = all_but P i (from + 1) n (λ k h l. f k (omega arith) (omega arith)) in
    elim (cases_eq from i) [
      | inl e ↦ rw (eq-eqb from i e) rest
      | inr ne ↦ rw (ne_eqb from i ne) (f from (omega arith) (omega arith) ne, rest)
    ]

pub all_at : (P : ℕ → Type 0) (i from n : ℕ) → All P (but i (range_with_len from n)) → (k : ℕ) → from ≤ k → k < from + n → (k ≡ i → ⊥) → P k
all_at P i from zero l k h m ne = absurd (omega arith)
all_at P i from (suc n) l k h m ne = elim (cases_eq k from) [
  | inl e ↦ let f : from ≡ i → ⊥ = λ x. ne (e ∙ x) in let l' = rw (ne_eqb from i f) at l in rw e l'.0
  | inr d ↦ all_at P i (from + 1) n (elim (cases_eq from i) [ inl e ↦ rw (eq-eqb from i e) at l | inr f ↦ (rw (ne_eqb from i f) at l).1 ]) k (omega arith) (omega arith) ne
]

pub apart_but : (i from n : ℕ) → Apart (but i (range_with_len from n))
apart_but i from zero = tt
apart_but i from (suc n) =
    elim (cases_eq from i) [
      | inl e ↦ rw (eq-eqb from i e) (apart_but i (from + 1) n)
      | inr ne ↦ rw (ne_eqb from i ne) (all_but (λ j. j ≡ from → ⊥) i (from + 1) n (λ k h l d e. omega arith), apart_but i (from + 1) n)
    ]

module _ {M : Type 0} (add : M → M → M) (none : M) (swap : (x y z : M) → add x (add y z) ≡ add y (add x z)) (f : ℕ → M) where
  -- one number's part taken out of a sum
  pub over_but : (i from n : ℕ) → from ≤ i → i < from + n → over add none f (range_with_len from n) ≡ add (f i) (over add none f (but i (range_with_len from n)))
  over_but i from zero h l = absurd (omega arith)
  over_but i from (suc n) h l =
      elim (cases_eq from i) [
        | inl e ↦ rw (eq-eqb from i e, counting_but i (from + 1) n (omega arith), e) refl
        | inr ne ↦ rw (ne_eqb from i ne) (ap (add (f from)) (over_but i (from + 1) n (omega arith) (omega arith)) ∙ swap (f from) (f i) _)
      ]

  -- the last number's part taken out of a sum
  pub over_last : (from n : ℕ) → over add none f (range_with_len from (suc n)) ≡ add (f (from + n)) (over add none f (range_with_len from n))
  over_last from zero = let e : from ≡ from + 0 = omega arith in ap (λ k. add (f k) none) e
  over_last from (suc n) =
      let e : (from + 1) + n ≡ from + suc n = omega arith in
      ap (add (f from)) (over_last (from + 1) n ∙ ap (λ k. add (f k) (over add none f (range_with_len (from + 1) n))) e) ∙ swap (f from) (f (from + suc n)) (over add none f (range_with_len (from + 1) n))
