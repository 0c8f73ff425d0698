-- How many of the numbers that follow each other pass two tests, compared.
use Rattle.std.proofs.Common.{◌≡◌, ℕ, zero, suc, ◌+◌, ◌<◌, ◌≤◌, Bool, true, false, cond, not, ◌&&◌, eqb, count_by, refl, ap, sym, ◌∙◌, ⊎_elim, arith}
use Rattle.std.specs.List.{range_with_len}
use mir.Val.{bool_byte}
use Rattle.std.proofs.lemmas.List.{map-id}
use Rattle.std.proofs.lemmas.List.FromFn.{sum_by-map-range_with_len_more}
use Rattle.std.proofs.lemmas.List.Sums.{sum_by-cons}
use Rattle.std.proofs.lemmas.Bool.{cases_eq, both_ways, eq-eqb, ne_eqb, and_from, and_parts, and_right, not_from_true, not_from_false}
use Rattle.parity_log.proofs.Counting.{all_counting, sum_by_both, counted_once}

one_kept : (x y : Bool) → (x ≡ true → y ≡ true) → cond {A = ℕ} x 1 0 ≤ cond y 1 0
one_kept true y h = rw (h refl) (omega arith)
one_kept false y h = omega arith

module _ (p q : ℕ → Bool) where
  -- what passes the first passes the second
  pub count_kept : (a n : ℕ) → ((k : ℕ) → a ≤ k → k < a + n → p k ≡ true → q k ≡ true) → count_by p (range_with_len a n) ≤ count_by q (range_with_len a n)
  count_kept a zero h = omega arith
  count_kept a (suc n) h = omega (
    arith,
    count_kept (a + 1) n (λ k l m. h k (omega arith) (omega arith)),
    one_kept (p a) (q a) (h a (omega arith) (omega arith)),
    sum_by-cons (λ k. cond (p k) 1 0) a (range_with_len (a + 1) n),
    sum_by-cons (λ k. cond (q k) 1 0) a (range_with_len (a + 1) n),
  )

  -- and one number passes only the second
  pub count_less : (a n g : ℕ) → a ≤ g → g < a + n → ((k : ℕ) → p k ≡ true → q k ≡ true) → p g ≡ false → q g ≡ true → count_by p (range_with_len a n) + 1 ≤ count_by q (range_with_len a n)
  count_less a zero g l m h f t = absurd (omega arith)
  count_less a (suc n) g l m h f t =
      let ps = sum_by-cons (λ k. cond (p k) 1 0) a (range_with_len (a + 1) n) in
      let qs = sum_by-cons (λ k. cond (q k) 1 0) a (range_with_len (a + 1) n) in
      ⊎_elim
      (λ e. omega (
        arith,
        ap {B = ℕ} (λ b. cond b 1 0) (ap p e ∙ f),
        ap {B = ℕ} (λ b. cond b 1 0) (ap q e ∙ t),
        count_kept (a + 1) n (λ k _ _. h k),
      ))
      (λ ne. omega (arith, one_kept (p a) (q a) (h a), count_less (a + 1) n g (omega arith) (omega arith) h f t)) (cases_eq a g)

  -- what passes the first passes the second, but for one number
  pub count_but_one : (g n : ℕ) → ((k : ℕ) → (k ≡ g → ⊥) → p k ≡ true → q k ≡ true) → count_by p (range_with_len 0 n) ≤ count_by q (range_with_len 0 n) + 1
  count_but_one g n h = omega (
    arith,
    counted_once g 1 n,
    sum_by_both (λ k. cond (p k) 1 0) (λ k. cond (q k) 1 0) (λ k. cond (eqb g k) 1 0) (range_with_len 0 n)
        (all_counting _ 0 n (λ k _. ⊎_elim
        (λ e. omega (arith, ap {B = ℕ} (λ b. cond b 1 0) (eq-eqb g k e), one_kept (p k) true (λ _. refl)))
        (λ ne. omega (arith, one_kept (p k) (q k) (h k (λ e. omega arith)))) (cases_eq g k))),
  )

-- a number that passes is counted
pub count_one : (q : ℕ → Bool) (n g : ℕ) → g < n → q g ≡ true → 1 ≤ count_by q (range_with_len 0 n)
count_one q n g l t = omega (arith, count_less (λ _. false) q 0 n g (omega arith) (omega arith) (λ k z. absurd (both_ways false refl z)) refl t)

-- two numbers that pass are counted twice
pub count_two : (q : ℕ → Bool) (n g h : ℕ) → g < n → h < n → (h ≡ g → ⊥) → q g ≡ true → q h ≡ true → 2 ≤ count_by q (range_with_len 0 n)
count_two q n g h l m ne t u =
    let p : ℕ → Bool = λ k. q k && not (eqb k g) in
    omega (
      arith,
      count_one p n h m (and_from (q h) (not (eqb h g)) u (not_from_false (eqb h g) (ne_eqb h g ne))),
      count_less p q 0 n g (omega arith) (omega arith) (λ k e. (and_parts (q k) (not (eqb k g)) e).0) (and_right (q g) (not (eqb g g)) (not_from_true (eqb g g) (eq-eqb g g refl))) t,
    )

-- one number more
pub count_more : (p : ℕ → Bool) (n : ℕ) → count_by p (range_with_len 0 (n + 1)) ≡ count_by p (range_with_len 0 n) + cond (p n) 1 0
count_more p n =
    ap (λ ks. count_by p ks) (sym (map-id (range_with_len 0 (n + 1)))) ∙ sum_by-map-range_with_len_more (λ k. cond {A = ℕ} (p k) 1 0) (λ k. k) 0 n n (omega arith) ∙ ap (λ ks. count_by p ks + cond (p n) 1 0) (map-id (range_with_len 0 n))

-- a bool as a number, which is at most one
pub as_cond : (b : Bool) → bool_byte b ≡ cond b 1 0
as_cond true = refl
as_cond false = refl

pub at_most_one : (b : Bool) → cond {A = ℕ} b 1 0 ≤ 1
at_most_one true = omega arith
at_most_one false = omega arith
