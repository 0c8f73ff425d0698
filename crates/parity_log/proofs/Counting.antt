-- Counting the page table twice: a group's live positions are at most the pages out there, and the live positions of all groups at most the capacity.
use Rattle.std.proofs.Common.{◌≡◌, ℕ, zero, suc, ◌+◌, ◌*◌, ◌<◌, ◌≤◌, Bool, true, false, cond, ◌&&◌, eqb, leb, List, [], ◌∷◌, length, get_or, is_some, sum_by, count_by, ap, suc-mul, arith}
use Rattle.std.specs.List.{range_with_len, AllByRecursion as All}
use Rattle.std.proofs.ByRecursion.{all_from_every}
use Rattle.std.proofs.lemmas.List.Sums.{sum_by-cons, sum_by-le-sum_by, count_by-le-length}
use Rattle.std.proofs.lemmas.Bool.{le-leb}
use Rattle.std.proofs.lemmas.Bool.Decides.{nat_tests}
use Rattle.parity_log.specs.declared.records.PageState.{PageState}
use Rattle.parity_log.specs.declared.records.PageState.TheVariants.{NotOut, Out, Lost}
use Rattle.parity_log.specs.declared.records.Tables.{Tables}
use Rattle.parity_log.specs.Tables.{capacity, names, page_from, page_at, live_count, live, group_of}
use Rattle.parity_log.specs.Order.{Sound}

module _ {X : Type 0} where
  pub sum_by_same : (n : ℕ) (xs : List X) → sum_by (λ _. n) xs ≡ length xs * n
  sum_by_same n [] = omega arith
  sum_by_same n (x ∷ xs) = omega (arith, sum_by-cons (λ _. n) x xs, sum_by_same n xs, suc-mul (length xs) n)

  -- what is at most two others together, term by term, is so summed up
  pub sum_by_both : (f j k : X → ℕ) (xs : List X) → All (λ x. f x ≤ j x + k x) xs → sum_by f xs ≤ sum_by j xs + sum_by k xs
  sum_by_both f j k [] h = omega arith
  sum_by_both f j k (x ∷ xs) h = omega (arith, h.0, sum_by_both f j k xs h.1, sum_by-cons f x xs, sum_by-cons j x xs, sum_by-cons k x xs)

-- where each y is counted by at most k y of the x, all the counts together are at most the sum of k
module _ {X Y : Type 0} (passes : X → Y → Bool) (k : Y → ℕ) (xs : List X) (few : (y : Y) → count_by (λ x. passes x y) xs ≤ k y) where
  counted_twice : (ys : List Y) → sum_by (λ x. count_by (passes x) ys) xs ≤ sum_by k ys
  counted_twice [] = omega (arith, sum_by_same 0 xs)
  counted_twice (y ∷ ys) = omega (
    arith,
    few y,
    counted_twice ys,
    sum_by-cons k y ys,
    sum_by_both (λ x. count_by (passes x) (y ∷ ys)) (λ x. cond (passes x y) 1 0) (λ x. count_by (passes x) ys) xs
        (all_from_every _ xs (λ i d _ _. omega (arith, sum_by-cons (λ z. cond (passes (get_or xs i d) z) 1 0) y ys))),
  )

-- where only the first n can pass, at most n do
count_front : {X : Type 0} (p : X → Bool) (d : X) (xs : List X) (n : ℕ) → ((i : ℕ) → n ≤ i → p (get_or xs i d) ≡ false) → count_by p xs ≤ n
count_front p d [] n h = omega arith
count_front p d (x ∷ xs) zero h = omega (arith, sum_by-cons (λ z. cond (p z) 1 0) x xs, ap {B = ℕ} (λ b. cond b 1 0) (h 0 (omega arith)), count_front p d xs 0 (λ i _. h (suc i) (omega arith)))
count_front p d (x ∷ xs) (suc n) h = omega (arith, sum_by-cons (λ z. cond (p z) 1 0) x xs, count_by-le-length p (x ∷ []), count_front p d xs n (λ i l. h (suc i) (omega arith)))

pub all_counting : (P : ℕ → Type 0) (a n : ℕ) → ((k : ℕ) → k < a + n → P k) → All P (range_with_len a n)
all_counting P a zero h = tt
all_counting P a (suc n) h = (h a (omega arith), all_counting P (a + 1) n (λ k l. h k (omega arith)))

-- each number is met once at most
module _ (i n : ℕ) where
  counted_from : (a m : ℕ) → sum_by (λ j. cond (eqb i j) n 0) (range_with_len a m) ≤ cond (leb a i) n 0
  counted_from a zero = omega arith
  counted_from a (suc m) = let one = sum_by-cons (λ j. cond (eqb i j) n 0) a (range_with_len (a + 1) m) in let rest = counted_from (a + 1) m in grind (arith, nat_tests)

  pub counted_once : (m : ℕ) → sum_by (λ j. cond (eqb i j) n 0) (range_with_len 0 m) ≤ n
  counted_once m = rw (le-leb 0 i (omega arith)) at (counted_from 0 m)

-- whether a page is out in a group
abbrev pub out_in : ℕ → PageState → Bool
out_in g NotOut = false
out_in g (Out h i) = eqb h g
out_in g (Lost h m) = false

module _ (g : ℕ) where
  -- some page is out at a live position
  named : (m : ℕ) (pages : List PageState) (i : ℕ) → cond (is_some (page_from m pages g i)) 1 0 ≤ count_by (λ s. names s g i) pages
  named m [] i = omega arith
  named m (s ∷ ss) i = let one = sum_by-cons (λ z. cond (names z g i) 1 0) s ss in let rest = named (m + 1) ss i in grind arith

  one_position : (n : ℕ) (s : PageState) → count_by (λ i. names s g i) (range_with_len 0 n) ≤ cond (out_in g s) 1 0
  one_position n NotOut = omega (arith, sum_by_same 0 (range_with_len 0 n))
  one_position n (Out h j) = elim (eqb h g) as (λ t. count_by (λ i. t && eqb j i) (range_with_len 0 n) ≤ cond t 1 0)
      [ true ↦ counted_once j 1 n | false ↦ omega (arith, sum_by_same 0 (range_with_len 0 n)) ]
  one_position n (Lost h m) = omega (arith, sum_by_same 0 (range_with_len 0 n))

  -- a group has at most as many live positions as pages are out in it
  pub live_within_out : (n : ℕ) (pages : List PageState) → live_count pages n g ≤ count_by (out_in g) pages
  unfolding page_at live_count
  live_within_out n pages = omega (
    arith,
    sum_by-le-sum_by (λ i. cond (is_some (page_from 0 pages g i)) 1 0) (λ i. count_by (λ s. names s g i) pages) (range_with_len 0 n) (named 0 pages),
    counted_twice (λ i s. names s g i) (λ s. cond (out_in g s) 1 0) (range_with_len 0 n) (one_position n) pages,
  )

one_group : (n : ℕ) (s : PageState) → count_by (λ g. out_in g s) (range_with_len 0 n) ≤ cond (is_some (group_of s)) 1 0
one_group n NotOut = omega (arith, sum_by_same 0 (range_with_len 0 n))
one_group n (Out g i) = counted_once g 1 n
one_group n (Lost g m) = omega (arith, sum_by_same 0 (range_with_len 0 n))

-- all groups together have at most as many live positions as there are pages
pub live_within_capacity : (v : Tables) → Sound v → sum_by (live v) (range_with_len 0 v.shape.groups) ≤ capacity v.shape
live_within_capacity v sound =
    let groups = range_with_len 0 v.shape.groups in
    omega (
      arith,
      sum_by-le-sum_by (live v) (λ g. count_by (out_in g) v.pages) groups (λ g. live_within_out g v.shape.servers v.pages),
      counted_twice out_in (λ s. cond (is_some (group_of s)) 1 0) groups (one_group v.shape.groups) v.pages,
      count_front (λ s. is_some (group_of s)) NotOut v.pages (capacity v.shape) (λ p l. ap (λ s. is_some (group_of s)) (sound.numbered p l)),
    )
