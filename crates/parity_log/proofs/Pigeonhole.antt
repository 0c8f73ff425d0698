-- The group that is cleaned has few live positions: all closed groups share at most the capacity.
use Rattle.std.proofs.Common.{◌≡◌, ℕ, zero, suc, ◌+◌, ◌-◌, ◌*◌, ◌/◌, ◌<◌, ◌≤◌, cond, eqb, sum_by, mul_comm, div-lt_iff_lt-mul, mul-lt-mul_of_pos_right, le-div_iff_mul-le, arith}
use native.Mathlib.Nat.{mul-sub}
use Rattle.std.specs.List.{range_with_len}
use Rattle.std.proofs.lemmas.List.FromFn.{length-range_with_len}
use Rattle.std.proofs.lemmas.Bool.Decides.{nat_tests}
use Rattle.parity_log.specs.Tables.{live}
use Rattle.parity_log.specs.Pigeonhole.{Pigeonhole}
use Rattle.parity_log.proofs.Bounds.{shape_bounds}
use Rattle.parity_log.proofs.Counting.{all_counting, sum_by_same, sum_by_both, counted_once, live_within_capacity}
use Rattle.parity_log.proofs.Fewest.{fewest_exists}

-- where all of n terms but one are at least m
sum_but_one : (f : ℕ → ℕ) (h m n : ℕ) → ((g : ℕ) → g < n → (g ≡ h → ⊥) → m ≤ f g) → n * m ≤ sum_by f (range_with_len 0 n) + m
sum_but_one f h m n least = omega (
  arith,
  rw length-range_with_len at (sum_by_same m (range_with_len 0 n)),
  counted_once h m n,
  sum_by_both (λ _. m) f (λ g. cond (eqb h g) m 0) (range_with_len 0 n) (all_counting _ 0 n (λ g l. let one = least g (omega arith) in grind (arith, nat_tests))),
)

another : (n h : ℕ) → 2 ≤ n → (g : ℕ) × (g < n) × (g ≡ h → ⊥)
another n zero l = (1, omega arith, λ e. omega arith)
another n (suc h) l = (0, omega arith, λ e. omega arith)

-- what g - 1 groups share
share : (g q s m : ℕ) → 2 ≤ q → q < g → 2 ≤ s → g * m ≤ (g - q) * s + m → (m ≤ (g - q) * s / (g - 1)) × ((g - q) * s / (g - 1) < s)
share g q s m two fewer some h = (
  (le-div_iff_mul-le (omega arith)).1 (omega (arith, mul-sub m g 1, mul_comm m g)),
  (div-lt_iff_lt-mul (omega arith)).1 (rw (mul_comm s (g - 1)) (mul-lt-mul_of_pos_right (omega arith) (omega arith))),
)

pub pigeonhole : Pigeonhole
pigeonhole v h sound _ _ closed =
    let b = shape_bounds v.shape sound.shape in
    let o = another v.shape.groups h (omega arith) in
    let few = fewest_exists v o.0 o.1 (closed o.0 o.1 o.2) in
    let all = sum_but_one (live v) h (live v few.0) v.shape.groups (λ g l ne. few.2.2 g l (closed g l ne)) in
    let s = share v.shape.groups v.shape.spares v.shape.servers (live v few.0) b.2 b.3 b.4 (omega (arith, live_within_capacity v sound)) in
    (few.0, few.1, few.2.0, few.2.1, s.0, s.1)
