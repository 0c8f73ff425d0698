-- A search that goes round all groups meets every one of them.
use Rattle.std.proofs.Common.{◌≡◌, ℕ, zero, suc, ◌+◌, ◌-◌, ◌%◌, ◌<◌, ◌≤◌, Bool, true, false, cond, map, Some, None, count_by, Option, sym, refl, ap, ◌∙◌, ⊎_elim, add-zero, mod-lt, mod-eq_of_lt, arith}
use native.Mathlib.Nat.{add-mod_right}
use Rattle.std.specs.List.{range_with_len}
use Rattle.std.proofs.lemmas.Bool.{both_ways, cases_lt}
use Rattle.std.proofs.lemmas.List.Sums.{sum_by-cons}
use Rattle.parity_log.specs.Choices.{start, round, first_in}

some_from : (p : ℕ → Bool) (a n : ℕ) → 1 ≤ count_by p (range_with_len a n) → (k : ℕ) × (k < a + n) × (p k ≡ true)
some_from p a zero h = absurd (omega arith)
some_from p a (suc n) h = go (p a) refl (some_from p (a + 1) n)
  where
    go : (v : Bool) → p a ≡ v → (1 ≤ count_by p (range_with_len (a + 1) n) → (k : ℕ) × (k < a + 1 + n) × (p k ≡ true)) → (k : ℕ) × (k < a + suc n) × (p k ≡ true)
    go true e more = (a, omega arith, e)
    go false e more =
        let one = sum_by-cons (λ k. cond (p k) 1 0) a (range_with_len (a + 1) n) in
        let r = more (omega (arith, one, ap {B = ℕ} (λ b. cond b 1 0) e)) in (r.0, omega (arith, r.1), r.2)

-- what is counted stands somewhere
pub count_some : (p : ℕ → Bool) (n : ℕ) → 1 ≤ count_by p (range_with_len 0 n) → (k : ℕ) × (k < n) × (p k ≡ true)
count_some p n h = let r = some_from p 0 n h in (r.0, omega (arith, r.1), r.2)

pub start_below : (o : Option ℕ) (n : ℕ) → 0 < n → start o n < n
start_below None n h = h
start_below (Some g) n h = mod-lt (g + 1) h

-- how far e is from s, going up and round
distance : (s e n : ℕ) → s < n → e < n → (k : ℕ) × (k < n) × ((s + k) % n ≡ e)
distance s e n h l = ⊎_elim
    (λ lt. let sum : s + (e + n - s) ≡ e + n = omega arith in (e + n - s, omega arith, ap (λ x. x % n) sum ∙ add-mod_right e n ∙ mod-eq_of_lt l))
    (λ le. let sum : s + (e - s) ≡ e = omega arith in (e - s, omega arith, ap (λ x. x % n) sum ∙ mod-eq_of_lt l)) (cases_lt e s)

-- where some number passes, a search that has met none yet has not gone all the way round
pub not_round : (p : ℕ → Bool) (s n far : ℕ) → s < n → ((k : ℕ) × (k < n) × (p k ≡ true)) → ((k : ℕ) → k < far → p ((s + k) % n) ≡ false) → far < n
not_round p s n far h some none =
    ⊎_elim (λ lt. lt) (λ le. let at = distance s some.0 n h some.1 in absurd (both_ways (p some.0) (ap p (sym at.2) ∙ none at.0 (omega (arith, at.1))) some.2)) (cases_lt far n)

first_met : (test : ℕ → Bool) (f : ℕ → ℕ) (a n k m : ℕ) → k < n → a + k ≡ m → test (f m) ≡ true → ((j : ℕ) → j < k → test (f (a + j)) ≡ false) → first_in test (map f (range_with_len a n)) ≡ Some (f m)
first_met test f a zero k m l e t none = absurd (omega arith)
first_met test f a (suc n) zero m l e t none = let at : a ≡ m = sym (add-zero a) ∙ e in rw (at, t) refl
first_met test f a (suc n) (suc k) m l e t none =
    let here : test (f a) ≡ false = ap (λ x. test (f x)) (sym (add-zero a)) ∙ none 0 (omega arith) in
    rw here (first_met test f (a + 1) n k m (omega arith) (omega arith) t (λ j h. let on : (a + 1) + j ≡ a + suc j = omega arith in ap (λ x. test (f x)) on ∙ none (suc j) (omega arith)))

-- the first that a search going round meets
pub first_round : (test : ℕ → Bool) (s n far : ℕ) → far < n → test ((s + far) % n) ≡ true → ((k : ℕ) → k < far → test ((s + k) % n) ≡ false) → first_in test (round s n) ≡ Some ((s + far) % n)
first_round test s n far l t none = first_met test (λ k. (s + k) % n) 0 n far far l (omega arith) t (λ j h. let on : 0 + j ≡ j = omega arith in ap (λ x. test ((s + x) % n)) on ∙ none j h)
