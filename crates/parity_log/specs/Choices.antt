-- Which group is opened next, and which is cleaned.
use Rattle.std.specs.Prelude.{ℕ, ◌+◌, ◌%◌, ◌<◌, Bool, cond, List, [], ◌∷◌, map, Some, None, fold, count_by, filter, Option, nat_lt}
use Rattle.std.specs.List.{range_with_len}
use Rattle.parity_log.specs.declared.records.Tables.{Tables}
use Rattle.parity_log.specs.Tables.{state_of, is_free, is_open, is_closed, live}

abbrev pub when_open : Tables → Option ℕ → Option ℕ
when_open v None = None
when_open v (Some g) = cond (is_open (state_of v g)) (Some g) None

abbrev pub open_group : Tables → Option ℕ
open_group v = when_open v v.last

-- where a search for a free group begins: after the one opened last, and at 0 the first time
abbrev pub start : Option ℕ → ℕ → ℕ
start None n = 0
start (Some g) n = (g + 1) % n

-- all n groups, going up and round from one
abbrev pub round : ℕ → ℕ → List ℕ
round from n = map (λ k. (from + k) % n) (range_with_len 0 n)

abbrev pub first_in : {A : Type 0} → (A → Bool) → List A → Option A
first_in test [] = None
first_in test (x ∷ xs) = cond (test x) (Some x) (first_in test xs)

-- the first free group met going up, round from the group after the one opened last
unfoldable pub next_free : Tables → Option ℕ
next_free v = first_in (λ g. is_free (state_of v g)) (round (start v.last v.shape.groups) v.shape.groups)

unfoldable pub free_count : Tables → ℕ
free_count v = count_by (λ g. is_free (state_of v g)) (range_with_len 0 v.shape.groups)

-- the best so far, unless g has fewer
abbrev pub fewer : (ℕ → ℕ) → Option ℕ → ℕ → Option ℕ
fewer count None g = Some g
fewer count (Some best) g = cond (nat_lt (count g) (count best)) (Some g) (Some best)

-- the closed group with the fewest live positions, the lowest number among equals
unfoldable pub fewest_live : Tables → Option ℕ
fewest_live v = fold (fewer (live v)) None (filter (λ g. is_closed (state_of v g)) (range_with_len 0 v.shape.groups))

-- the group opened last has a place in the table
abbrev pub LastWithin : Option ℕ → Type 0
LastWithin None = Unit {0}
LastWithin (Some g) = g < 32
