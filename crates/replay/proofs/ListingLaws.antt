-- The missing servers of a line, one after another.
use Rattle.std.proofs.Common.{◌≡◌, ℕ, zero, suc, ◌+◌, ◌≤◌, Bool, true, false, cond, List, [], ◌∷◌, ◌++◌, map, length, refl, sym, ap, ◌∙◌, append_assoc, add-one, arith}
use Rattle.std.specs.List.{filter, join_with_byte, range_with_len}
use Rattle.std.specs.Prelude.{decimal}
use Rattle.std.proofs.lemmas.List.{append-nil, map-append}
use Rattle.std.proofs.lemmas.List.Elements.{filter-append}
use Rattle.replay.specs.Listing.{is_missing}

-- the numbers of the missing servers below n
abbrev pub shown : ℕ → ℕ → List (List ℕ)
shown set n = map decimal (filter (is_missing set) (range_with_len 0 n))

-- what comes before one more piece
abbrev pub separator : ℕ → List (List ℕ) → List ℕ
separator c [] = []
separator c (x ∷ xs) = c ∷ []

join_more : (c : ℕ) (xs : List (List ℕ)) (x : List ℕ) → join_with_byte c (xs ++ (x ∷ [])) ≡ join_with_byte c xs ++ (separator c xs ++ x)
join_more c [] x = refl
join_more c (y ∷ []) x = refl
join_more c (y ∷ z ∷ ys) x = ap (λ t. y ++ (c ∷ t)) (join_more c (z ∷ ys) x) ∙ sym (append_assoc y _ _)

separator_more : (c : ℕ) (xs : List (List ℕ)) (x : List ℕ) → separator c (xs ++ (x ∷ [])) ≡ c ∷ []
separator_more c [] x = refl
separator_more c (y ∷ ys) x = refl

range_more : (a n : ℕ) → range_with_len a (suc n) ≡ range_with_len a n ++ ((a + n) ∷ [])
range_more a zero = ap (λ m. m ∷ []) (omega arith)
range_more a (suc n) = ap (λ t. a ∷ t) (range_more (a + 1) n ∙ ap (λ m. range_with_len (a + 1) n ++ (m ∷ [])) (omega arith))

shown_next : (set n : ℕ) → shown set (n + 1) ≡ shown set n ++ map decimal (filter (is_missing set) (n ∷ []))
shown_next set n =
    ap (λ m. shown set m) (add-one n)
    ∙ ap (λ t. map decimal (filter (is_missing set) t)) (range_more 0 n ∙ ap (λ m. range_with_len 0 n ++ (m ∷ [])) (omega arith))
    ∙ ap (map decimal) (filter-append (is_missing set) (range_with_len 0 n) (n ∷ []))
    ∙ map-append decimal (filter (is_missing set) (range_with_len 0 n)) (filter (is_missing set) (n ∷ []))

pub shown_more : (set n : ℕ) → is_missing set n ≡ true → shown set (n + 1) ≡ shown set n ++ (decimal n ∷ [])
shown_more set n e = shown_next set n ∙ ap (λ (b : Bool). shown set n ++ map decimal (cond b (n ∷ []) [])) e

pub shown_same : (set n : ℕ) → is_missing set n ≡ false → shown set (n + 1) ≡ shown set n
shown_same set n e = shown_next set n ∙ ap (λ (b : Bool). shown set n ++ map decimal (cond b (n ∷ []) [])) e ∙ append-nil (shown set n)

pub separator_after : (set n : ℕ) → is_missing set n ≡ true → 43 ∷ [] ≡ separator 43 (shown set (n + 1))
separator_after set n e = sym (ap (separator 43) (shown_more set n e) ∙ separator_more 43 (shown set n) (decimal n))

-- the text with one more of the missing servers
pub one_more : (set n : ℕ) (text separated next : List ℕ) → is_missing set n ≡ true → text ≡ join_with_byte 43 (shown set n) → separated ≡ text ++ separator 43 (shown set n) → next ≡ separated ++ decimal n → next ≡ join_with_byte 43 (shown set (n + 1))
one_more set n text separated next e before with_separator with_number =
    let joined : join_with_byte 43 (shown set (n + 1)) ≡ join_with_byte 43 (shown set n) ++ (separator 43 (shown set n) ++ decimal n) = ap (join_with_byte 43) (shown_more set n e) ∙ join_more 43 (shown set n) (decimal n) in
    with_number
    ∙ ap (λ t. t ++ decimal n) (with_separator ∙ ap (λ t. t ++ separator 43 (shown set n)) before)
    ∙ append_assoc (join_with_byte 43 (shown set n)) (separator 43 (shown set n)) (decimal n)
    ∙ sym joined

pub separator_short : (c : ℕ) (xs : List (List ℕ)) → length (separator c xs) ≤ 1
separator_short c [] = omega arith
separator_short c (x ∷ xs) = omega arith
