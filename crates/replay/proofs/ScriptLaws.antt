-- How a text falls into parts, and when decimal digits are a number.
use Rattle.std.proofs.Common.{◌≡◌, ◌≢◌, ℕ, zero, suc, ◌+◌, ◌-◌, ◌^◌, ◌<◌, ◌≤◌, Bool, true, false, not, cond, ◌&&◌, List, [], ◌∷◌, length, get_or, take, drop, Some, None, Result, Ok, Err, refl, sym, ap, ◌∙◌, eqb, length-take-le, ltb, arith}
use Rattle.std.specs.Char.{is_ascii_digit}
use Rattle.std.specs.List.{position_or_len, slice_split}
use Rattle.std.specs.Result.{OkIff, result_ok}
use Rattle.std.specs.Str.{IsUtf8, all_ascii_digits, bytes_eq}
use Rattle.std.specs.Prelude.{decimal}
use Rattle.std.specs.Str.Parse.{ParsesUnsigned, digits_value}
use Rattle.std.proofs.lemmas.Bool.{and_from, both_ways, cond-true, eq-eqb, lt-ltb, ltb-true, ne_eqb}
use Rattle.std.proofs.lemmas.Bool.Decides.{nat_tests}
use Rattle.std.proofs.lemmas.Fmt.{IsAscii-from_digits, decimal-digits_value, decimal_digit, decimal_nonempty, digits_decimal, digits_value-decimal, first_decimal}
use Rattle.std.proofs.lemmas.List.Elements.{All-from_get_or}
use Rattle.std.proofs.lemmas.List.Splits.{length-slice_split, slice_split_first, slice_split_none}
use Rattle.std.proofs.lemmas.List.Sums.{count_by-le-length, position_or_len_is}
use Rattle.std.proofs.lemmas.Str.{IsUtf8-from_ascii}
use Rattle.std.proofs.lemmas.Str.Parse.{IsNumeralModel, numerals_by_value, parse_plain, tells_all_ascii_digits}
use Rattle.page.specs.Refusals.{on_line}
use Rattle.replay.specs.Script.{below_names, is_number, is_plain, lines_of, names, parts, read_number, unended, unread}

-- the first part ends at the first separator
pub parts_at : (separator : ℕ) (text : List ℕ) (i : ℕ) → i < length text → get_or text i 0 ≡ separator → ((k : ℕ) → k < i → get_or text k 0 ≢ separator) → parts separator text ≡ take i text ∷ parts separator (drop (i + 1) text)
parts_at separator text i inside here before =
    let p : ℕ → Bool = λ b. eqb b separator in
    let first : position_or_len p text ≡ i = position_or_len_is p text i 0 (omega arith) (λ k below. ne_eqb _ separator (before k below)) (λ _. eq-eqb _ separator here) in
    let some : position_or_len p text < length text = omega arith in
    slice_split_first p text 0 some ∙ ap (λ j. take j text ∷ slice_split p (drop (j + 1) text)) first

-- without a separator the text is one part
pub parts_whole : (separator : ℕ) (text : List ℕ) → ((k : ℕ) → k < length text → get_or text k 0 ≢ separator) → parts separator text ≡ text ∷ []
parts_whole separator text none =
    slice_split_none (λ b. eqb b separator) text (All-from_get_or (λ b. eqb b separator ≡ false) text 0 (λ k inside. ne_eqb _ separator (none k inside)))

digits : IsNumeralModel (λ ds. all_ascii_digits ds ≡ true) (digits_value 10)
digits = numerals_by_value _ tells_all_ascii_digits

no_plus : (ds : List ℕ) → is_plain ds ≡ true → get_or ds 0 0 ≢ 43
no_plus [] plain e = cc
no_plus (d ∷ []) plain e = grind (arith, nat_tests)
no_plus (d ∷ f ∷ more) plain e = grind (arith, nat_tests)

plain_some : (ds : List ℕ) → is_plain ds ≡ true → 0 < length ds
plain_some [] plain = absurd cc
plain_some (d ∷ ds) plain = omega arith

digits_of_number : (plain all small : Bool) → (plain && (all && small)) ≡ true → (all ≡ true) × (small ≡ true)
digits_of_number true true small e = (refl, e)
digits_of_number true false small e = absurd cc
digits_of_number false all small e = absurd cc

plain_of_number : (plain rest : Bool) → (plain && rest) ≡ true → plain ≡ true
plain_of_number true rest e = refl
plain_of_number false rest e = absurd cc

no_number : (ds : List ℕ) → (is_number ds ≡ true → ⊥) → None ≡ read_number ds
no_number ds isnt = by_test (is_number ds) isnt
  where
    by_test : (b : Bool) → (b ≡ true → ⊥) → None ≡ cond b (Some (digits_value 10 ds)) None
    by_test true isnt = absurd (isnt refl)
    by_test false isnt = refl

-- bytes that are no text are no number
pub no_text : (ds : List ℕ) → (IsUtf8 ds → ⊥) → None ≡ read_number ds
no_text ds isnt = no_number ds (λ e. isnt (IsUtf8-from_ascii ds (IsAscii-from_digits ds (digits.to ds (digits_of_number _ _ _ e).0))))

-- what the library reads of digits is what the script's rule reads
pub parsed : {E : Type 0} (ds : List ℕ) (r : Result ℕ E) → is_plain ds ≡ true → ParsesUnsigned 32 10 ds r → result_ok r ≡ read_number ds
parsed ds r plain h = by_result r (parse_plain digits 32 ds r h (no_plus ds plain))
  where
    by_result : {E : Type 0} (r : Result ℕ E) → OkIff r ((all_ascii_digits ds ≡ true) × (0 < length ds) × (digits_value 10 ds < 2 ^ 32)) (digits_value 10 ds) → result_ok r ≡ read_number ds
    by_result (Ok n) (fits, value) = ap Some value ∙ sym (cond-true _ _ _ (and_from _ _ plain (and_from _ _ fits.0 (lt-ltb _ _ fits.2))))
    by_result (Err e) isnt = no_number ds (λ is. let both = digits_of_number _ _ _ is in isnt (both.0, plain_some ds plain, ltb-true _ _ both.1))

length_unended : (script : List ℕ) → length (unended script) ≤ length script
length_unended script = by_test (eqb (get_or script (length script - 1) 0) 10)
  where
    by_test : (b : Bool) → length (cond b (take (length script - 1) script) script) ≤ length script
    by_test true = omega (arith, length-take-le (length script - 1) script (omega arith))
    by_test false = omega arith

-- a script has no more lines below its line of names than bytes
pub lines_few : (script : List ℕ) (lines : List (List ℕ)) → below_names (lines_of script) ≡ Ok lines → length lines ≤ length script
lines_few script lines e =
    let all = length-slice_split (λ b. eqb b 10) (unended script) in
    let most = count_by-le-length (λ b. eqb b 10) (unended script) in
    let shorter = length_unended script in
    by_lines (lines_of script) (omega arith) e
  where
    by_test : (b : Bool) (rest : List (List ℕ)) → length rest ≤ length script → cond b (Ok rest) (Err (on_line 1 unread)) ≡ Ok lines → length lines ≤ length script
    by_test true rest h e = let same : rest ≡ lines = cc in omega (arith, ap length same)
    by_test false rest h e = absurd cc

    by_lines : (all : List (List ℕ)) → length all ≤ length script + 1 → below_names all ≡ Ok lines → length lines ≤ length script
    by_lines [] h e = absurd cc
    by_lines (first ∷ rest) h e = by_test (bytes_eq first names) rest (omega arith) e

plain_from : (ds : List ℕ) → all_ascii_digits ds ≡ true → 0 < length ds → (get_or ds 0 0 ≡ 48 → length ds ≡ 1) → is_plain ds ≡ true
plain_from [] all some one = absurd (omega arith)
plain_from (d ∷ []) all some one = grind (arith, nat_tests)
plain_from (d ∷ e ∷ ds) all some one =
    let other : d ≢ 48 = λ first. absurd (omega (arith, one first)) in
    let others : all_ascii_digits (e ∷ ds) ≡ true = (digits_of_number true _ _ all).1 in
    let digit : is_ascii_digit d ≡ true = (digits_of_number true _ _ all).0 in
    and_from _ _ digit (ap not (ne_eqb d 48 other))

plain_one : (ds : List ℕ) → is_plain ds ≡ true → get_or ds 0 0 ≡ 48 → length ds ≡ 1
plain_one [] plain first = absurd cc
plain_one (d ∷ []) plain first = omega arith
plain_one (d ∷ e ∷ ds) plain first = absurd (both_ways _ (ap not (eq-eqb d 48 first)) (digits_of_number true _ _ plain).1)

first_digit : (n : ℕ) → n < 2 ^ 64 → get_or (decimal n) 0 0 ≡ 48 → length (decimal n) ≡ 1
first_digit zero h first = ap length (decimal_digit 0 (omega arith))
first_digit (suc n) h first = absurd (omega (arith, first_decimal (suc n) (omega arith) h))

pub numbers_are_read : (n : ℕ) → n < 2 ^ 32 → read_number (decimal n) ≡ Some n
numbers_are_read n h =
    let wide : n < 2 ^ 64 = omega arith in
    let all : all_ascii_digits (decimal n) ≡ true = digits_decimal digits n wide in
    let value : digits_value 10 (decimal n) ≡ n = digits_value-decimal digits n wide in
    let plain = plain_from (decimal n) all (decimal_nonempty n wide) (first_digit n wide) in
    cond-true _ _ _ (and_from _ _ plain (and_from _ _ all (lt-ltb _ _ (omega (arith, value))))) ∙ ap Some value

pub numbers_have_one_spelling : (ds : List ℕ) (n : ℕ) → read_number ds ≡ Some n → ds ≡ decimal n
numbers_have_one_spelling ds n e = by_test (is_number ds) (λ is. is) e
  where
    by_test : (b : Bool) → (b ≡ true → is_number ds ≡ true) → cond b (Some (digits_value 10 ds)) None ≡ Some n → ds ≡ decimal n
    by_test false is e = absurd cc
    by_test true is e =
        let value : digits_value 10 ds ≡ n = cc in
        let plain : is_plain ds ≡ true = (plain_of_number _ _ (is refl)) in
        let both = digits_of_number (is_plain ds) (all_ascii_digits ds) (ltb (digits_value 10 ds) (2 ^ 32)) (is refl) in
        let small : digits_value 10 ds < 2 ^ 32 = ltb-true _ _ both.1 in
        sym (decimal-digits_value digits ds both.0 (plain_some ds plain) (plain_one ds plain) (omega arith)) ∙ ap decimal value
