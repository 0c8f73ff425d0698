-- Each line of a listing is one line: byte 10 ends it, and stands nowhere else in it.
use Rattle.std.proofs.Common.{◌≡◌, ℕ, zero, suc, ◌+◌, ◌≢◌, ◌/◌, ◌%◌, Bool, true, false, cond, not, ◌==◌, List, [], ◌∷◌, ◌++◌, map, Option, Some, None, Result, Ok, Err, refl, ap, ◌∙◌, decimal, arith}
use Rattle.std.specs.Fmt.{digit_glyph, digits, digits_onto}
use Rattle.std.specs.List.{join_with_byte, list_all}
use Rattle.std.specs.Prelude.{All, codes, nat_lt, slice_index_or}
use Rattle.std.proofs.lemmas.Bool.{ne_eqb}
use Rattle.std.proofs.lemmas.List.Elements.{All-cons, All-map}
use Rattle.std.proofs.lemmas.List.Folds.{list_all-append}
use Rattle.page.specs.Refusals.{named}
use Rattle.page.specs.declared.faults.Fault.{Fault}
use Rattle.page.specs.declared.faults.Refusal.{Refusal}
use Rattle.page.specs.declared.faults.Refusal.TheVariants.{Range, Length, None as NoPage, Lost, Gone, Shape, Full, Worn, Unread}
use Rattle.replay.specs.Listing.{answer_text, answer_word, called, detail_text, header, refusal_text}
use Rattle.replay.specs.Script.{number_of, word_of}
use Rattle.replay.specs.Transcript.{IsLine, all_lines, line_at, line_for}
use Rattle.replay.specs.declared.listing.Detail.{Detail}
use Rattle.replay.specs.declared.listing.Detail.TheVariants.{Nothing, Pages, Byte, Groups}
use Rattle.replay.specs.declared.listing.Entry.{Entry}
use Rattle.replay.specs.declared.script.Call.{Call}
use Rattle.replay.specs.declared.script.Call.TheVariants.{Out, In, Free, Make, Fall, Back, Rebuild}

-- no byte of these ends a line
abbrev Unbroken : List ℕ → Type 0
Unbroken xs = list_all (λ b. not (b == 10)) xs ≡ true

both : (xs ys : List ℕ) → Unbroken xs → Unbroken ys → Unbroken (xs ++ ys)
both xs ys u v = list_all-append (λ b. not (b == 10)) xs ys ∙ rw (u, v) refl

no_end : (b : ℕ) (acc : List ℕ) → b ≢ 10 → Unbroken acc → Unbroken (b ∷ acc)
no_end b acc other u = rw (ap not (ne_eqb b 10 other)) u

glyph_no_end : (d : ℕ) → digit_glyph false d ≢ 10
glyph_no_end d = by_test (nat_lt d 10)
  where
    by_test : (b : Bool) → cond b (48 + d) (87 + d) ≢ 10
    by_test true e = absurd (omega arith)
    by_test false e = absurd (omega arith)

digits_unbroken : (k n : ℕ) (acc : List ℕ) → Unbroken acc → Unbroken (digits_onto k 10 false n acc)
digits_unbroken zero n acc u = u
digits_unbroken (suc k) n acc u = by_test (n / 10 == 0) (digits_unbroken k (n / 10) _ here)
  where
    here : Unbroken (digit_glyph false (n % 10) ∷ acc)
    here = no_end (digit_glyph false (n % 10)) acc (glyph_no_end (n % 10)) u

    by_test : (b : Bool) → Unbroken (digits_onto k 10 false (n / 10) (digit_glyph false (n % 10) ∷ acc)) → Unbroken (cond b (digit_glyph false (n % 10) ∷ acc) (digits_onto k 10 false (n / 10) (digit_glyph false (n % 10) ∷ acc)))
    by_test true more = here
    by_test false more = more

decimal_unbroken : (n : ℕ) → Unbroken (decimal n)
unfolding digits
decimal_unbroken n = digits_unbroken 64 n [] refl

word_unbroken : (call : Call) → Unbroken (word_of call)
word_unbroken (Out page value) = refl
word_unbroken (In page) = refl
word_unbroken (Free page) = refl
word_unbroken (Make groups spares) = refl
word_unbroken (Fall server) = refl
word_unbroken (Back server) = refl
word_unbroken (Rebuild server) = refl

called_unbroken : (o : Option Call) → Unbroken (called o)
called_unbroken None = refl
called_unbroken (Some call) = both (word_of call ++ codes ",") _ (both (word_of call) (codes ",") (word_unbroken call) refl) (decimal_unbroken (number_of call))

refusal_unbroken : (why : Refusal) → Unbroken (named why).word
refusal_unbroken Range = refl
refusal_unbroken Length = refl
refusal_unbroken NoPage = refl
refusal_unbroken Lost = refl
refusal_unbroken Gone = refl
refusal_unbroken Shape = refl
refusal_unbroken Full = refl
refusal_unbroken Worn = refl
refusal_unbroken Unread = refl

answer_unbroken : (answer : Result Detail Fault) → Unbroken (answer_word answer)
answer_unbroken (Ok detail) = refl
answer_unbroken (Err fault) = refusal_unbroken fault.refusal

joined_unbroken : (ns : List ℕ) → Unbroken (join_with_byte 43 (map decimal ns))
joined_unbroken [] = refl
joined_unbroken (n ∷ []) = decimal_unbroken n
joined_unbroken (n ∷ m ∷ ns) = both (decimal n) _ (decimal_unbroken n) (no_end 43 (join_with_byte 43 (map decimal (m ∷ ns))) (λ e. absurd (omega arith)) (joined_unbroken (m ∷ ns)))

detail_unbroken : (detail : Detail) → Unbroken (detail_text detail)
detail_unbroken Nothing = refl
detail_unbroken (Pages count) = decimal_unbroken count
detail_unbroken (Byte byte) = decimal_unbroken byte
detail_unbroken (Groups rebuilt failed) = both (decimal rebuilt ++ codes "/") _ (both (decimal rebuilt) (codes "/") (decimal_unbroken rebuilt) refl) (decimal_unbroken failed)

shown_unbroken : (why : Refusal) (missing : Option ℕ) → Unbroken (refusal_text why missing)
shown_unbroken Lost (Some set) = joined_unbroken _
shown_unbroken Lost None = refl
shown_unbroken Range set = refl
shown_unbroken Length set = refl
shown_unbroken NoPage set = refl
shown_unbroken Gone set = refl
shown_unbroken Shape set = refl
shown_unbroken Full set = refl
shown_unbroken Worn set = refl
shown_unbroken Unread set = refl

text_unbroken : (answer : Result Detail Fault) → Unbroken (answer_text answer)
text_unbroken (Ok detail) = detail_unbroken detail
text_unbroken (Err fault) = shown_unbroken fault.refusal fault.missing

-- fields, and one more behind a comma
field : (xs ys : List ℕ) → Unbroken xs → Unbroken ys → Unbroken (xs ++ codes "," ++ ys)
field xs ys u v = both (xs ++ codes ",") ys (both xs (codes ",") u refl) v

entry_is_line : (e : Entry) → IsLine (line_for e)
entry_is_line e =
    let two = decimal e.line ++ codes "," ++ called e.call in
    let three = two ++ codes "," ++ answer_word e.answer in
    let call : Unbroken two = field (decimal e.line) (called e.call) (decimal_unbroken e.line) (called_unbroken e.call) in
    let word : Unbroken three = field two (answer_word e.answer) call (answer_unbroken e.answer) in
    record { body = three ++ codes "," ++ answer_text e.answer; ended = refl; unbroken = field three (answer_text e.answer) word (text_unbroken e.answer) }

header_is_line : IsLine (line_at 1 header)
header_is_line = record { body = codes "line,call,number,answer,detail"; ended = refl; unbroken = refl }

pub are_lines : (es : List Entry) → All IsLine (all_lines es)
are_lines es = All-cons IsLine (line_at 1 header) _ header_is_line (All-map IsLine line_for es (λ k d lt. entry_is_line (slice_index_or es k d)))
