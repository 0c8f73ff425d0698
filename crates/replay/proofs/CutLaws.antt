-- The first lines that a buffer has are determined by its length, and a longer one has them too.
use Rattle.std.proofs.Common.{◌≡◌, ℕ, ◌+◌, ◌≤◌, length, List, [], ◌∷◌, ◌++◌, Result, refl, sym, ap, ◌∙◌, subst, take, drop, length-append, append_assoc, arith}
use Rattle.std.proofs.lemmas.List.{append-nil}
use Rattle.std.proofs.Math.Seq.{take-append_seam}
use Rattle.replay.specs.declared.listing.Halt.{Halt}
use Rattle.replay.specs.Transcript.{Line, text, EndsAt, HasFirst, bytes_counted}

text_both : (xs ys : List Line) → text (xs ++ ys) ≡ text xs ++ text ys
text_both [] ys = refl
text_both (x ∷ xs) ys = ap (λ t. x.bytes ++ t) (text_both xs ys) ∙ sym (append_assoc x.bytes (text xs) (text ys))

one_before : (x y : Line) (s s' more : List Line) → x ≡ y → s' ≡ s ++ more → y ∷ s' ≡ x ∷ (s ++ more)
one_before x y s s' more first rest = rw (first, rest) refl

-- Of the same lines behind so many bytes: a buffer that is as long or longer has as many or more.
shown_more : (base : ℕ) (s l s' l' : List Line) (room room' : ℕ) (a' : Result ℕ Halt) → s ++ l ≡ s' ++ l' → room ≤ room' → base + length (text s) ≤ room → EndsAt l' room' (base + length (text s')) a' → (more : List Line) × (s' ≡ s ++ more)
shown_more base [] l s' l' room room' a' same longer fits ends = (s', refl)
shown_more base (x ∷ s) l [] [] room room' a' same longer fits ends = absurd cc
shown_more base (x ∷ s) l [] (y ∷ l') room room' a' same longer fits ends =
    let first : x ≡ y = cc in
    absurd (omega (arith, ends.0, fits, ap (λ l. length l.bytes) first, length-append x.bytes (text s)))
shown_more base (x ∷ s) l (y ∷ s') l' room room' a' same longer fits ends =
    let first : x ≡ y = cc in
    let others : s ++ l ≡ s' ++ l' = cc in
    let P : ℕ → Type 0 = λ n. EndsAt l' room' n a' in
    let further : base + length (y.bytes ++ text s') ≡ base + length x.bytes + length (text s') = omega (arith, ap (λ l. length l.bytes) first, length-append y.bytes (text s')) in
    let more = shown_more (base + length x.bytes) s l s' l' room room' a' others longer (omega (arith, fits, length-append x.bytes (text s))) (subst P further ends) in
    (more.0, one_before x y s s' more.0 first more.1)

pub counted_is : (l : List Line) (room n : ℕ) (a : Result ℕ Halt) → EndsAt l room n a → bytes_counted a ≡ n
counted_is [] room n a e = ap bytes_counted e
counted_is (next ∷ more) room n a e = ap bytes_counted e.1

module _ (lines : List Line) (before : List ℕ) (a : Result ℕ Halt) (after : List ℕ) (h : HasFirst lines before a after) where
  -- the bytes that are counted are the lines that are shown
  pub shown_counted : bytes_counted a ≡ length (text h.shown)
  shown_counted = counted_is h.left_out (length before) (length (text h.shown)) a h.ends

  pub counted_part : take (bytes_counted a) after ≡ text h.shown
  counted_part =
      let shown = text h.shown in
      ap (λ n. take n after) shown_counted ∙ ap (take (length shown)) h.bytes ∙ take-append_seam shown (drop (length shown) before)

  module _ (before' : List ℕ) (a' : Result ℕ Halt) (after' : List ℕ) (h' : HasFirst lines before' a' after') (longer : length before ≤ length before') where
    more_shown : (more : List Line) × (h'.shown ≡ h.shown ++ more)
    more_shown =
        let P : ℕ → Type 0 = λ n. EndsAt h'.left_out (length before') n a' in
        shown_more 0 h.shown h.left_out h'.shown h'.left_out (length before) (length before') a' (sym h.in_order ∙ h'.in_order) longer (omega (arith, h.room)) (subst P (omega arith) h'.ends)

    pub counts_more : bytes_counted a ≤ bytes_counted a'
    counts_more =
        let more : text h'.shown ≡ text h.shown ++ text more_shown.0 = ap text more_shown.1 ∙ text_both h.shown more_shown.0 in
        omega (arith, shown_counted, counted_is h'.left_out (length before') (length (text h'.shown)) a' h'.ends, ap length more, length-append (text h.shown) (text more_shown.0))

    pub begins_same : take (bytes_counted a) after' ≡ take (bytes_counted a) after
    begins_same =
        let shown = text h.shown in
        let rest = text more_shown.0 in
        let past = drop (length (text h'.shown)) before' in
        let more : text h'.shown ≡ shown ++ rest = ap text more_shown.1 ∙ text_both h.shown more_shown.0 in
        let whole : after' ≡ shown ++ (rest ++ past) = h'.bytes ∙ ap (λ t. t ++ past) more ∙ append_assoc shown rest past in
        ap (λ n. take n after') shown_counted ∙ ap (take (length shown)) whole ∙ take-append_seam shown (rest ++ past) ∙ sym counted_part

append_none : (s more : List Line) → length (s ++ more) ≤ length s → more ≡ []
append_none s [] h = refl
append_none s (x ∷ more) h = absurd (omega (arith, length-append s (x ∷ more)))

append_left : (s l l' : List Line) → s ++ l ≡ s ++ l' → l ≡ l'
append_left [] l l' e = e
append_left (x ∷ s) l l' e = append_left s l l' cc

one_answer : (l : List Line) (room n : ℕ) (a' a : Result ℕ Halt) → EndsAt l room n a' → EndsAt l room n a → a' ≡ a
one_answer [] room n a' a e' e = e' ∙ sym e
one_answer (x ∷ l) room n a' a e' e = e'.1 ∙ sym e.1

-- two buffers of one length have the same lines, and the same answer
module _ (lines : List Line) (before : List ℕ) (a : Result ℕ Halt) (after : List ℕ) (h : HasFirst lines before a after) (a' : Result ℕ Halt) (after' : List ℕ) (h' : HasFirst lines before a' after') where
  same_shown : h'.shown ≡ h.shown
  same_shown =
      let more = more_shown lines before a after h before a' after' h' (omega arith) in
      let less = more_shown lines before a' after' h' before a after h (omega arith) in
      let none : more.0 ≡ [] = append_none h.shown more.0 (omega (arith, ap length more.1, ap length less.1, length-append h'.shown less.0)) in
      more.1 ∙ ap (λ m. h.shown ++ m) none ∙ append-nil h.shown

  same_left : h'.left_out ≡ h.left_out
  same_left = append_left h.shown h'.left_out h.left_out (sym (ap (λ s. s ++ h'.left_out) same_shown) ∙ sym h'.in_order ∙ h.in_order)

  pub same_answer : a' ≡ a
  same_answer =
      let P : List Line → Type 0 = λ l. EndsAt l (length before) (length (text h'.shown)) a' in
      let Q : List Line → Type 0 = λ s. EndsAt h.left_out (length before) (length (text s)) a' in
      one_answer h.left_out (length before) (length (text h.shown)) a' a (subst Q same_shown (subst P same_left h'.ends)) h.ends

  pub same_listing : after' ≡ after
  same_listing = h'.bytes ∙ ap (λ s. text s ++ drop (length (text s)) before) same_shown ∙ sym h.bytes
