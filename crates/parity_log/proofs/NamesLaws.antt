-- The page that the table names at a position, and what a change of one entry makes of it.
use Rattle.std.proofs.Common.{◌≡◌, ℕ, zero, suc, ◌+◌, ◌<◌, Bool, true, false, cond, ◌&&◌, eqb, ◌≢◌, List, [], ◌∷◌, length, get_or, set, Some, None, sym, refl, ap, ◌∙◌, add-zero, arith, length-set, get_or-set_other, get_or-set_same, eq-eqb, eqb-true}
use borrow.Author.Tests.{eqb-false}
use Rattle.std.proofs.lemmas.Bool.{false≢true, false_from_ne_true}
use Rattle.parity_log.specs.declared.records.PageState.{PageState}
use Rattle.parity_log.specs.declared.records.PageState.TheVariants.{NotOut, Out, Lost}
use Rattle.parity_log.specs.Tables.{names, page_from, page_at}
use Rattle.parity_log.specs.Order.{Once}

pub names_out : (s : PageState) (g i : ℕ) → names s g i ≡ true → s ≡ Out g i
names_out NotOut g i e = absurd (false≢true e)
names_out (Out h j) g i e = go (eqb h g) (eqb j i) refl refl e
  where
    go : (a b : Bool) → eqb h g ≡ a → eqb j i ≡ b → (a && b) ≡ true → Out h j ≡ Out g i
    go true true p q _ = let x = eqb-true h g p in let y = eqb-true j i q in cc
    go true false p q z = absurd (false≢true z)
    go false b p q z = absurd (false≢true z)
names_out (Lost h m) g i e = absurd (false≢true e)

pub out_names : (s : PageState) (g i : ℕ) → s ≡ Out g i → names s g i ≡ true
out_names s g i e = rw e (rw (eq-eqb g g refl) (eq-eqb i i refl))

-- tables that name a position alike
same_names : (n : ℕ) (xs ys : List PageState) (g i : ℕ) → length xs ≡ length ys → ((q : ℕ) → names (get_or xs q NotOut) g i ≡ names (get_or ys q NotOut) g i) → page_from n xs g i ≡ page_from n ys g i
same_names n [] [] g i l h = refl
same_names n [] (y ∷ ys) g i l h = absurd (omega arith)
same_names n (x ∷ xs) [] g i l h = absurd (omega arith)
same_names n (x ∷ xs) (y ∷ ys) g i l h = rw (h 0) (ap (cond (names y g i) (Some n)) (same_names (n + 1) xs ys g i (omega arith) (λ q. h (suc q))))

none_named : (n : ℕ) (xs : List PageState) (g i : ℕ) → ((q : ℕ) → names (get_or xs q NotOut) g i ≡ false) → page_from n xs g i ≡ None
none_named n [] g i h = refl
none_named n (x ∷ xs) g i h = rw (h 0) (none_named (n + 1) xs g i (λ q. h (suc q)))

first_named : (n : ℕ) (xs : List PageState) (g i p m : ℕ) → n + p ≡ m → p < length xs → names (get_or xs p NotOut) g i ≡ true → ((q : ℕ) → q < p → names (get_or xs q NotOut) g i ≡ false) → page_from n xs g i ≡ Some m
first_named n [] g i p m e l t f = absurd (omega arith)
first_named n (x ∷ xs) g i zero m e l t f = rw t (ap Some (sym (add-zero n) ∙ e))
first_named n (x ∷ xs) g i (suc p) m e l t f = rw (f 0 (omega arith)) (first_named (n + 1) xs g i p m (omega arith) (omega arith) t (λ q h. f (suc q) (omega arith)))

-- where the position is named only by p
pub only_named : (xs : List PageState) (g i p : ℕ) → p < length xs → names (get_or xs p NotOut) g i ≡ true → ((q : ℕ) → (q ≡ p → ⊥) → names (get_or xs q NotOut) g i ≡ false) → page_at xs g i ≡ Some p
unfolding page_at
only_named xs g i p l t f = first_named 0 xs g i p p (omega arith) l t (λ q h. f q (λ e. omega arith))

module _ (xs : List PageState) (p : ℕ) (s : PageState) (l : p < length xs) where
  at_own : (g i : ℕ) → names (get_or (set xs p s) p NotOut) g i ≡ names s g i
  at_own g i = ap (λ t. names t g i) (rw get_or-set_same)

  at_other : (q g i : ℕ) → (q ≡ p → ⊥) → names (get_or (set xs p s) q NotOut) g i ≡ names (get_or xs q NotOut) g i
  at_other q g i ne = let n : q ≢ p = ne in ap (λ t. names t g i) (rw get_or-set_other)

  -- the position that the new entry names, where no other page is
  pub named_now : (g i : ℕ) → names s g i ≡ true → ((q : ℕ) → (q ≡ p → ⊥) → names (get_or xs q NotOut) g i ≡ false) → page_at (set xs p s) g i ≡ Some p
  named_now g i t f = only_named (set xs p s) g i p (rw (length-set xs p s) l) (at_own g i ∙ t) (λ q ne. at_other q g i ne ∙ f q ne)

  -- the position that the old entry named
  pub named_no_more : (g i : ℕ) → Once xs → names s g i ≡ false → names (get_or xs p NotOut) g i ≡ true → page_at (set xs p s) g i ≡ None
  unfolding page_at
  named_no_more g i o f t = none_named 0 (set xs p s) g i each
    where
      away : (q : ℕ) → (q ≡ p → ⊥) → names (get_or xs q NotOut) g i ≡ true → ⊥
      away q ne e = ne (o q p g i (names_out (get_or xs q NotOut) g i e) (names_out (get_or xs p NotOut) g i t))

      each : (q : ℕ) → names (get_or (set xs p s) q NotOut) g i ≡ false
      each q = go (eqb q p) refl
        where
          go : (v : Bool) → eqb q p ≡ v → names (get_or (set xs p s) q NotOut) g i ≡ false
          go true e = rw (eqb-true q p e) (at_own g i ∙ f)
          go false e = let ne = eqb-false q p e in at_other q g i ne ∙ false_from_ne_true (names (get_or xs q NotOut) g i) (away q ne)

  -- any other position
  pub named_as_before : (g i : ℕ) → names s g i ≡ false → names (get_or xs p NotOut) g i ≡ false → page_at (set xs p s) g i ≡ page_at xs g i
  unfolding page_at
  named_as_before g i f e = same_names 0 (set xs p s) xs g i (length-set xs p s) each
    where
      each : (q : ℕ) → names (get_or (set xs p s) q NotOut) g i ≡ names (get_or xs q NotOut) g i
      each q = go (eqb q p) refl
        where
          go : (v : Bool) → eqb q p ≡ v → names (get_or (set xs p s) q NotOut) g i ≡ names (get_or xs q NotOut) g i
          go true z = rw (eqb-true q p z) (at_own g i ∙ f ∙ sym e)
          go false z = at_other q g i (eqb-false q p z)
