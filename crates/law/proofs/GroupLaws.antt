-- A group as it grows, closes and is freed.
use Rattle.std.proofs.Common.{◌≡◌, ℕ, zero, suc, ◌+◌, ◌<◌, List, sym, refl, ap, ◌∙◌, inl, inr, add-one, arith, eq-eqb, ne_eqb}
use lib.ListN.{length-replicate}
use Rattle.std.specs.List.{range_with_len}
use Rattle.std.proofs.lemmas.Bool.{cases_eq}
use Rattle.page.specs.Pages.{page_size, zeros, xor_page}
use Rattle.page.proofs.PageLaws.{xor_associates, xor_twice}
use Rattle.server.specs.Meaning.{Held, holds}
use Rattle.law.specs.Book.{written}
use Rattle.law.proofs.ListLaws.{over, over_last}
use Rattle.law.proofs.SolveLaws.{xor_swap, xor_whole, xor_none, over_whole}
use Rattle.law.proofs.Invariant.{written_here, written_there}
use Rattle.law.proofs.Mode.{Still, still_then, Whole, xor_over, GroupOk}

pub zeros_whole : Whole zeros
zeros_whole = length-replicate {A = ℕ} page_size 0

-- a group without members
pub group_none : (Y : ℕ → Type 0) (c : ℕ → List ℕ) (h : ℕ → Held) → ((k : ℕ) → Whole (c k)) → GroupOk Y 0 zeros c h
group_none Y c h w = record { kept_whole = zeros_whole; whole = w; balanced = xor_none zeros zeros_whole; true_held = λ k l. absurd (omega arith) }

over_same : {A : Type 0} (add : A → A → A) (none : A) (f f' : ℕ → A) (from n : ℕ) → ((k : ℕ) → k < from + n → f k ≡ f' k) → over add none f (range_with_len from n) ≡ over add none f' (range_with_len from n)
over_same add none f f' from zero h = refl
over_same add none f f' from (suc n) h = rw (h from (omega arith)) (ap (add (f' from)) (over_same add none f f' (from + 1) n (λ k l. h k (omega arith))))

-- a page added twice
cancel : (p x y : List ℕ) → Whole x → Whole y → xor_page (xor_page p x) (xor_page x y) ≡ xor_page p y
cancel p x y hx hy = xor_associates p x (xor_page x y) ∙ ap (xor_page p) (xor_twice x y (hx ∙ sym hy))

pub xor_self : (x : List ℕ) → Whole x → xor_page x x ≡ zeros
xor_self x h = ap (xor_page x) (sym (xor_none x h)) ∙ xor_twice x zeros (h ∙ sym zeros_whole)

-- one member more, where the servers L may lose in the put
module _ (Y L : ℕ → Type 0) (n : ℕ) (p : List ℕ) (c : ℕ → List ℕ) (h h' : ℕ → Held) (may : (k : ℕ) → L k → Y k) (o : GroupOk Y n p c h) (beside : (k : ℕ) → (k ≡ n → ⊥) → Still (L k) (h k) (h' k)) where
  -- added to the page that the pager keeps
  pub group_put : (x : List ℕ) → Whole x → Still (L n) (holds x) (h' n) → GroupOk Y (n + 1) (xor_page p x) (written n x c) h'
  group_put x hx here = record {
    kept_whole = xor_whole p x o.kept_whole hx;
    whole = λ k. elim (cases_eq n k) [ inl y ↦ rw (eq-eqb n k y) hx | inr ne ↦ rw (ne_eqb n k ne) (o.whole k) ];
    balanced =
        let d = written n x c in
        let grown : xor_over d (range_with_len 0 (n + 1)) ≡ xor_page x (xor_over c (range_with_len 0 n)) = rw add-one (
        over_last xor_page zeros xor_swap d 0 n
        ∙ ap (λ j. xor_page (d j) (xor_over d (range_with_len 0 n))) (let z : 0 + n ≡ n = omega arith in z)
        ∙ ap (λ y. xor_page y (xor_over d (range_with_len 0 n))) (written_here n x c)
        ∙ ap (xor_page x) (over_same xor_page zeros d c 0 n (λ k l. written_there n k x c (λ y. omega arith)))
        ) in
        ap (xor_page (xor_page p x)) grown ∙ cancel p x (xor_over c (range_with_len 0 n)) hx (over_whole c (range_with_len 0 n) o.whole) ∙ o.balanced;
    true_held = λ k l. elim (cases_eq n k) [
      | inl y ↦ rw (← y, eq-eqb n n refl) (still_then (Y n) (L n) (holds x) (holds x) (h' n) (may n) (inl refl) here)
      | inr ne ↦ rw (ne_eqb n k ne) (still_then _ _ _ _ _ (may k) (o.true_held k (omega arith)) (beside k (λ y. ne (sym y))))
    ];
  }

  -- the kept page itself
  pub group_close : Still (L n) (holds p) (h' n) → GroupOk Y (n + 1) zeros (written n p c) h'
  group_close here = rw (xor_self p o.kept_whole) at (group_put p o.kept_whole here)
