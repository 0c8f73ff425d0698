-- What a caller is refused for before any server is asked.
use Rattle.std.proofs.Common.{◌≡◌, ℕ, ◌<◌, true, false, eqb, ltb, Some, None as Nowhere, Option, refl, ap, ltb-true, eqb-true}
use borrow.Author.Tests.{both_ways}
use Rattle.std.proofs.lemmas.Bool.{cond_both}
use Rattle.page.specs.declared.faults.Fault.{Fault}
use Rattle.page.specs.declared.faults.Refusal.{Refusal}
use Rattle.page.specs.declared.faults.Refusal.TheVariants.{Range, Length, None, Lost, Gone, Shape as BadShape, Full, Worn, Unread}
use Rattle.page.specs.Refusals.{fault_of, same_refusal}
use Rattle.page.specs.declared.faults.Layer.TheVariants.{Log}
use Rattle.parity_log.specs.declared.records.Tables.{Tables}
use Rattle.parity_log.specs.Tables.{within, capacity}
use Rattle.parity_log.specs.Faults.{on_page, objection}

-- neither as lost nor as none
pub record Plain (f : Fault) : Type 0 where
  pub not_lost : same_refusal f.refusal Lost ≡ false
  pub not_none : same_refusal f.refusal None ≡ false

pub plain_lost : (f : Fault) → Plain f → f.refusal ≡ Lost → ⊥
plain_lost f p e = both_ways _ p.not_lost (ap (λ w. same_refusal w Lost) e)

pub plain_none : (f : Fault) → Plain f → f.refusal ≡ None → ⊥
plain_none f p e = both_ways _ p.not_none (ap (λ w. same_refusal w None) e)

-- a plain refusal; or none, and the page is one of the pager's and its bytes are as long as a page
abbrev pub Objects : Tables → ℕ → ℕ → Option Fault → Type 0
Objects v p n Nowhere = (within v.shape ≡ true) × (p < capacity v.shape) × (n ≡ 512)
Objects v p n (Some f) = Plain f

pub objects : (v : Tables) (p n : ℕ) → Objects v p n (objection v p n)
objects v p n = cond_both (within v.shape) _ (Some (fault_of Log BadShape)) (Objects v p n)
    (λ made. cond_both (ltb p (capacity v.shape)) _ (Some (on_page Range p)) (Objects v p n)
    (λ low. cond_both (eqb n 512) Nowhere (Some (on_page Length p)) (Objects v p n) (λ long. (made, ltb-true p (capacity v.shape) low, eqb-true n 512 long)) (λ _. record { not_lost = refl; not_none = refl }))
    (λ _. record { not_lost = refl; not_none = refl }))
    (λ _. record { not_lost = refl; not_none = refl })

-- the refusal as lost is told from all others by its number
pub as_lost : (w : Refusal) → same_refusal w Lost ≡ true → w ≡ Lost
as_lost Range e = absurd (both_ways _ refl e)
as_lost Length e = absurd (both_ways _ refl e)
as_lost None e = absurd (both_ways _ refl e)
as_lost Lost e = refl
as_lost Gone e = absurd (both_ways _ refl e)
as_lost BadShape e = absurd (both_ways _ refl e)
as_lost Full e = absurd (both_ways _ refl e)
as_lost Worn e = absurd (both_ways _ refl e)
as_lost Unread e = absurd (both_ways _ refl e)
