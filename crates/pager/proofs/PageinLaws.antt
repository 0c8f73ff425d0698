-- The ways through a pagein.
use Rattle.std.proofs.Common.{◌≡◌, ℕ, ◌<◌, Bool, true, false, cond, eqb, ltb, List, [], Some, None as Nowhere, Ok, Err, MatchResult, Result, sym, refl, subst, arith, ltb-true, eqb-true}
use Rattle.page.specs.declared.faults.Fault.{Fault}
use Rattle.page.specs.declared.faults.Layer.TheVariants.{Log}
use Rattle.page.specs.declared.faults.Refusal.TheVariants.{Length, None, Range, Shape}
use Rattle.page.specs.Refusals.{fault_of}
use Rattle.server.specs.Calls.{filled, Left}
use Rattle.bank.specs.Rows.{RowRule}
use Rattle.parity_log.specs.declared.records.PageState.{PageState}
use Rattle.parity_log.specs.declared.records.PageState.TheVariants.{NotOut, Out, Lost}
use Rattle.parity_log.specs.LogState.{LogState}
use Rattle.parity_log.specs.declared.records.Tables.{Tables}
use Rattle.parity_log.specs.Faults.{on_page, lost_page, objection, refused_by}
use Rattle.parity_log.specs.Reading.{delivered, found, missed, pagein, pagein_from, pagein_unless, read}
use Rattle.parity_log.specs.Rule.{give, Ends}
use Rattle.parity_log.specs.Tables.{within, capacity, page_state}
use Rattle.parity_log.proofs.RuleLaws.{ends_bind, ends_give, ends_note}
use Rattle.pager.specs.Admitted.{Admitted}
use Rattle.pager.specs.Reads.{Unread, reading_of}
use Rattle.pager.proofs.Admitting.{Passes, refused_at, let_in}

pub admitted : (v : Tables) (p n : ℕ) → Admitted v p n → (within v.shape ≡ true) × (p < capacity v.shape) × (n ≡ 512)
admitted v p n h = go (within v.shape) (ltb p (capacity v.shape)) (eqb n 512) refl refl refl h
  where
    go : (x y z : Bool) → within v.shape ≡ x → ltb p (capacity v.shape) ≡ y → eqb n 512 ≡ z → Passes (cond x (cond y (cond z Nowhere (Some (on_page Length p))) (Some (on_page Range p))) (Some (fault_of Log Shape))) → (within v.shape ≡ true) × (p < capacity v.shape) × (n ≡ 512)
    go true true true s r l q = (s, ltb-true _ _ r, eqb-true _ _ l)
    go true true false s r l q = let w : ◌≡◌ {A = ℕ} 0 1 = cc in absurd (omega arith)
    go true false z s r l q = let w : ◌≡◌ {A = ℕ} 0 1 = cc in absurd (omega arith)
    go false y z s r l q = let w : ◌≡◌ {A = ℕ} 0 1 = cc in absurd (omega arith)

module _ {B : Type 0} (steps : RowRule B) (l : LogState) (p n : ℕ) (b e : B) where
  pub pagein_refused : (x : List ℕ) (r : Result (Unit {0}) Fault) (f k : Fault) → r ≡ Err k → k ≡ f → Err f ≡ refused_by (objection l.tables p n) → Ends steps (pagein l p n) b (filled r x) b × Left r x x
  unfolding pagein
  pagein_refused x r f k is same q = (refused_at steps b (λ a. filled a x) (λ o. pagein_unless o l p) (λ _. refl) (objection l.tables p n) r f k is same q, rw is refl)

  pagein_at : Admitted l.tables p n → (s : PageState) (r : Result (List ℕ) Fault) → page_state l.tables p ≡ s → Ends steps (pagein_from l p s) b r e → Ends steps (pagein l p n) b r e
  unfolding pagein
  pagein_at admit s r is run = let_in steps b (λ a. filled a []) (λ o. pagein_unless o l p) (λ _. refl) (objection l.tables p n) r e admit (subst (λ (x : PageState). Ends steps (pagein_from l p x) b r e) (sym is) run)

module _ {B : Type 0} (steps : RowRule B) (l : LogState) (p n : ℕ) (b e : B) (admit : Admitted l.tables p n) where
  pub pagein_none : (f : Fault) → f ≡ on_page None p → page_state l.tables p ≡ NotOut → Ends steps (pagein l p n) b (Err f) b
  unfolding pagein_from
  pagein_none f same is = rw same (pagein_at steps l p n b b admit NotOut (Err (on_page None p)) is (ends_give steps (Err (on_page None p)) b))

  pub pagein_lost : (f : Fault) (g s : ℕ) → f ≡ lost_page p g s → page_state l.tables p ≡ Lost g s → Ends steps (pagein l p n) b (Err f) b
  unfolding pagein_from
  pagein_lost f g s same is = rw same (pagein_at steps l p n b b admit (Lost g s) (Err (lost_page p g s)) is (ends_give steps (Err (lost_page p g s)) b))

  pagein_found : (g i : ℕ) (x : List ℕ) → page_state l.tables p ≡ Out g i → Ends steps (read l g i) b (found x) e → Ends steps (pagein l p n) b (Ok x) e
  unfolding pagein_from
  pagein_found g i x is run = pagein_at steps l p n b e admit (Out g i) (Ok x) is (ends_bind steps (read l g i) (λ r. delivered l.tables p g i r) b e e (found x) (Ok x) run (ends_give steps (Ok x) e))

  pagein_missed : (g i s : ℕ) → page_state l.tables p ≡ Out g i → Ends steps (read l g i) b (missed s) e → Ends steps (pagein l p n) b (Err (lost_page p g s)) e
  unfolding pagein_from
  pagein_missed g i s is run = pagein_at steps l p n b e admit (Out g i) (Err (lost_page p g s)) is
      (ends_bind steps (read l g i) (λ r. delivered l.tables p g i r) b e e (missed s) (Err (lost_page p g s)) run (ends_note steps _ (give (Err (lost_page p g s))) e e (Err (lost_page p g s)) (ends_give steps (Err (lost_page p g s)) e)))

  -- a page that is out is read, or lost by what the reading says is missing
  pub pagein_read : (g i : ℕ) (r : Result (Unit {0}) ℕ) (a : Result (Unit {0}) Fault) (x y : List ℕ) → page_state l.tables p ≡ Out g i → MatchResult r (λ u. a ≡ Ok u) (λ s. a ≡ Err (lost_page p g s)) → Ends steps (read l g i) b (reading_of r x) e → Unread r y x
      → Ends steps (pagein l p n) b (filled a x) e × Left a y x
  pagein_read g i (Ok u) a x y is says run left = rw says (pagein_found g i x is run, tt)
  pagein_read g i (Err s) a x y is says run left = rw says (pagein_missed g i s is run, left)
