-- The ways through placing, releasing and closing.
use Rattle.std.proofs.Common.{◌≡◌, ℕ, ◌+◌, ◌-◌, ◌<◌, ◌≤◌, true, false, List, is_ok, Some, None, Option, Result, refl, subst, eq-eqb, ne_eqb}
use Rattle.std.specs.List.{range_with_len}
use Rattle.page.specs.declared.faults.Fault.{Fault}
use Rattle.page.specs.Pages.{zeros}
use Rattle.server.specs.Calls.{to_put, to_free}
use Rattle.bank.specs.Rows.{RowRule}
use Rattle.parity_log.specs.LogState.{LogState, log_of, with_tables}
use Rattle.parity_log.specs.declared.records.GroupState.TheVariants.{Free}
use Rattle.parity_log.specs.Rule.{give, Ends}
use Rattle.parity_log.specs.Tables.{with_state}
use Rattle.parity_log.specs.Reading.{LogRule}
use Rattle.parity_log.specs.Paging.{place, placed_log, free_on, release, release_old, released_old, unused, close_full, closed_log, shut}
use Rattle.parity_log.proofs.RuleLaws.{Leads, leads_ask, leads_give, ends_ask, ends_give}
use Rattle.pager.specs.Places.{placed_as}
use Rattle.pager.proofs.AskingLaws.{span_more, span_none}

pub closed_now : (l : LogState) (g : ℕ) → l.tables.filled ≡ l.tables.shape.servers → closed_log l g ≡ log_of (shut l.tables g) zeros
closed_now l g h = rw (eq-eqb l.tables.filled l.tables.shape.servers h) refl

pub open_still : (l : LogState) (g : ℕ) → (l.tables.filled ≡ l.tables.shape.servers → ⊥) → closed_log l g ≡ l
open_still l g h = rw (ne_eqb l.tables.filled l.tables.shape.servers h) refl

module _ {B : Type 0} (steps : RowRule B) (whole : LogRule LogState) (b₀ b : B) (g k n : ℕ) (l : LogState) (inv : Leads steps whole b₀ (free_on (range_with_len k (n - k)) g l) b) where
  pub free_more : (b' : B) (a : Result (Unit {0}) Fault) → k < n → steps b k (to_free g) a b' → Leads steps whole b₀ (free_on (range_with_len (k + 1) (n - (k + 1))) g l) b'
  unfolding free_on
  free_more b' a h st = leads_ask steps whole b₀ b b' k (to_free g) (λ _. free_on (range_with_len (k + 1) (n - (k + 1))) g l) a (rw (span_more k n h) at inv) st

  pub free_end : n ≤ k → Ends steps whole b₀ l b
  unfolding free_on
  free_end h = leads_give steps whole b₀ b l (rw (span_none k n h) at inv)

module _ {B : Type 0} (steps : RowRule B) (l : LogState) (g : ℕ) (b e : B) where
  abbrev closed : LogState
  closed = log_of (shut l.tables g) zeros

  pub closes : (a : Result (Unit {0}) Fault) → l.tables.filled ≡ l.tables.shape.servers → steps b l.tables.shape.servers (to_put g l.running) a e → Ends steps (close_full l g) b closed e
  unfolding close_full
  closes a h st = rw (eq-eqb l.tables.filled l.tables.shape.servers h) (ends_ask steps l.tables.shape.servers (to_put g l.running) (λ _. give closed) b e e a closed st (ends_give steps closed e))

  pub stays_open : (l.tables.filled ≡ l.tables.shape.servers → ⊥) → Ends steps (close_full l g) b l b
  unfolding close_full
  stays_open h = rw (ne_eqb l.tables.filled l.tables.shape.servers h) (ends_give steps l b)

  pub places : (p : ℕ) (x : List ℕ) (a : Result (Unit {0}) Fault) → steps b l.tables.filled (to_put g x) a e → Ends steps (place l g p x) b (placed_as (is_ok a) (placed_log l g p x)) e
  unfolding place
  places p x a st = ends_ask steps l.tables.filled (to_put g x) (λ d. give (placed_as (is_ok d) (placed_log l g p x))) b e e a (placed_as (is_ok a) (placed_log l g p x)) st (ends_give steps (placed_as (is_ok a) (placed_log l g p x)) e)

module _ {B : Type 0} (steps : RowRule B) (l : LogState) (b e : B) where
  pub releases : (g : ℕ) (m : LogState) → m ≡ with_tables l (with_state l.tables g Free) → Ends steps (free_on (range_with_len 0 (m.tables.shape.servers + 1)) g m) b m e → Ends steps (release l g) b m e
  unfolding release
  releases g m q run = subst (λ (x : LogState). Ends steps (free_on (range_with_len 0 (x.tables.shape.servers + 1)) g x) b m e) q run

  pub leaves_unused : (old : Option ℕ) (g : ℕ) (m : LogState) → old ≡ Some g → unused l.tables g ≡ true → Ends steps (release l g) b m e → m ≡ with_tables l (with_state l.tables g Free)
      → Ends steps (release_old old l) b m e × (m ≡ with_tables l (released_old old l.tables))
  unfolding release_old
  leaves_unused old g m q u run same = rw (q, u) (run, same)

  pub leaves_used : (old : Option ℕ) (g : ℕ) → old ≡ Some g → unused l.tables g ≡ false → Ends steps (release_old old l) b l b × (l ≡ with_tables l (released_old old l.tables))
  unfolding release_old
  leaves_used old g q u = rw (q, u) (ends_give steps l b, refl)

  pub leaves_none : (old : Option ℕ) → old ≡ None → Ends steps (release_old old l) b l b × (l ≡ with_tables l (released_old old l.tables))
  unfolding release_old
  leaves_none old q = rw q (ends_give steps l b, refl)
