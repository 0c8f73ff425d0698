-- The ways through the calls that change the tables: refused at the door, or let in.
use Rattle.std.proofs.Common.{◌≡◌, ℕ, ◌<◌, List, length, Ok, Err, Result, sym, refl, ap, ◌∙◌, subst, arith}
use Rattle.page.specs.declared.faults.Fault.{Fault}
use Rattle.bank.specs.Rows.{RowRule}
use Rattle.parity_log.specs.declared.records.PageState.TheVariants.{NotOut}
use Rattle.parity_log.specs.LogState.{LogState, with_tables}
use Rattle.parity_log.specs.declared.records.Tables.{Tables}
use Rattle.parity_log.specs.Rule.{give, Ends}
use Rattle.parity_log.specs.Faults.{objection, refused_by}
use Rattle.parity_log.specs.Tables.{capacity, page_state, with_page, group_of}
use Rattle.parity_log.specs.Order.{SettledLog, Order}
use Rattle.parity_log.specs.Paging.{Told, told, release_old, released_old, steps, pageout, pageout_unless, free, free_unless}
use Rattle.parity_log.proofs.Keeping.{release_same, free_leaves}
use Rattle.parity_log.proofs.RuleLaws.{ends_bind, ends_give}
use Rattle.pager.specs.Admitted.{Admitted}
use Rattle.pager.proofs.Admitting.{refused_at, let_in}

-- a log that is settled is in order
pub settled_order : (l : LogState) → SettledLog l → Order l
settled_order l s = record { made = λ _. s; not_made = λ h. let e = s.tables.sound.shape in let z : ◌≡◌ {A = ℕ} 0 1 = cc in absurd (omega arith) }

module _ {B : Type 0} (steps' : RowRule B) (l : LogState) (p : ℕ) (b : B) where
  pub pageout_refused : (x : List ℕ) (r : Result (Unit {0}) Fault) (f k : Fault) → r ≡ Err k → k ≡ f → Err f ≡ refused_by (objection l.tables p (length x)) → Ends steps' (pageout l p x) b (told r l) b
  unfolding pageout
  pageout_refused x r f k = refused_at steps' b (λ a. told a l) (λ o. pageout_unless o l p x) (λ _. refl) (objection l.tables p (length x)) r f k

  pub pageout_let_in : (x : List ℕ) (r : Told) (e : B) → Admitted l.tables p (length x) → Ends steps' (steps l p x) b r e → Ends steps' (pageout l p x) b r e
  unfolding pageout
  pageout_let_in x r e = let_in steps' b (λ a. told a l) (λ o. pageout_unless o l p x) (λ _. refl) (objection l.tables p (length x)) r e

  pub free_refused : (r : Result (Unit {0}) Fault) (f k : Fault) → r ≡ Err k → k ≡ f → Err f ≡ refused_by (objection l.tables p 512) → Ends steps' (free l p) b (told r l) b
  unfolding free
  free_refused r f k = refused_at steps' b (λ a. told a l) (λ o. free_unless o l p) (λ _. refl) (objection l.tables p 512) r f k

  pub free_let_in : (m : LogState) (e : B) → Admitted l.tables p 512 → Ends steps' (release_old (group_of (page_state l.tables p)) (with_tables l (with_page l.tables p NotOut))) b m e → Ends steps' (free l p) b (told (Ok tt) m) e
  unfolding free
  free_let_in m e admit run = let_in steps' b (λ a. told a l) (λ o. free_unless o l p) (λ _. refl) (objection l.tables p 512) (told (Ok tt) m) e admit (ends_bind steps' (release_old (group_of (page_state l.tables p)) (with_tables l (with_page l.tables p NotOut))) (λ y. give (told (Ok tt) y)) b e e m _ run (ends_give steps' (told (Ok tt) m) e))

-- what a free leaves
pub free_settles : (l m : LogState) (t : Tables) (p : ℕ) → SettledLog l → p < capacity l.tables.shape → t ≡ with_page l.tables p NotOut → m ≡ with_tables l (released_old (group_of (page_state l.tables p)) t)
    → SettledLog m × (m.tables.shape ≡ l.tables.shape)
free_settles l m t p settled below is-t is-m =
    let old = group_of (page_state l.tables p) in (
      subst SettledLog (sym (is-m ∙ ap (λ (y : Tables). with_tables l (released_old old y)) is-t)) (free_leaves l p settled below),
      ap (λ (k : LogState). k.tables.shape) is-m ∙ (release_same t old).0 ∙ ap (λ (y : Tables). y.shape) is-t,
    )
