-- The ways through a begin and a step of a rebuild: refused at the door, or let in.
use Rattle.std.proofs.Common.{◌≡◌, ℕ, ◌≤◌, None, Ok, Err, refl, rules}
use Rattle.page.specs.declared.faults.Fault.{Fault}
use Rattle.bank.specs.Rows.{RowRule}
use Rattle.parity_log.specs.declared.records.Progress.{Progress}
use Rattle.parity_log.specs.declared.records.Shape.{Shape}
use Rattle.parity_log.specs.LogState.{LogState}
use Rattle.parity_log.specs.declared.records.Tables.{Tables}
use Rattle.parity_log.specs.Rule.{Ends}
use Rattle.parity_log.specs.Faults.{made_shape, refused_by}
use Rattle.parity_log.specs.Rebuilding.{begun, begin, Stepped, stepped, misfit, step_unless, step}
use Rattle.pager.specs.Admitted.{AdmittedJob}
use Rattle.pager.proofs.Admitting.{refused_at, let_in}

pub begin_let_in : (v : Tables) (s : Shape) (k : ℕ) → Ok s ≡ made_shape v → k ≤ s.servers → Ok (begun s k) ≡ begin v k
begin_let_in v s k made low = search rules

module _ {B : Type 0} (steps : RowRule B) (l : LogState) (j : Progress) (b e : B) where
  pub step_refused : (f : Fault) → Err f ≡ refused_by (misfit l.tables j) → Ends steps (step l j) b (stepped (Err f) j) b
  unfolding step
  step_refused f q = refused_at steps b (λ a. stepped a j) (λ o. step_unless o l j) (λ _. refl) (misfit l.tables j) (Err f) f f refl refl q

  pub step_let_in : (r : Stepped) → AdmittedJob l.tables j → Ends steps (step_unless None l j) b r e → Ends steps (step l j) b r e
  unfolding step
  step_let_in r = let_in steps b (λ a. stepped a j) (λ o. step_unless o l j) (λ _. refl) (misfit l.tables j) r e
