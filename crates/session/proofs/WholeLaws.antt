-- A whole replay over a modelled bank leaves what it does at its servers' values.
use Rattle.std.proofs.Common.{◌≡◌, ℕ, List, Result, refl, sym, ap, subst, ◌∙◌}
use Rattle.page.specs.declared.faults.Fault.{Fault}
use Rattle.server.specs.Meaning.{Meaning}
use Rattle.bank.specs.Rows.{RowRule}
use Rattle.pager.specs.declared.log.Log.{Log}
use Rattle.pager.specs.Moments.{log_state}
use Rattle.parity_log.specs.LogState.{unmade_log}
use Rattle.replay.proofs.ModelLaws.{replay_leaves}
use Rattle.replay.specs.Replaying.{replayed}
use Rattle.replay.specs.declared.listing.Detail.{Detail}
use Rattle.replay.specs.declared.listing.Halt.{Halt}
use Rattle.replay.specs.declared.script.Call.{Call}
use Rattle.session.specs.Banks.{ReplaysOnBank}
use Rattle.session.specs.Calls.{CallRuns, Model, model, run_model}
use Rattle.session.specs.Memories.{come_to, listed, replay_on}
use Rattle.session.specs.Model.{Row, Modelled}
use Rattle.session.proofs.CallLaws.{call_goes, same_model}

module _ {B K : Type 0} (count : B → ℕ) (means : B → ℕ → Meaning) (steps : RowRule B) (falls backs : B → ℕ → Result (Unit {0}) Fault → B → Type 0) (stores : B → Row) (kept : B → K) (modelled : Modelled count means steps falls backs stores kept) where
  abbrev pub RunsOn : Log B → Call → Result Detail Fault → Log B → Type 0
  RunsOn = CallRuns count means steps falls backs

  abbrev pub values_of : Log B → Model
  values_of p = model (log_state p) (stores p.bank)

  -- a pager by its values, over a row that keeps this
  abbrev pub Stands : K → Log B → Model → Type 0
  Stands k p v = (values_of p ≡ v) × (kept p.bank ≡ k)

  step : (k : K) (p : Log B) (v : Model) (call : Call) (a : Result Detail Fault) (q : Log B) → Stands k p v → RunsOn p call a q → (a ≡ (run_model v call).0) × Stands k q (run_model v call).1
  step k p v call a q (is, keeps) ran =
      let goes = call_goes count means steps falls backs stores kept modelled p call a q ran in
      let P : Model → Type 0 = λ w. (a ≡ (run_model w call).0) × (values_of q ≡ (run_model w call).1) in
      let at = subst P is (goes.0, goes.1) in
      (at.0, (at.1, goes.2 ∙ keeps))

  -- on a pager that is not made yet
  pub replay_lists : (script : List ℕ) (bank : B) (listing : List ℕ) (outcome : Result ℕ Halt) (left : B) (after : List ℕ) → ReplaysOnBank count means steps falls backs script bank listing outcome left after
      → (listed outcome (stores left) after ≡ replay_on script (stores bank) listing) × (kept left ≡ kept bank)
  replay_lists script bank listing outcome left after (p, q, begins, over, leaves, whole) =
      let gone = replay_leaves RunsOn run_model (Stands (kept p.bank)) (step (kept p.bank)) script p (values_of p) listing outcome q after (refl, refl) whole in
      let begun : values_of p ≡ model unmade_log (stores bank) = same_model _ _ _ _ begins (ap stores over) in
      let lists : listed outcome (stores left) after ≡ come_to (replayed run_model script (values_of p) listing) = rw (gone.0, gone.2, ← leaves, ap (λ m. m.row) gone.1.0) refl in
      (lists ∙ ap (λ m. come_to (replayed run_model script m listing)) begun, ap kept (sym leaves) ∙ gone.1.1 ∙ ap kept over)
