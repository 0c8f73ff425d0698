-- A call that begins with what is objected to: it is refused at the door, or let in.
use Rattle.std.proofs.Common.{◌≡◌, ℕ, Some, None, Ok, Err, Option, Result, sym, ap, ◌∙◌, subst, arith}
use Rattle.page.specs.declared.faults.Fault.{Fault}
use Rattle.bank.specs.Rows.{RowRule}
use Rattle.parity_log.specs.Rule.{give, Ends}
use Rattle.parity_log.specs.Faults.{refused_by}
use Rattle.parity_log.specs.Reading.{Finding, LogRule}
use Rattle.parity_log.proofs.RuleLaws.{ends_give}

-- nothing is objected to
abbrev pub Passes : Option Fault → Type 0
Passes o = Ok tt ≡ refused_by o

-- what the call says of a refusal is left open
module _ {A B : Type 0} (steps : RowRule B) (b : B) (say : Result (Unit {0}) Fault → A) (call : Option Fault → LogRule A) (refuses : (f : Fault) → call (Some f) ≡ give (say (Err f))) where
  pub refused_at : (o : Option Fault) (r : Result (Unit {0}) Fault) (f k : Fault) → r ≡ Err k → k ≡ f → Err f ≡ refused_by o → Ends steps (call o) b (say r) b
  refused_at None r f k is same q = let z : ◌≡◌ {A = ℕ} 0 1 = cc in absurd (omega arith)
  refused_at (Some h) r f k is same q =
      let e : f ≡ h = cc in
      subst (λ (rule : LogRule A). Ends steps rule b (say r) b) (sym (refuses h))
      (subst (λ (a : Result (Unit {0}) Fault). Ends {N = Finding} steps (give (say (Err h))) b (say a) b) (sym (is ∙ ap Err (same ∙ e))) (ends_give steps (say (Err h)) b))

  pub let_in : (o : Option Fault) (r : A) (e : B) → Passes o → Ends steps (call None) b r e → Ends steps (call o) b r e
  let_in None r e q run = run
  let_in (Some h) r e q run = let z : ◌≡◌ {A = ℕ} 0 1 = cc in absurd (omega arith)
