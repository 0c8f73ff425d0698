-- What a pager does where a server of its bank is to fall or come back.
use Rattle.std.specs.Prelude.{◌≡◌, ℕ, true, false, Err, Result}
use Rattle.page.specs.declared.faults.Fault.{Fault}
use Rattle.page.specs.declared.faults.Layer.TheVariants.{Log}
use Rattle.page.specs.declared.faults.Refusal.TheVariants.{Shape as BadShape}
use Rattle.page.specs.Refusals.{fault_of}
use Rattle.server.specs.Meaning.{Meaning}
use Rattle.bank.specs.Rows.{Reaches}
use Rattle.parity_log.specs.declared.records.Shape.{Shape}
use Rattle.parity_log.specs.Tables.{within}

-- A made pager hands the call to its bank, whose rule says what is answered and left. Any other refuses it.
pub record HandsOn {B : Type 0} (rule : B → ℕ → Result (Unit {0}) Fault → B → Type 0) (shape : Shape) (b : B) (server : ℕ) (r : Result (Unit {0}) Fault) (e : B) : Type 0 where
  pub made : within shape ≡ true → rule b server r e
  pub not_made : within shape ≡ false → (r ≡ Err (fault_of Log BadShape)) × (e ≡ b)

-- what the bank's servers mean before and after: the one that is named goes by the rule, and every other means what it meant
abbrev pub Meets : {B : Type 0} → (B → ℕ) → (B → ℕ → Meaning) → (Meaning → Result (Unit {0}) Fault → Meaning → Type 0) → B → ℕ → Result (Unit {0}) Fault → B → Type 0
Meets count means rule b server r e = Reaches rule (count b) (means b) server r (count e) (means e)
