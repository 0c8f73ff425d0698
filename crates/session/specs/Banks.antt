-- A replay over a bank of any kind.
use Rattle.std.specs.Prelude.{◌≡◌, ℕ, List, Result}
use Rattle.page.specs.declared.faults.Fault.{Fault}
use Rattle.server.specs.Meaning.{Meaning}
use Rattle.bank.specs.Rows.{RowRule}
use Rattle.parity_log.specs.LogState.{unmade_log}
use Rattle.pager.specs.declared.log.Log.{Log}
use Rattle.pager.specs.Moments.{log_state}
use Rattle.replay.specs.Replaying.{IsReplay}
use Rattle.replay.specs.declared.listing.Halt.{Halt}
use Rattle.session.specs.Calls.{CallRuns}

-- The script is replayed on a pager over the bank that is not made yet, each call by the bank's own rules; the bank is left as that pager has it then.
abbrev pub ReplaysOnBank : {B : Type 0} → (B → ℕ) → (B → ℕ → Meaning) → RowRule B
    → (B → ℕ → Result (Unit {0}) Fault → B → Type 0) → (B → ℕ → Result (Unit {0}) Fault → B → Type 0)
    → List ℕ → B → List ℕ → Result ℕ Halt → B → List ℕ → Type 0
ReplaysOnBank {B} count means steps falls backs script bank listing outcome left after =
    (p : Log B) × (q : Log B) × (log_state p ≡ unmade_log) × (p.bank ≡ bank) × (q.bank ≡ left)
    × IsReplay (CallRuns count means steps falls backs) script p listing outcome q after
