-- What a pager's log keeps, and the log as a moment of a run.
use Rattle.std.specs.Prelude.{◌≡◌, ℕ, ◌⊎◌, List}
use Rattle.server.specs.Meaning.{Meaning}
use Rattle.parity_log.specs.LogState.{LogState, log_of}
use Rattle.parity_log.specs.Reading.{Finding}
use Rattle.law.specs.Rows.{Row}
use Rattle.law.specs.Runs.{Moment, Turn, Happens}
use Rattle.pager.specs.declared.log.Log.{Log}

abbrev pub log_state : {B : Type 0} → Log B → LogState
log_state p = log_of p.ledger.tables p.running.0

abbrev pub moment_of : {B : Type 0} → (B → ℕ) → (B → ℕ → Meaning) → Log B → Moment
moment_of count means p = record { log = log_state p; servers = count p.bank; row = means p.bank }

-- a call is this turn, with some findings
abbrev pub Turns : Moment → (List (Finding × Row) → Turn) → Moment → Type 0
Turns m turn n = (fs : List (Finding × Row)) × Happens m (turn fs) n

-- this turn, or nothing happened
abbrev pub AtMost : Moment → Turn → Moment → Type 0
AtMost m turn n = (n ≡ m) ⊎ Happens m turn n
