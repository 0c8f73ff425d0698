-- The good order of a pager: what it is between calls.
use Rattle.std.specs.Prelude.{◌≡◌, ℕ, ◌+◌, ◌≤◌, true}
use Rattle.server.specs.Meaning.{Meaning}
use Rattle.parity_log.specs.declared.records.Shape.{Shape}
use Rattle.parity_log.specs.Tables.{within}
use Rattle.parity_log.specs.Order.{Order}
use Rattle.pager.specs.declared.log.Log.{Log}
use Rattle.pager.specs.Moments.{log_state}

-- the bank has a server for each position and one for the parity, each with a slot for every group
pub record Fitted {B : Type 0} (count : B → ℕ) (means : B → ℕ → Meaning) (s : Shape) (b : B) : Type 0 where
  pub servers : count b ≡ s.servers + 1
  pub sizes : (k : ℕ) → k ≤ s.servers → s.groups ≤ (means b k).size

pub record Ordered {B : Type 0} (count : B → ℕ) (means : B → ℕ → Meaning) (p : Log B) : Type 0 where
  pub log : Order (log_state p)
  pub fitted : within p.ledger.tables.shape ≡ true → Fitted count means p.ledger.tables.shape p.bank
