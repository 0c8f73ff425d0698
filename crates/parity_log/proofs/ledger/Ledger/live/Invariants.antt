use Rattle.std.proofs.Common.{◌≡◌, ◌≤◌}
use Rattle.parity_log.specs.Tables.{live_count}
use Rattle.parity_log.proofs.ledger.Ledger.live.Given as goal

abbrev pub invariant-loop-position : goal.invariant-loop-position
invariant-loop-position l = (l.live ≡ live_count l.self.tables.pages l.position l.group) × (l.live ≤ l.position)
