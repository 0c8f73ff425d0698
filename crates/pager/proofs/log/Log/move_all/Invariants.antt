use Rattle.std.proofs.Common.{◌≡◌, ◌-◌}
use Rattle.std.specs.List.{range_with_len}
use Rattle.parity_log.specs.Order.{Cleaning}
use Rattle.parity_log.specs.Paging.{move_all}
use Rattle.parity_log.proofs.RuleLaws.{Leads}
use Rattle.pager.specs.Moments.{log_state}
use Rattle.pager.proofs.log.Log.move_all.Given as goal

abbrev pub invariant-loop-position : goal.invariant-loop-position
invariant-loop-position g l =
    Cleaning l.self.ledger.tables l.into l.from l.position × (l.self.ledger.tables.shape ≡ l.initial.self.ledger.tables.shape)
    × Leads g.B.Bank.steps (move_all (range_with_len 0 l.servers) l.into l.from (log_state l.initial.self)) l.initial.self.bank (move_all (range_with_len l.position (l.servers - l.position)) l.into l.from (log_state l.self)) l.self.bank
