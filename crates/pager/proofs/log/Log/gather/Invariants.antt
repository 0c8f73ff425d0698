use Rattle.std.proofs.Common.{◌≡◌, ◌^◌, ◌<◌, ◌≤◌}
use Rattle.parity_log.specs.Reading.{asking, gather}
use Rattle.parity_log.proofs.RuleLaws.{Leads}
use Rattle.pager.specs.Moments.{log_state}
use Rattle.pager.proofs.AskingLaws.{rest}
use Rattle.pager.proofs.log.Log.gather.Given as goal

abbrev pub invariant-loop-server : goal.invariant-loop-server
invariant-loop-server g l =
    (l.self.ledger ≡ l.initial.self.ledger) × (l.self.running ≡ l.initial.self.running) × (l.missing < 512) × (l.server ≤ l.shape.servers → l.missing < 2 ^ l.server)
    × Leads g.B.Bank.steps (gather (log_state l.initial.self) l.group l.but) l.initial.self.bank (asking l.shape.servers l.group (rest l.but l.server l.count) l.sum.0 l.missing) l.self.bank
