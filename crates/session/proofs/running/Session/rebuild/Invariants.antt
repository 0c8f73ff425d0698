use Rattle.std.proofs.Common.{◌≡◌}
use Rattle.pager.specs.Moments.{log_state}
use Rattle.session.proofs.RebuildLaws.{Come}
use Rattle.session.proofs.running.Session.rebuild.Given as goal

abbrev pub invariant-loop : goal.invariant-loop
invariant-loop g l =
    let before = l.initial.self.pager.log in
    record {
      log : log_state l.self.pager.log ≡ log_state before;
      come : Come g.B.Bank.steps (log_state before) l.initial.job.progress before.bank l.counter l.job.progress l.self.pager.log.bank;
    }
