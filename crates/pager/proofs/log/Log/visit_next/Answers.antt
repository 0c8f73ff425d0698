use Rattle.pager.specs.Moments.{log_state}
use Rattle.pager.proofs.VisitLaws.{goes_on}
use Rattle.pager.proofs.log.Log.visit_next.Goals as goal

pub returns : goal.returns
returns g c = record {
  tables = c.visit-found.ensures.tables;
  running = c.visit-found.ensures.running;
  ran = goes_on g.B.Bank.steps (log_state c.args.self.now) c.args.job.progress c.args.self.now.bank c.visit-found.new.self.bank c.visit-found.result _ c.if-job.false c.visit-found.ensures.ran c.counted.ensures;
}
