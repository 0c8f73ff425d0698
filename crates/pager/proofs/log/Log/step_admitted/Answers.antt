use Rattle.pager.specs.Moments.{log_state}
use Rattle.pager.proofs.Fitting.{kept_log, ends_kept}
use Rattle.pager.proofs.Seen.{step_turn}
use Rattle.pager.proofs.StepWays.{step_let_in}
use Rattle.pager.proofs.log.Log.step_admitted.Goals as goal

pub returns : goal.returns
returns g c =
    let bank = g.B.Bank in
    let old = c.args.self.now in
    let now = c.visit_next.new.self in
    let out = c.visit_next.ensures in
    let same = kept_log old now out.tables out.running in
    let run = step_let_in bank.steps (log_state old) c.args.job.progress old.bank now.bank _ c.requires.admitted out.ran in
    record {
      order = ends_kept bank.count bank.means bank.steps bank.laws old now _ _ c.requires.order same run;
      tables = out.tables;
      running = out.running;
      ran = run;
      turn = step_turn bank.count bank.means bank.steps bank.laws old now same c.args.job.progress _ _ run;
    }
