use Rattle.pager.specs.Moments.{log_state}
use Rattle.pager.proofs.VisitLaws.{nothing_put, puts}
use Rattle.pager.proofs.log.Log.mend.Goals as goal

pub returns-in-Ok-put : goal.returns-in-Ok-put
returns-in-Ok-put g c =
    let out = c.in-Ok.ensures in
    record {
      tables = out.tables;
      running = out.running;
      ran = λ f. puts g.B.Bank.steps (log_state c.args.self.now) c.args.server c.args.group c.args.self.now.bank c.gather.new.self.bank f out.ran.0 out.ran.1 c.in-Ok.sum _ c.put.new.self out.ran.2 c.in-Ok-put.ensures;
    }

pub returns-in-Err : goal.returns-in-Err
returns-in-Err g c =
    let out = c.in-Ok.ensures in
    record {
      tables = out.tables;
      running = out.running;
      ran = λ f. puts g.B.Bank.steps (log_state c.args.self.now) c.args.server c.args.group c.args.self.now.bank c.gather.new.self.bank f out.ran.0 out.ran.1 c.in-Ok.sum _ c.put.new.self out.ran.2 c.in-Err.ensures;
    }

pub returns-in_default : goal.returns-in_default
returns-in_default g c =
    let out = c.in_default.ensures in
    record {
      tables = out.tables;
      running = out.running;
      ran = λ f. nothing_put g.B.Bank.steps (log_state c.args.self.now) c.args.server c.args.group c.args.self.now.bank c.gather.new.self.bank f out.ran.0 out.ran.1 _ out.ran.2;
    }
