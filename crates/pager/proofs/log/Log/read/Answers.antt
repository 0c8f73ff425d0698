use Rattle.std.proofs.Common.{ℕ, List, refl, subst}
use Rattle.pager.specs.Moments.{log_state}
use Rattle.pager.specs.Reads.{Unread}
use Rattle.pager.proofs.ReadLaws.{read_own, read_after}
use Rattle.pager.proofs.log.Log.read.Goals as goal

pub returns-in-Ok : goal.returns-in-Ok
returns-in-Ok g c = record {
  tables = refl;
  running = refl;
  ran = read_own g.B.Bank.steps (log_state c.args.self.now) c.args.group c.args.position _ c.requires.whole _ _ _ c.in-Ok.ensures.steps;
  left = tt;
}

pub returns-in-Err : goal.returns-in-Err
returns-in-Err g c = record {
  tables = c.restore.ensures.tables;
  running = c.restore.ensures.running;
  ran = read_after g.B.Bank.steps (log_state c.args.self.now) c.args.group c.args.position _ c.requires.whole _ _ _ c.in-Err.field-0 _ c.in-Err.ensures.steps (c.restore.ensures.ran c.in-Err.field-0);
  left = subst (λ (x : List ℕ). Unread c.restore.result x c.restore.new.buffer) c.in-Err.ensures.left c.restore.ensures.left;
}
