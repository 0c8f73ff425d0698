use Rattle.std.proofs.Common.{ℕ, ◌+◌, List, Err, sym, subst, refl, arith}
use mir.Facts.{Fits-of_lt}
use Rattle.parity_log.specs.Rule.{Ends}
use Rattle.parity_log.specs.Reading.{found, missed, or_restored}
use Rattle.pager.specs.Moments.{log_state}
use Rattle.pager.proofs.AskingLaws.{weight_small}
use Rattle.pager.proofs.ReadLaws.{own_weight, restored_found, restored_missed}
use Rattle.pager.proofs.log.Log.restore.Goals as goal

pub returns-in-Ok : goal.returns-in-Ok
returns-in-Ok g c =
    let out = c.in-Ok.ensures in
    record {
      tables = out.tables;
      running = out.running;
      ran = λ f. subst (λ (x : List ℕ). Ends g.B.Bank.steps (or_restored (log_state c.args.self.now) c.args.group c.args.position (Err f)) c.args.self.now.bank (found x) c.gather.new.self.bank) (sym c.copy_from_slice.ensures.after)
          (restored_found g.B.Bank.steps (log_state c.args.self.now) c.args.group c.args.position _ _ out.ran.0 out.ran.1 f c.in-Ok.sum out.ran.2);
      left = tt;
    }

pub overflow_add-result : goal.overflow_add-result
overflow_add-result g c = Fits-of_lt (omega (arith, c.in-Err.ensures.few, weight_small c.args.self.now.ledger.tables.shape.servers c.args.position (omega (arith, c.requires.position)), own_weight _ c.args.self.now.ledger c.args.position _ c.in-Err.ensures.tables c.weight.ensures))

pub returns-in-Err : goal.returns-in-Err
returns-in-Err g c =
    let out = c.in-Err.ensures in
    let others = c.in-Err.others in
    record {
      tables = out.tables;
      running = out.running;
      ran = λ f. subst (λ (w : ℕ). Ends g.B.Bank.steps (or_restored (log_state c.args.self.now) c.args.group c.args.position (Err f)) c.args.self.now.bank (missed (others + w)) c.gather.new.self.bank) (sym (own_weight _ c.args.self.now.ledger c.args.position _ c.in-Err.ensures.tables c.weight.ensures))
          (restored_missed g.B.Bank.steps (log_state c.args.self.now) c.args.group c.args.position _ _ out.ran.0 out.ran.1 f others out.ran.2);
      left = refl;
    }
