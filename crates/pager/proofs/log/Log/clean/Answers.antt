use Rattle.std.proofs.Common.{sym, ap, ◌∙◌, subst}
use Rattle.parity_log.specs.LogState.{LogState}
use Rattle.parity_log.proofs.CleaningLaws.{clean_end}
use Rattle.pager.specs.Moments.{log_state}
use Rattle.pager.specs.Places.{Ready}
use Rattle.pager.proofs.CleaningWays.{cleans}
use Rattle.pager.proofs.log.Log.clean.Goals as goal

pub returns : goal.returns
returns g c =
    let all = c.move_all.ensures in
    let out = c.release.ensures in
    let end = clean_end c.move_all.new.self.ledger.tables c.args.into c.args.from all.cleaning in
    record {
      ready = subst (λ (k : LogState). Ready k.tables c.args.into) (sym out.log) (record { settled = end.0; open_now = end.1 });
      shape = ap (λ (k : LogState). k.tables.shape) out.log ∙ all.shape;
      ran = cleans g.B.Bank.steps (log_state c.args.self.now) _ _ c.args.into c.args.from c.args.self.now.bank _ _ all.ran out.ran;
    }
