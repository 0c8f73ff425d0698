use Rattle.std.proofs.Common.{◌≡◌, ℕ, sym, ap, ◌∙◌, subst, arith}
use Rattle.parity_log.specs.declared.records.Shape.{Shape}
use Rattle.parity_log.specs.Order.{Cleaning}
use Rattle.pager.specs.Moments.{log_state}
use Rattle.pager.proofs.CleaningWays.{move_more, move_end}
use Rattle.pager.proofs.log.Log.move_all.Goals as goal

pub loop-position-preserved : goal.loop-position-preserved
loop-position-preserved g c =
    let inv = c.loop-position.invariant in
    let one = c.move_one.ensures in
    (one.cleaning, one.shape ∙ inv.1, move_more g.B.Bank.steps _ _ _ c.args.into c.args.from c.loop-position.position _ (log_state c.loop-position.self) inv.2 _ _ c.loop-position-test.true one.ran)

pub returns : goal.returns
returns g c =
    let inv = c.loop-position.invariant in
    let v = c.loop-position.self.ledger.tables in
    let all : c.loop-position.position ≡ c.args.self.now.ledger.tables.shape.servers = omega arith in
    record {
      cleaning = subst (λ (n : ℕ). Cleaning v c.args.into c.args.from n) (all ∙ ap (λ (s : Shape). s.servers) (sym inv.1)) inv.0;
      shape = inv.1;
      ran = move_end g.B.Bank.steps _ _ _ c.args.into c.args.from c.loop-position.position _ (log_state c.loop-position.self) inv.2 c.loop-position-test.false;
    }
