use Rattle.std.proofs.Common.{ℕ, is_some, refl, ap, ◌∙◌, arith}
use mir.Val.{bool_byte}
use Rattle.parity_log.specs.Tables.{page_at, live_count}
use Rattle.parity_log.proofs.CountLaws.{count_more, as_cond, at_most_one}
use Rattle.parity_log.proofs.ledger.Ledger.live.Goals as goal

pub loop-position-init : goal.loop-position-init
unfolding live_count
loop-position-init c = (refl, omega arith)

pub loop-position-preserved : goal.loop-position-preserved
unfolding live_count
loop-position-preserved c =
    let p = λ (i : ℕ). is_some (page_at c.args.self.now.tables.pages c.args.group i) in
    let i = c.loop-position.position in
    let one = c.from-live.ensures ∙ ap bool_byte (c.is_some.ensures ∙ ap is_some c.page_at.ensures) ∙ as_cond (p i) in (
      omega (arith, c.loop-position.invariant.0, count_more p i, one),
      omega (arith, c.loop-position.invariant.1, one, at_most_one (p i)),
    )
