use Rattle.std.proofs.Common.{refl}
use Rattle.law_uses.proofs.restoring.advance.Goals as goal

pub returns-in-None : goal.returns-in-None
returns-in-None g c = record { between = _; said = c.step.result.1; step = c.step.ensures.turn; pageout = rw c.in-None.is (refl, refl) }

pub returns-in-Some : goal.returns-in-Some
returns-in-Some g c = record { between = _; said = c.step.result.1; step = c.step.ensures.turn; pageout = rw c.in-Some.is c.pageout-answer.ensures.turn }
