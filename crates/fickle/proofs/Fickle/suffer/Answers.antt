use Rattle.std.proofs.Common.{inr, refl, arith}
use Rattle.fickle.proofs.Fickle.suffer.Goals as goal

pub returns-in-Page-clause-strikes : goal.returns-in-Page-clause-strikes
returns-in-Page-clause-strikes g c =
    inr (omega (arith, c.if-self.false), inr (c.get.new.buffer, c.get.new.self, c.in-Ok.ensures.steps, rw c.in-Page.is (c.free.result, c.free.ensures), refl))

pub returns-in-Fall-clause-strikes : goal.returns-in-Fall-clause-strikes
returns-in-Fall-clause-strikes g c =
    inr (omega (arith, c.if-self.false), inr (c.get.new.buffer, c.get.new.self, c.in-Ok.ensures.steps, rw c.in-Fall.is (c.fall.ensures.falls, c.fall.ensures.meets), refl))
