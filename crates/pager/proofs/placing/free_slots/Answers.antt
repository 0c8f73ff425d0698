use Rattle.pager.proofs.PlacingLaws.{free_more, free_end}
use Rattle.pager.proofs.placing.free_slots.Goals as goal

pub loop-server-preserved : goal.loop-server-preserved
loop-server-preserved g c = λ l. free_more g.B.Bank.steps _ _ _ _ _ _ l (c.loop-server.invariant l) _ _ c.loop-server-test.true c.free.ensures

pub returns : goal.returns
returns g c = λ l. free_end g.B.Bank.steps _ _ _ _ _ _ l (c.loop-server.invariant l) c.loop-server-test.false
