use Rattle.mirror.specs.Sweep.{Swept}
use Rattle.mirror.proofs.empty.Given as goal

abbrev pub invariant-loop-slot : goal.invariant-loop-slot
invariant-loop-slot g l = Swept g.S.PageServer.steps l.initial.server l.slot l.server
