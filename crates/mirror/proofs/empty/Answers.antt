use Rattle.std.proofs.Common.{arith}
use Rattle.mirror.proofs.Clears.{swept_size, swept_empty}
use Rattle.mirror.proofs.empty.Goals as goal

pub returns-clause-empty : goal.returns-clause-empty
returns-clause-empty g c = swept_empty g.S.PageServer.laws c.args.server.now c.loop-slot.slot (omega (arith, c.size-slot-end.ensures)) _ c.loop-slot.invariant

pub returns-clause-size : goal.returns-clause-size
returns-clause-size g c = swept_size g.S.PageServer.laws c.args.server.now c.loop-slot.slot (omega (arith, c.size-slot-end.ensures)) _ c.loop-slot.invariant
