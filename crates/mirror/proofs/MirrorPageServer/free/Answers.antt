use Rattle.std.proofs.Common.{arith, refl}
use Rattle.mirror.proofs.Asks.{free_paired, asks}
use Rattle.mirror.proofs.MirrorPageServer.free.Goals as goal

pub invariant_of-self : goal.invariant_of-self
invariant_of-self g c = record { paired = free_paired g.P.PageServer.laws g.Q.PageServer.laws c.args.self.now.paired c.args.slot (omega (arith, c.size.ensures, c.in_ok-admit.ensures.within)) _ _ c.free.ensures c.free-2.ensures }

pub returns : goal.returns
returns g c = asks refl (omega (arith, c.size.ensures, c.in_ok-admit.ensures.within)) (c.free.result, c.free-2.result, c.free.ensures, c.free-2.ensures, refl)
