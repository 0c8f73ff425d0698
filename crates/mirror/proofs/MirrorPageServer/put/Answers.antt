use Rattle.std.proofs.Common.{◌≡◌, arith, rules}
use Rattle.page.specs.declared.faults.Refusal.TheVariants.{Gone}
use Rattle.mirror.specs.Rule.{refusal}
use Rattle.mirror.proofs.Asks.{put_paired, asks, either_done}
use Rattle.mirror.proofs.MirrorPageServer.put.Goals as goal

pub invariant_of-self : goal.invariant_of-self
invariant_of-self g c =
    let door = c.in_ok-admit.ensures in
    record { paired = put_paired g.P.PageServer.laws g.Q.PageServer.laws c.args.self.now.paired c.args.slot (omega (arith, c.size.ensures, door.within)) _ _ _ door.whole c.put-one.ensures c.put-two.ensures }

pub returns : goal.returns
returns g c =
    let door = c.in_ok-admit.ensures in
    let gone : c.at_slot-gone.result ≡ refusal Gone c.args.slot = search rules in
    let said = either_done (refusal Gone c.args.slot) c.at_slot-gone.result c.put-one.result c.put-two.result c.or.result c.or-2.result c.or.ensures c.or-2.ensures gone in
    asks door.whole (omega (arith, c.size.ensures, door.within)) (c.put-one.result, c.put-two.result, c.put-one.ensures, c.put-two.ensures, said)
