use Rattle.std.proofs.Common.{◌≡◌, Ok, Err, ap, arith, refl, rules}
use Rattle.mirror.specs.Rule.{refusal, none_or_gone_of}
use Rattle.mirror.proofs.Asks.{get_paired, asks, asks_second}
use Rattle.mirror.proofs.MirrorPageServer.get.Goals as goal

pub invariant_of-self-2 : goal.invariant_of-self-2
invariant_of-self-2 g c =
    let door = c.in_ok-admit.ensures in
    record { paired = get_paired g.P.PageServer.laws g.Q.PageServer.laws c.args.self.now.paired c.args.slot (omega (arith, c.size.ensures, door.within)) _ _ _ _ door.whole c.in-Err.ensures.steps c.in-Err.ensures.left c.get-2.ensures.steps }

pub returns-in_default-clause-steps : goal.returns-in_default-clause-steps
returns-in_default-clause-steps g c =
    let door = c.in_ok-admit.ensures in
    asks door.whole (omega (arith, c.size.ensures, door.within)) (Ok c.get.new.buffer, c.in_default.ensures.steps, (refl, refl))

pub returns-in_default-get-clause-steps : goal.returns-in_default-get-clause-steps
returns-in_default-get-clause-steps g c =
    let door = c.in_ok-admit.ensures in
    asks_second c.in-Err.one (Ok c.get-2.new.buffer) door.whole (omega (arith, c.size.ensures, door.within)) c.in-Err.ensures.steps c.in-Err.ensures.left c.in_default-get.ensures.steps refl

pub returns-clause-steps : goal.returns-clause-steps
returns-clause-steps g c =
    let door = c.in_ok-admit.ensures in
    let said : c.at_slot.result ≡ refusal (none_or_gone_of c.in-Err.one c.in-Err-get.two) c.args.slot = search rules in
    asks_second c.in-Err.one (Err c.in-Err-get.two) door.whole (omega (arith, c.size.ensures, door.within)) c.in-Err.ensures.steps c.in-Err.ensures.left c.in-Err-get.ensures.steps (ap Err said)
