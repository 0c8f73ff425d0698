use Rattle.mirror.specs.Pulling.{worn}
use Rattle.mirror.proofs.Asks.{either_done}
use Rattle.mirror.proofs.Returning.{paired_back, joined_backs}
use Rattle.mirror.proofs.MirrorPullable.back.Goals as goal

pub invariant_of-self : goal.invariant_of-self
invariant_of-self g c =
    let x = c.args.self.now in
    record { paired = paired_back (g.P.PageServer.laws.sound x.first) (g.Q.PageServer.laws.sound x.second) c.back-one.ensures.meets c.back-two.ensures.meets x.paired }

pub returns-clause-backs : goal.returns-clause-backs
returns-clause-backs g c =
    let said = either_done worn c.new-worn.result c.back-one.result c.back-two.result c.or.result c.or-2.result c.or.ensures c.or-2.ensures c.new-worn.ensures in
    (c.back-one.result, c.back-two.result, c.back-one.ensures.backs, c.back-two.ensures.backs, said)

pub returns-clause-meets : goal.returns-clause-meets
returns-clause-meets g c =
    let x = c.args.self.now in
    let said = either_done worn c.new-worn.result c.back-one.result c.back-two.result c.or.result c.or-2.result c.or.ensures c.or-2.ensures c.new-worn.ensures in
    rw said (joined_backs (g.P.PageServer.laws.sound x.first) (g.Q.PageServer.laws.sound x.second) c.back-one.ensures.meets c.back-two.ensures.meets)
