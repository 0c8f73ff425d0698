use Rattle.mirror.proofs.Returning.{first_return, second_return}
use Rattle.mirror.proofs.Mirror.back_half.Goals as goal

pub returns-in-First-clause-meets : goal.returns-in-First-clause-meets
returns-in-First-clause-meets g c =
    let x = c.args.self.now in
    first_return (g.P.PageServer.laws.sound x.first) (g.Q.PageServer.laws.sound x.second) c.back.ensures.meets

pub returns-in-Second-clause-meets : goal.returns-in-Second-clause-meets
returns-in-Second-clause-meets g c =
    let x = c.args.self.now in
    second_return (g.P.PageServer.laws.sound x.first) (g.Q.PageServer.laws.sound x.second) c.back-in-Second.ensures.meets
