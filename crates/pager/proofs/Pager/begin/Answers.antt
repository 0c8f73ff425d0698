use Rattle.std.proofs.Common.{refl}
use Rattle.pager.proofs.StepWays.{begin_let_in}
use Rattle.pager.proofs.Pager.begin.Goals as goal

pub returns-clause-begun : goal.returns-clause-begun
returns-clause-begun g c = begin_let_in c.args.self.now.log.ledger.tables c.in_ok-shape.shape c.args.server c.in_ok-shape.ensures c.if-server-shape.false

pub returns-clause-turn : goal.returns-clause-turn
returns-clause-turn g c =
    let run = begin_let_in c.args.self.now.log.ledger.tables c.in_ok-shape.shape c.args.server c.in_ok-shape.ensures c.if-server-shape.false in
    record { servers = refl; goes = (run, refl, refl) }
