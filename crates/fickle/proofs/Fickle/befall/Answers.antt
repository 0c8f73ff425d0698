use Rattle.std.proofs.Common.{Some, ap, ◌∙◌, arith}
use Rattle.fickle.proofs.Befalling.{fine_befalls}
use Rattle.fickle.proofs.Fickle.befall.Goals as goal

pub returns-in-Some : goal.returns-in-Some
returns-in-Some g c =
    let f = c.in-Some.ensures in
    let h = c.suffer.ensures in
    fine_befalls c.args.self.now c.args.length c.args.slot c.suffer.new.self (Some c.in-Some.strike) c.size-size.result c.if-length-ne-PAGE_SIZE.false (omega arith) c.size-size.ensures f.strike h.strikes (ap (λ d. d.seed) h.undrawn.0 ∙ f.draws) h.undrawn.1
