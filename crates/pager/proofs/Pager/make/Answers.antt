use Rattle.std.proofs.Common.{refl, sym, subst, arith}
use Rattle.parity_log.specs.Order.{Limited}
use Rattle.parity_log.proofs.Bounds.{shape_bounds}
use Rattle.pager.proofs.MakingLaws.{decided_within, making_is, made_ordered, made_lawful}
use Rattle.pager.proofs.Pager.make.Goals as goal

pub capacity-requires : goal.capacity-requires
capacity-requires g c =
    let old = c.args.self.now.log in
    decided_within old.ledger.tables (g.B.Bank.count old.bank) (g.B.Bank.means old.bank) c.args.groups c.args.spares c.in-Some.shape c.in-Some.ensures

pub returns : goal.returns
returns g c =
    let bank = g.B.Bank in
    let old = c.args.self.now.log in
    let v = old.ledger.tables in
    let b = old.bank in
    let shape = c.in-Some.shape in
    let is = c.in-Some.ensures in
    let l = c.new-self.result in
    let new = c.new-self.ensures.tables in
    let made = making_is v (bank.count b) (bank.means b) c.args.groups c.args.spares shape is c.capacity.result l.tables c.capacity.ensures new in
    record {
      bank = refl;
      running = refl;
      made = made;
      turn = record { servers = refl; goes = (made, refl, refl) };
      lawful = λ _. made_lawful bank.count bank.means old c.args.self.now.ordered c.args.groups c.args.spares shape is bank.steps bank.laws l new;
    }

-- what is made is in order
pub invariant_of-self : goal.invariant_of-self
invariant_of-self g c =
    let bank = g.B.Bank in
    let old = c.args.self.now.log in
    let shape = c.in-Some.shape in
    let can = decided_within old.ledger.tables (bank.count old.bank) (bank.means old.bank) c.args.groups c.args.spares shape c.in-Some.ensures in
    let few = subst Limited (sym c.new-self.ensures.tables) (record { servers = (shape_bounds shape can).5; filled = omega arith }) in
    ((few, (c.new-self.ensures.linked, tt)), (made_ordered bank.count bank.means old c.args.self.now.ordered c.args.groups c.args.spares shape c.in-Some.ensures c.new-self.result few c.new-self.ensures.linked c.new-self.ensures.tables, tt))
