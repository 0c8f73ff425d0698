use Rattle.std.proofs.Common.{sym, ◌∙◌}
use Rattle.pager.proofs.MakingLaws.{not_twice}
use Rattle.pager.proofs.log.Log.decide.Goals as goal

pub returns-then-is_within : goal.returns-then-is_within
returns-then-is_within g c =
    let now = c.args.self.now in
    not_twice now.ledger.tables (g.B.Bank.count now.bank) (g.B.Bank.means now.bank) c.args.groups c.args.spares (sym c.is_within.ensures ∙ c.if-is_within.true)
