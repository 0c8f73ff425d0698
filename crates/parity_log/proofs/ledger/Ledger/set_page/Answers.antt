use Rattle.std.proofs.Common.{refl, arith}
use Rattle.parity_log.proofs.OwnersLaws.{tied_set}
use Rattle.parity_log.proofs.ledger.Ledger.set_page.Goals as goal

pub returns : goal.returns
returns c =
    let l = c.args.self.now in
    let h = c.requires.changes in
    record {
      tables = refl;
      linked = tied_set l.tables.pages c.args.page c.args.state l.owners.places _ _ (omega arith) h.once h.unnamed c.requires.linked c.rename.ensures c.rename-2.ensures;
    }
