use Rattle.std.proofs.Common.{ℕ, List, replicate, Option, sym, refl, subst}
use Rattle.parity_log.specs.declared.records.PageState.TheVariants.{NotOut}
use Rattle.parity_log.specs.Owners.{Tied}
use Rattle.parity_log.proofs.OwnersLaws.{tied_none}
use Rattle.parity_log.proofs.ledger.Ledger.new.Goals as goal

pub returns : goal.returns
returns c = record {
  tables = refl;
  linked = subst (λ (os : List (List (Option ℕ))). Tied (replicate 240 NotOut) os) (sym c.none.ensures) (tied_none 240);
}
