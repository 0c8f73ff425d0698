use Rattle.std.proofs.Common.{[], length, ap}
use Rattle.std.proofs.lemmas.List.{get_or-replicate}
use Rattle.parity_log.proofs.owners.Owners.none.Goals as goal

pub invariant_of-result : goal.invariant_of-result
invariant_of-result c = record { rows = λ g l. ap length (get_or-replicate 32 g _ [] l) }
