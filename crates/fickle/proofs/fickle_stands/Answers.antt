use Rattle.fickle.proofs.Outliving.{passes_on}
use Rattle.fickle.proofs.fickle_stands.Goals as goal

pub returns : goal.returns
returns c = record { passes = passes_on }
