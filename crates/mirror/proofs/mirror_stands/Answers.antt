use Rattle.mirror.proofs.Outliving.{order_outlives}
use Rattle.mirror.proofs.mirror_stands.Goals as goal

pub returns : goal.returns
returns c = record { outlives = order_outlives }
