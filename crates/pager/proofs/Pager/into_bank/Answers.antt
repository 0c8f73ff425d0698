use Rattle.std.proofs.Common.{refl}
use Rattle.pager.proofs.Pager.into_bank.Goals as goal

pub returns : goal.returns
returns g c = refl
