use Rattle.std.proofs.Common.{ap₂}
use Rattle.parity_log.specs.LogState.{log_of}
use Rattle.pager.proofs.Pager.new.Goals as goal

pub returns-clause-log : goal.returns-clause-log
returns-clause-log g c = ap₂ log_of c.new.ensures.tables c.zero.ensures
