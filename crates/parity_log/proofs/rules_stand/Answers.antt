use Rattle.parity_log.proofs.Worked.{worked_facts}
use Rattle.parity_log.proofs.Pigeonhole.{pigeonhole}
use Rattle.parity_log.proofs.rules_stand.Goals as goal

pub returns : goal.returns
returns c = record { worked = worked_facts; pigeonhole = pigeonhole }
