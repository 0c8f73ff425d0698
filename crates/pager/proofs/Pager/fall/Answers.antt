use Rattle.std.proofs.Common.{rules}
use Rattle.pager.proofs.Pager.fall.Goals as goal

-- a made pager hands the call on
pub returns-clause-falls : goal.returns-clause-falls
returns-clause-falls g c = record { made = λ _. c.fall_in_bank.ensures.falls; not_made = search rules }

pub returns-clause-meets : goal.returns-clause-meets
returns-clause-meets g c = record { made = λ _. c.fall_in_bank.ensures.meets; not_made = search rules }

pub returns-clause-turn : goal.returns-clause-turn
returns-clause-turn g c = c.fall_in_bank.ensures.turn
