use Rattle.std.proofs.Common.{rules}
use Rattle.pager.proofs.Pager.back.Goals as goal

-- a made pager hands the call on
pub returns-clause-backs : goal.returns-clause-backs
returns-clause-backs g c = record { made = λ _. c.back_in_bank.ensures.backs; not_made = search rules }

pub returns-clause-meets : goal.returns-clause-meets
returns-clause-meets g c = record { made = λ _. c.back_in_bank.ensures.meets; not_made = search rules }

pub returns-clause-turn : goal.returns-clause-turn
returns-clause-turn g c = c.back_in_bank.ensures.turn
