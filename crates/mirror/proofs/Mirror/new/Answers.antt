use Rattle.std.proofs.Common.{ap₂}
use Rattle.mirror.specs.Joined.{first_of}
use Rattle.mirror.proofs.Clears.{paired_empty}
use Rattle.mirror.proofs.Mirror.new.Goals as goal

pub invariant_of-result : goal.invariant_of-result
invariant_of-result g c = record { paired = paired_empty c.empty.ensures.empty c.empty-2.ensures.empty }

pub returns-clause-first : goal.returns-clause-first
returns-clause-first g c = c.empty.ensures.swept

pub returns-clause-second : goal.returns-clause-second
returns-clause-second g c = c.empty-2.ensures.swept

pub returns-clause-empty : goal.returns-clause-empty
returns-clause-empty g c = λ k. ap₂ first_of (c.empty.ensures.empty k) (c.empty-2.ensures.empty k)
