-- What losses and returns of its halves, between calls, leave of a mirror.
use Rattle.server.specs.Meaning.{Meaning, Sound, MayBecome}
use Rattle.mirror.specs.Joined.{joined, Paired}

-- the halves are still a mirror's, and to its callers it had at most a loss or a return
pub record Outlives (m n m' n' : Meaning) : Type 0 where
  pub first : Sound m'
  pub second : Sound n'
  pub paired : Paired m' n'
  pub mirror : MayBecome (joined m n) (joined m' n')

-- whatever comes over either half, or over both
abbrev pub OrderOutlives : Type 0
OrderOutlives =
    (m n m' n' : Meaning) → Sound m → Sound n → Paired m n → MayBecome m m' → MayBecome n n' →
    Outlives m n m' n'
