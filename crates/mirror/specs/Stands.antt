-- A mirror as it stands in the code: what it means, and its rule.
use Rattle.server.specs.Meaning.{Meaning}
use Rattle.server.specs.Calls.{Call, Answer}
use Rattle.mirror.specs.declared.Mirror.{Mirror}
use Rattle.mirror.specs.Joined.{joined}
use Rattle.mirror.specs.Rule.{Rule, Steps}

abbrev pub means : {X Y : Type 0} {g h : _} → (X → Meaning) → (Y → Meaning) → Mirror X Y g h → Meaning
means mx my s = joined (mx s.first) (my s.second)

abbrev pub Stepped : {X Y : Type 0} {g h : _} → (X → Meaning) → (Y → Meaning) → Rule X → Rule Y → Mirror X Y g h → (c : Call) → Answer c → Mirror X Y g h → Type 0
Stepped mx my rx ry s c a t = Steps rx ry (means mx my s).size s.first s.second c a t.first t.second
