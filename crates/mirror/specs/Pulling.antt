-- Pulling a mirror: both of its halves, or one of them.
use Rattle.std.specs.Prelude.{◌≡◌, ◌⊎◌}
use Rattle.page.specs.declared.faults.Fault.{Fault}
use Rattle.page.specs.declared.faults.Layer.TheVariants.{Mirror as InMirror}
use Rattle.page.specs.declared.faults.Refusal.TheVariants.{Worn}
use Rattle.page.specs.Refusals.{fault_of}
use Rattle.server.specs.Meaning.{Meaning, Loss, Return}
use Rattle.server.specs.Pulls.{Falls, Backs}
use Rattle.mirror.specs.Rule.{Reply, either_done_of}
use Rattle.mirror.specs.declared.Mirror.{Mirror}
use Rattle.mirror.specs.declared.Half.{Half}
use Rattle.mirror.specs.declared.Half.TheVariants.{First, Second}

abbrev pub Fallen : {X Y : Type 0} {g h : _} → (X → X → Type 0) → (Y → Y → Type 0) → Mirror X Y g h → Mirror X Y g h → Type 0
Fallen fx fy s t = fx s.first t.first × fy s.second t.second

abbrev pub worn : Fault
worn = fault_of InMirror Worn

-- worn only if both halves refuse
abbrev pub BroughtBack : {X Y : Type 0} {g h : _} → (X → Reply → X → Type 0) → (Y → Reply → Y → Type 0) → Mirror X Y g h → Reply → Mirror X Y g h → Type 0
BroughtBack bx by s a t = (b : Reply) × (d : Reply) × bx s.first b t.first × by s.second d t.second × (a ≡ either_done_of worn b d)

-- a half falls or is brought back, by its kind's own rule and as any server
abbrev pub Fell : {X : Type 0} → (X → Meaning) → (X → X → Type 0) → X → X → Type 0
Fell mx fx x t = fx x t × Falls (mx x) (mx t)

abbrev pub CameBack : {X : Type 0} → (X → Meaning) → (X → Reply → X → Type 0) → Reply → X → X → Type 0
CameBack mx bx a x t = bx x a t × Backs (mx x) a (mx t)

-- the named half moves, and the other stays
abbrev pub Moved : {X Y : Type 0} {g h : _} → Half → (X → X → Type 0) → (Y → Y → Type 0) → Mirror X Y g h → Mirror X Y g h → Type 0
Moved First fx fy s t = fx s.first t.first × (t.second ≡ s.second)
Moved Second fx fy s t = (t.first ≡ s.first) × fy s.second t.second

-- what the fall of one half is to the mirror's callers
abbrev pub LossAtMost : Meaning → Meaning → Type 0
LossAtMost m n = (n ≡ m) ⊎ Loss m n

-- what bringing one half back is to them
abbrev pub ReturnAtMost : Meaning → Meaning → Type 0
ReturnAtMost m n = (n ≡ m) ⊎ Return m n
