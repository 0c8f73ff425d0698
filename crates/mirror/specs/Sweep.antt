-- Freeing every slot of a server, from the first on.
use Rattle.std.specs.Prelude.{◌≡◌, ℕ, zero, suc}
use Rattle.server.specs.Calls.{to_free, Answer}
use Rattle.mirror.specs.Rule.{Rule}

-- what freeing the slots below a number makes of a server, each by the kind's own rule
abbrev pub Swept : {S : Type 0} → Rule S → S → ℕ → S → Type 0
Swept r s zero t = t ≡ s
Swept {S = S} r s (suc n) t = (u : S) × (a : Answer (to_free n)) × Swept r s n u × r u (to_free n) a t
