-- A server of a row that is made to fall or brought back.
use Rattle.std.specs.Prelude.{◌≡◌, Ok, Result}
use Rattle.page.specs.declared.faults.Fault.{Fault}
use Rattle.server.specs.Meaning.{Meaning}
use Rattle.server.specs.Pulls.{Falls}

-- a server that is there always falls
abbrev pub Fell : Meaning → Result (Unit {0}) Fault → Meaning → Type 0
Fell m a n = (a ≡ Ok tt) × Falls m n
