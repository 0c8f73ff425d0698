-- What a loss or a return of the server below, between calls, is to a fickle server's callers.
use Rattle.std.specs.Prelude.{ℕ}
use Rattle.server.specs.Meaning.{Meaning, MayBecome}
use Rattle.fickle.specs.Rule.{with_losses}

-- it is one of the fickle server, whatever that has lost
abbrev pub PassesOn : Type 0
PassesOn =
    (losses : ℕ) (m n : Meaning) → MayBecome m n →
    MayBecome (with_losses losses m) (with_losses losses n)
