-- The worked lines of a listing hold.
use Rattle.std.proofs.Common.{refl}
use Rattle.std.specs.Fmt.{digits}
use Rattle.replay.specs.Worked.{WorkedListing}

pub worked_listing : WorkedListing
unfolding digits
worked_listing = record { made = refl; out = refl; read = refl; lost = refl; lost_with_parity = refl; rebuilt = refl; unreadable = refl }
