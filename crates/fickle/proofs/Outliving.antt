-- Why a loss or a return of the server below is one of the fickle server.
use Rattle.std.proofs.Common.{ap, inl, inr, arith}
use Rattle.fickle.specs.Rule.{with_losses}
use Rattle.fickle.specs.Thinning.{losses_sound}
use Rattle.fickle.specs.Outliving.{PassesOn}

pub passes_on : PassesOn
passes_on losses m n (inl e) = inl (ap (with_losses losses) e)
passes_on losses m n (inr (inl l)) = inr (inl (record { size = l.size; era = omega (arith, l.era); slots = l.slots; sound = losses_sound losses l.sound }))
passes_on losses m n (inr (inr r)) = inr (inr (record { size = r.size; was = r.was; is = r.is; era = omega (arith, r.era); slots = r.slots }))
