use Rattle.session.proofs.ListingFacts.{listing_laws}
use Rattle.session.proofs.ReadFacts.{reads_back}
use Rattle.session.proofs.ShapeFacts.{shape_laws}
use Rattle.session.proofs.WorkedReplays.{worked_missing, worked_order, worked_replays}
use Rattle.session.proofs.session_stands.Goals as goal

pub returns : goal.returns
returns c = record { shape = shape_laws; listings = listing_laws; reads = reads_back; worked = worked_replays; missing = worked_missing; order = worked_order }
