use Rattle.std.proofs.Common.{refl}
use Rattle.std.specs.Fmt.{digits}
use Rattle.page.proofs.faults.faults_stand.Goals as goal

pub returns : goal.returns
unfolding digits
returns c = record { texts = record { gone_at_slot_3 = refl; gone_of_page_5 = refl; lost_on_line_8 = refl } }
