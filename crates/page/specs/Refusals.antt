-- The nine refusals with their numbers and words, the layers, and the places of a fault.
use Rattle.std.specs.Prelude.{ℕ, Bool, List, Some, None as Nowhere, codes, ◌==◌}
use Rattle.page.specs.declared.faults.Refusal.{Refusal}
use Rattle.page.specs.declared.faults.Refusal.TheVariants.{Range, Length, None, Lost, Gone, Shape, Full, Worn, Unread}
use Rattle.page.specs.declared.faults.Layer.{Layer}
use Rattle.page.specs.declared.faults.Layer.TheVariants.{Server, Mirror, Log, Replay}
use Rattle.page.specs.declared.faults.Fault.{Fault}

pub record Named : Type 0 where
  pub number : ℕ
  pub word : List ℕ

abbrev pub named : Refusal → Named
named Range = record { number = 1; word = codes "range" }
named Length = record { number = 2; word = codes "length" }
named None = record { number = 3; word = codes "none" }
named Lost = record { number = 4; word = codes "lost" }
named Gone = record { number = 5; word = codes "gone" }
named Shape = record { number = 6; word = codes "shape" }
named Full = record { number = 7; word = codes "full" }
named Worn = record { number = 8; word = codes "worn" }
named Unread = record { number = 9; word = codes "unread" }

abbrev pub layer_word : Layer → List ℕ
layer_word Server = codes "server"
layer_word Mirror = codes "mirror"
layer_word Log = codes "log"
layer_word Replay = codes "replay"

-- a fault that knows no place
abbrev pub fault_of : Layer → Refusal → Fault
fault_of l w = record { refusal = w; layer = l; slot = Nowhere; page = Nowhere; group = Nowhere; missing = Nowhere; line = Nowhere }

-- the same fault, with a layer's own place added
abbrev pub on_slot : ℕ → Fault → Fault
on_slot s f = record { refusal = f.refusal; layer = f.layer; slot = Some s; page = f.page; group = f.group; missing = f.missing; line = f.line }

abbrev pub of_page : ℕ → Fault → Fault
of_page p f = record { refusal = f.refusal; layer = f.layer; slot = f.slot; page = Some p; group = f.group; missing = f.missing; line = f.line }

-- a group, with the set of its members that were missing
abbrev pub in_group : ℕ → ℕ → Fault → Fault
in_group g m f = record { refusal = f.refusal; layer = f.layer; slot = f.slot; page = f.page; group = Some g; missing = Some m; line = f.line }

abbrev pub on_line : ℕ → Fault → Fault
on_line n f = record { refusal = f.refusal; layer = f.layer; slot = f.slot; page = f.page; group = f.group; missing = f.missing; line = Some n }

abbrev pub same_refusal : Refusal → Refusal → Bool
same_refusal v w = (named v).number == (named w).number
