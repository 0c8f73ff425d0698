-- How a fault is written for a person.
use Rattle.std.specs.Prelude.{◌≡◌, ℕ, List, [], ◌++◌, Some, None as Nowhere, Option, codes, decimal}
use Rattle.page.specs.declared.faults.Fault.{Fault}
use Rattle.page.specs.declared.faults.Layer.TheVariants.{Server, Mirror, Log}
use Rattle.page.specs.declared.faults.Refusal.TheVariants.{Lost, Gone}
use Rattle.page.specs.Refusals.{fault_of, in_group, layer_word, named, of_page, on_line, on_slot}

-- a place with its number where it is known, and else nothing
abbrev pub place_text : List ℕ → Option ℕ → List ℕ
place_text name Nowhere = []
place_text name (Some n) = codes ", " ++ name ++ codes " " ++ decimal n

-- each place that is known, in this order
abbrev pub places_text : Fault → List ℕ
places_text f =
    place_text (codes "slot") f.slot ++ place_text (codes "page") f.page ++
    place_text (codes "group") f.group ++ place_text (codes "missing") f.missing ++
    place_text (codes "line") f.line

-- who refused, why, and where
abbrev pub fault_text : Fault → List ℕ
fault_text f = layer_word f.layer ++ codes ": " ++ (named f.refusal).word ++ places_text f

-- three texts that were written by hand
pub record WorkedTexts : Type 0 where
  pub gone_at_slot_3 : fault_text (on_slot 3 (fault_of Server Gone)) ≡ codes "server: gone, slot 3"
  pub gone_of_page_5 :
      fault_text (of_page 5 (on_slot 3 (fault_of Mirror Gone))) ≡ codes "mirror: gone, slot 3, page 5"
  pub lost_on_line_8 :
      fault_text (on_line 8 (in_group 0 257 (of_page 1 (fault_of Log Lost)))) ≡
      codes "log: lost, page 1, group 0, missing 257, line 8"
