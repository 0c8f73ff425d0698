-- The value that was last written to a page, by the entries of a transcript.
use Rattle.std.specs.Prelude.{◌≡◌, ℕ, ◌==◌, Bool, true, false, not, List, ◌∷◌, ◌++◌, Option, Some, Result, Ok}
use Rattle.std.specs.List.{list_all}
use Rattle.page.specs.declared.faults.Fault.{Fault}
use Rattle.replay.specs.Listing.{run_entry}
use Rattle.replay.specs.declared.listing.Detail.{Detail}
use Rattle.replay.specs.declared.listing.Detail.TheVariants.{Nothing}
use Rattle.replay.specs.declared.listing.Entry.{Entry}
use Rattle.replay.specs.declared.script.Call.{Call}
use Rattle.replay.specs.declared.script.Call.TheVariants.{Out, Free}

-- whether a call that answered so has written a page anew, or freed it
abbrev pub replaces : ℕ → Option Call → Result Detail Fault → Bool
replaces page (Some (Out p value)) (Ok detail) = p == page
replaces page (Some (Free p)) (Ok detail) = p == page
replaces page _ _ = false

-- Among these entries is a done out of the value to the page, and below it no done out and no
-- done free of that page.
pub record LastWritten (page value : ℕ) (es : List Entry) : Type 0 where
  pub line : ℕ
  pub above : List Entry
  pub below : List Entry
  pub in_order : es ≡ above ++ (run_entry line (Out page value) (Ok Nothing) ∷ below)
  pub since : list_all (λ e. not (replaces page e.call e.answer)) below ≡ true
