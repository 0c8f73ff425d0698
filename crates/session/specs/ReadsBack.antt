-- What a script reads is what it wrote, whatever fell, came back or was rebuilt between.
use Rattle.std.specs.Prelude.{◌≡◌, ℕ, List, ◌∷◌, ◌++◌, Ok}
use Rattle.replay.specs.LastWritten.{LastWritten}
use Rattle.replay.specs.Listing.{run_entry}
use Rattle.replay.specs.declared.listing.Detail.TheVariants.{Byte}
use Rattle.replay.specs.declared.listing.Entry.{Entry}
use Rattle.replay.specs.declared.script.Call.TheVariants.{In}
use Rattle.session.specs.ListingLaws.{entries_over}

-- an `in` that is done shows the value that was last written to its page above it
abbrev pub ReadsBack : Type 0
ReadsBack =
    (script : List ℕ) (lent : List (List ℕ)) (above below : List Entry) (line page value : ℕ)
    → entries_over script lent ≡ above ++ (run_entry line (In page) (Ok (Byte value)) ∷ below)
    → LastWritten page value above
