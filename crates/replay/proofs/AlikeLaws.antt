-- Where two that calls are run on answer alike, a script's transcript has the same entries over both.
use Rattle.std.proofs.Common.{◌≡◌, ℕ, ◌+◌, List, [], ◌∷◌, Option, Some, None, Result, Ok, Err, refl, ap, ◌∙◌}
use Rattle.page.specs.declared.faults.Fault.{Fault}
use Rattle.replay.specs.Listing.{run_entry}
use Rattle.replay.specs.Script.{below_names, lines_of, read_call}
use Rattle.replay.specs.Transcript.{Item, entries, items_below, items_of, items_of_read, transcript}
use Rattle.replay.specs.declared.listing.Detail.{Detail}
use Rattle.replay.specs.declared.script.Call.{Call}

module _ {V W : Type 0} (run : V → Call → Result Detail Fault × V) (run' : W → Call → Result Detail Fault × W) (Same : V → W → Type 0) (step : (v : V) (w : W) (call : Call) → Same v w → ((run v call).0 ≡ (run' w call).0) × Same (run v call).1 (run' w call).1) where
  read_alike : (number : ℕ) (o : Option Call) (v : V) (w : W) (below : V → List (Item V)) (below' : W → List (Item W)) → Same v w
      → ((x : V) (y : W) → Same x y → entries (below x) ≡ entries (below' y))
      → entries (items_of_read run number o v below) ≡ entries (items_of_read run' number o w below')
  read_alike number None v w below below' same rest = refl
  read_alike number (Some call) v w below below' same rest =
      let next = step v w call same in
      ap (λ a. run_entry number call a ∷ entries (below (run v call).1)) next.0 ∙ ap (λ es. run_entry number call (run' w call).0 ∷ es) (rest (run v call).1 (run' w call).1 next.1)

  lines_alike : (number : ℕ) (lines : List (List ℕ)) (v : V) (w : W) → Same v w → entries (items_of run number lines v) ≡ entries (items_of run' number lines w)
  lines_alike number [] v w same = refl
  lines_alike number (line ∷ lines) v w same =
      read_alike number (read_call line) v w (λ x. items_of run (number + 1) lines x) (λ y. items_of run' (number + 1) lines y) same (λ x y h. lines_alike (number + 1) lines x y h)

  below_alike : (below : Result (List (List ℕ)) Fault) (v : V) (w : W) → Same v w → entries (items_below run below v) ≡ entries (items_below run' below w)
  below_alike (Ok lines) v w same = lines_alike 2 lines v w same
  below_alike (Err fault) v w same = refl

  pub entries_alike : (script : List ℕ) (v : V) (w : W) → Same v w → entries (transcript run script v) ≡ entries (transcript run' script w)
  entries_alike script v w same = below_alike (below_names (lines_of script)) v w same
