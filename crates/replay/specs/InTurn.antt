-- What a transcript is of its script: the script's lines in order, each with its call, which ran
-- once on what those above it left.
use Rattle.std.specs.Prelude.{◌≡◌, ℕ, List, [], ◌∷◌, ◌++◌, MatchResult, map, length, Option, Some, None, Result, Err}
use Rattle.std.specs.List.{range_with_len}
use Rattle.page.specs.Refusals.{on_line}
use Rattle.page.specs.declared.faults.Fault.{Fault}
use Rattle.replay.specs.Listing.{told_line, unread_entry}
use Rattle.replay.specs.Script.{below_names, lines_of, read_call, unread}
use Rattle.replay.specs.Transcript.{Item, item, left_after}
use Rattle.replay.specs.declared.listing.Detail.{Detail}
use Rattle.replay.specs.declared.script.Call.{Call}

-- up to the first that is no call, and with it
abbrev pub up_to_none : List (Option Call) → List (Option Call)
up_to_none [] = []
up_to_none (None ∷ calls) = None ∷ []
up_to_none (Some call ∷ calls) = Some call ∷ up_to_none calls

module _ {V : Type 0} (run : V → Call → Result Detail Fault × V) where
  -- how an item is answered, and what it leaves, with this of what its call is run on
  abbrev pub AnsweredOn : V → Item V → Option Call → Type 0
  AnsweredOn v i None = (i.entry.answer ≡ Err (on_line i.entry.line unread)) × (i.runner ≡ v)
  AnsweredOn v i (Some call) =
      let done = run v call in
      (i.entry.answer ≡ told_line i.entry.line done.0) × (i.runner ≡ done.1)

  -- the items of lines that are numbered from first on
  pub record InTurn (first : ℕ) (lines : List (List ℕ)) (v : V) (items : List (Item V)) : Type 0 where
    pub numbers : map (λ i. i.entry.line) items ≡ range_with_len first (length items)
    pub calls : map (λ i. i.entry.call) items ≡ up_to_none (map read_call lines)
    pub answers : (above below : List (Item V)) (i : Item V)
        → items ≡ above ++ (i ∷ below)
        → AnsweredOn (left_after v above) i i.entry.call

  -- the lines below the line of names count from 2; a script without that line is unread on line 1
  abbrev pub IsTranscript : List ℕ → V → List (Item V) → Type 0
  IsTranscript script v items = MatchResult (below_names (lines_of script))
      (λ lines. InTurn 2 lines v items)
      (λ fault. items ≡ item (unread_entry 1 fault) v ∷ [])
