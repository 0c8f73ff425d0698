-- How a script is replayed over anything that its calls can be run on, line after line.
use Rattle.std.specs.Prelude.{◌≡◌, ℕ, ◌+◌, List, [], ◌∷◌, Option, Some, None, Result, Ok, Err}
use Rattle.page.specs.Refusals.{on_line}
use Rattle.page.specs.declared.faults.Fault.{Fault}
use Rattle.page.specs.declared.faults.Refusal.{Refusal}
use Rattle.page.specs.declared.faults.Refusal.TheVariants.{Unread}
use Rattle.replay.specs.Listing.{count_after, halt_at, header, line_of, run_entry, unread_entry, written}
use Rattle.replay.specs.Script.{below_names, lines_of, read_call, unread}
use Rattle.replay.specs.declared.listing.Detail.{Detail}
use Rattle.replay.specs.declared.listing.Halt.{Halt}
use Rattle.replay.specs.declared.script.Call.{Call}

-- How a halt with this refusal and line ends a replay, and the listing then. A line that can't be read has a line of the listing, the last one, and ends it as done where that fits; a listing that is full stays as it is.
abbrev pub refusal_end : Refusal → Option ℕ → Halt → List ℕ → Result ℕ Halt × List ℕ
refusal_end Unread (Some number) halt listing =
    let line = line_of (unread_entry number halt.fault) in
    (count_after listing halt.count number line, written listing halt.count line)
refusal_end _ _ halt listing = (Err halt, listing)

-- the same by the halt's own refusal and line
abbrev pub halt_end : Halt → List ℕ → Result ℕ Halt × List ℕ
halt_end halt listing = refusal_end halt.fault.refusal halt.fault.line halt listing

-- the same of a replay that got to its script's end, or was halted
abbrev pub script_end : Result ℕ Halt → List ℕ → Result ℕ Halt × List ℕ
script_end (Ok count) listing = (Ok count, listing)
script_end (Err halt) listing = halt_end halt listing

-- a replay goes on from the bytes that are written, or was halted
abbrev pub Follows : Result ℕ Halt → (ℕ → Type 0) → (Halt → Type 0) → Type 0
Follows (Ok count) On Halted = On count
Follows (Err halt) On Halted = Halted halt

module _ {X : Type 0} (runs : X → Call → Result Detail Fault → X → Type 0) where
  -- A line that can't be read halts the replay. The call of any other is run, and then its entry is written.
  abbrev pub ReplaysRead : ℕ → Option Call → X → List ℕ → ℕ → Result ℕ Halt → X → List ℕ → Type 0
  ReplaysRead number None x listing count outcome y after = (y ≡ x) × (after ≡ listing) × (outcome ≡ Err (halt_at count (on_line number unread)))
  ReplaysRead number (Some call) x listing count outcome y after =
      (answer : Result Detail Fault) × runs x call answer y
      × (let line = line_of (run_entry number call answer) in (after ≡ written listing count line) × (outcome ≡ count_after listing count number line))

  abbrev pub ReplaysLine : ℕ → List ℕ → X → List ℕ → ℕ → Result ℕ Halt → X → List ℕ → Type 0
  ReplaysLine number line = ReplaysRead number (read_call line)

  -- the lines from a number on, up to one that halts the replay
  abbrev pub ReplaysLines : ℕ → List (List ℕ) → X → List ℕ → ℕ → Result ℕ Halt → X → List ℕ → Type 0
  ReplaysLines number [] x listing count outcome y after = (y ≡ x) × (after ≡ listing) × (outcome ≡ Ok count)
  ReplaysLines number (line ∷ lines) x listing count outcome y after =
      (z : X) × (between : List ℕ) × (first : Result ℕ Halt) × ReplaysLine number line x listing count first z between
      × Follows first
      (λ n. ReplaysLines (number + 1) lines z between n outcome y after)
      (λ halt. (y ≡ z) × (after ≡ between) × (outcome ≡ Err halt))

  abbrev pub ReplaysBelow : Result (List (List ℕ)) Fault → X → List ℕ → ℕ → Result ℕ Halt → X → List ℕ → Type 0
  ReplaysBelow (Ok lines) x listing count outcome y after = ReplaysLines 2 lines x listing count outcome y after
  ReplaysBelow (Err fault) x listing count outcome y after = (y ≡ x) × (after ≡ listing) × (outcome ≡ Err (halt_at count fault))

  -- up to the script's end or a halt: the listing's first line, the line of names, and the lines below it
  abbrev pub ReplaysScript : List ℕ → X → List ℕ → Result ℕ Halt → X → List ℕ → Type 0
  ReplaysScript script x listing outcome y after =
      Follows (count_after listing 0 1 header)
      (λ count. ReplaysBelow (below_names (lines_of script)) x (written listing 0 header) count outcome y after)
      (λ halt. (y ≡ x) × (after ≡ written listing 0 header) × (outcome ≡ Err halt))

  -- the whole, with the last line of a replay that was halted
  abbrev pub IsReplay : List ℕ → X → List ℕ → Result ℕ Halt → X → List ℕ → Type 0
  IsReplay script x listing outcome y after =
      (first : Result ℕ Halt) × (before : List ℕ) × ReplaysScript script x listing first y before
      × (outcome ≡ (script_end first before).0) × (after ≡ (script_end first before).1)

-- what a replay leaves: how many bytes it wrote or why it halted, what the calls were run on, and the listing
pub record Replayed (V : Type 0) : Type 0 where
  pub outcome : Result ℕ Halt
  pub runner : V
  pub listing : List ℕ

-- it in one line
abbrev pub left_as : {V : Type 0} → Result ℕ Halt → V → List ℕ → Replayed V
left_as outcome v listing = record { outcome = outcome; runner = v; listing = listing }

-- after a line: on with the rest, or not
abbrev pub after_line : {V : Type 0} → Result ℕ Halt → V → List ℕ → (V → List ℕ → ℕ → Replayed V) → Replayed V
after_line (Ok count) v listing rest = rest v listing count
after_line (Err halt) v listing rest = left_as (Err halt) v listing

-- The same as a function, for calls whose answers and changes are functions of what they are run on.
module _ {V : Type 0} (run : V → Call → Result Detail Fault × V) where
  abbrev pub replayed_read : ℕ → Option Call → V → List ℕ → ℕ → Replayed V
  replayed_read number None v listing count = left_as (Err (halt_at count (on_line number unread))) v listing
  replayed_read number (Some call) v listing count =
      let done = run v call in
      let line = line_of (run_entry number call done.0) in
      left_as (count_after listing count number line) done.1 (written listing count line)

  abbrev pub replayed_lines : ℕ → List (List ℕ) → V → List ℕ → ℕ → Replayed V
  replayed_lines number [] v listing count = left_as (Ok count) v listing
  replayed_lines number (line ∷ lines) v listing count =
      let first = replayed_read number (read_call line) v listing count in
      after_line first.outcome first.runner first.listing (λ w l n. replayed_lines (number + 1) lines w l n)

  abbrev pub replayed_below : Result (List (List ℕ)) Fault → V → List ℕ → ℕ → Replayed V
  replayed_below (Ok lines) v listing count = replayed_lines 2 lines v listing count
  replayed_below (Err fault) v listing count = left_as (Err (halt_at count fault)) v listing

  abbrev pub replayed_script : List ℕ → V → List ℕ → Replayed V
  replayed_script script v listing =
      after_line (count_after listing 0 1 header) v (written listing 0 header) (λ w l n. replayed_below (below_names (lines_of script)) w l n)

  abbrev pub replayed : List ℕ → V → List ℕ → Replayed V
  replayed script v listing =
      let r = replayed_script script v listing in
      let end = script_end r.outcome r.listing in
      left_as end.0 r.runner end.1
