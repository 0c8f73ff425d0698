-- The transcript of a script: an entry for each of its lines, whatever buffer there is to list
-- them in; and what a buffer has of it.
use Rattle.std.specs.Prelude.{◌≡◌, ℕ, ◌+◌, ◌<◌, ◌≤◌, true, not, ◌==◌, List, [], ◌∷◌, ◌++◌, map, length, drop, Option, Some, None, Result, Ok, Err}
use Rattle.std.specs.List.{list_all}
use Rattle.page.specs.Refusals.{on_line}
use Rattle.page.specs.declared.faults.Fault.{Fault}
use Rattle.replay.specs.Listing.{full, halt_at, header, line_of, run_entry, unread_entry}
use Rattle.replay.specs.Script.{below_names, lines_of, read_call, unread}
use Rattle.replay.specs.declared.listing.Detail.{Detail}
use Rattle.replay.specs.declared.listing.Entry.{Entry}
use Rattle.replay.specs.declared.listing.Halt.{Halt}
use Rattle.replay.specs.declared.script.Call.{Call}

-- an entry, and what the calls below it are run on
pub record Item (V : Type 0) : Type 0 where
  pub entry : Entry
  pub runner : V

abbrev pub item : {V : Type 0} → Entry → V → Item V
item entry v = record { entry = entry; runner = v }

-- what is left after these items of what the first call was run on
abbrev pub left_after : {V : Type 0} → V → List (Item V) → V
left_after v [] = v
left_after v (i ∷ items) = left_after i.runner items

module _ {V : Type 0} (run : V → Call → Result Detail Fault × V) where
  -- the item of a line, and those below it; a line that can't be read is the last
  abbrev pub items_of_read : ℕ → Option Call → V → (V → List (Item V)) → List (Item V)
  items_of_read number None v below = item (unread_entry number (on_line number unread)) v ∷ []
  items_of_read number (Some call) v below =
      let done = run v call in
      item (run_entry number call done.0) done.1 ∷ below done.1

  -- the items of the lines from a number on
  abbrev pub items_of : ℕ → List (List ℕ) → V → List (Item V)
  items_of number [] v = []
  items_of number (line ∷ lines) v =
      items_of_read number (read_call line) v (λ w. items_of (number + 1) lines w)

  abbrev pub items_below : Result (List (List ℕ)) Fault → V → List (Item V)
  items_below (Ok lines) v = items_of 2 lines v
  items_below (Err fault) v = item (unread_entry 1 fault) v ∷ []

  abbrev pub transcript : List ℕ → V → List (Item V)
  transcript script v = items_below (below_names (lines_of script)) v

abbrev pub entries : {V : Type 0} → List (Item V) → List Entry
entries items = map (λ i. i.entry) items

-- a line of a listing, and the number of the script's line that it is of
pub record Line : Type 0 where
  pub number : ℕ
  pub bytes : List ℕ

abbrev pub line_at : ℕ → List ℕ → Line
line_at number bytes = record { number = number; bytes = bytes }

abbrev pub line_for : Entry → Line
line_for entry = line_at entry.line (line_of entry)

-- the lines of a listing that has an entry for each line of its script
abbrev pub all_lines : List Entry → List Line
all_lines es = line_at 1 header ∷ map line_for es

abbrev pub text : List Line → List ℕ
text [] = []
text (line ∷ lines) = line.bytes ++ text lines

-- its bytes are ended by byte 10, and no other of them is
pub record IsLine (line : Line) : Type 0 where
  pub body : List ℕ
  pub ended : line.bytes ≡ body ++ 10 ∷ []
  pub unbroken : list_all (λ b. not (b == 10)) body ≡ true

-- how many bytes an outcome counts, halted or not
abbrev pub bytes_counted : Result ℕ Halt → ℕ
bytes_counted (Ok n) = n
bytes_counted (Err halt) = halt.count

-- n bytes are written where no line is left out. Else the first that is left out does not fit
-- behind n bytes, and halts the replay as full, on the script's line that it is of.
abbrev pub EndsAt : List Line → ℕ → ℕ → Result ℕ Halt → Type 0
EndsAt [] room n outcome = outcome ≡ Ok n
EndsAt (next ∷ more) room n outcome =
    (room < n + length next.bytes) × (outcome ≡ Err (halt_at n (on_line next.number full)))

-- A buffer has the first of these lines, as many as fit one behind the other, and past them what it had.
pub record HasFirst (lines : List Line) (before : List ℕ)
    (outcome : Result ℕ Halt) (after : List ℕ) : Type 0 where
  pub shown : List Line
  pub left_out : List Line
  pub in_order : lines ≡ shown ++ left_out
  pub room : length (text shown) ≤ length before
  pub bytes : after ≡ text shown ++ drop (length (text shown)) before
  pub ends : EndsAt left_out (length before) (length (text shown)) outcome

-- No more bytes are counted than the buffer has. It keeps its length, and past them its bytes.
pub record KeepsPast (before : List ℕ)
    (outcome : Result ℕ Halt) (after : List ℕ) : Type 0 where
  pub within : bytes_counted outcome ≤ length before
  pub long : length after ≡ length before
  pub past : drop (bytes_counted outcome) after ≡ drop (bytes_counted outcome) before
