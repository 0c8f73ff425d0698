-- A line is replayed as it was read, and a replay ends within its buffer.
use Rattle.std.proofs.Common.{◌≡◌, ℕ, ◌+◌, ◌≤◌, Bool, true, false, cond, length, List, [], ◌∷◌, ◌++◌, Option, Some, None, Result, is_ok, Ok, Err, refl, sym, ap, ◌∙◌, subst, take, drop, length-append, length-drop, length-take-le, arith}
use Rattle.std.proofs.lemmas.Bool.{false≢true}
use Rattle.std.proofs.lemmas.Bool.Decides.{nat_tests}
use Rattle.std.specs.Str.{bytes_eq}
use Rattle.page.specs.Refusals.{on_line}
use Rattle.page.specs.declared.faults.Fault.{Fault}
use Rattle.replay.specs.Listing.{EndsWithin, count_after, fits, full, halt_at, header, line_of, written, run_entry, unread_entry}
use Rattle.replay.specs.Replaying.{Follows, ReplaysBelow, ReplaysLines, ReplaysRead, ReplaysScript, script_end}
use Rattle.replay.specs.Script.{below_names, call_or_unread, lines_of, names, read_call, unread}
use Rattle.replay.specs.declared.listing.Detail.{Detail}
use Rattle.replay.specs.declared.listing.Entry.{Entry}
use Rattle.replay.specs.declared.listing.Halt.{Halt}
use Rattle.replay.specs.declared.script.Call.{Call}

-- the fault of a halt: an unread line, or a full listing
abbrev halting : Bool → Fault
halting b = cond b unread full

-- lines end within a buffer, or are halted on one of them
abbrev LinesWithin : ℕ → Result ℕ Halt → Type 0
LinesWithin most (Ok count) = count ≤ most
LinesWithin most (Err halt) = (halt.count ≤ most) × (b : Bool) × (number : ℕ) × (halt.fault ≡ on_line number (halting b))

-- a line that does not fit changes nothing, and one that fits stays in the buffer
count_within : (listing : List ℕ) (count number : ℕ) (line : List ℕ) → count ≤ length listing → LinesWithin (length listing) (count_after listing count number line)
count_within listing count number line h = by_test (fits listing count line) (λ e. grind (arith, nat_tests))
  where
    by_test : (b : Bool) → (b ≡ true → count + length line ≤ length listing) → LinesWithin (length listing) (cond b (Ok (count + length line)) (Err (halt_at count (on_line number full))))
    by_test true within = within refl
    by_test false within = (h, false, number, refl)

length_written : (listing : List ℕ) (count : ℕ) (line : List ℕ) → length (written listing count line) ≡ length listing
length_written listing count line = by_test (fits listing count line) (λ e. grind (arith, nat_tests))
  where
    by_test : (b : Bool) → (b ≡ true → count + length line ≤ length listing) → length (cond b (take count listing ++ line ++ drop (count + length line) listing) listing) ≡ length listing
    by_test true within = let within' = within refl in simp (length-append, length-drop) (omega (arith, length-take-le count listing (omega arith)))
    by_test false within = refl

-- a line whose reading is refused can't be read
pub unread_from : (r : Result Call Fault) (o : Option Call) → r ≡ call_or_unread o → is_ok r ≡ false → r ≡ Err unread
unread_from r None e refused = e
unread_from r (Some call) e refused = absurd (false≢true (sym refused ∙ ap is_ok e))

module _ {X : Type 0} (runs : X → Call → Result Detail Fault → X → Type 0) where
  pub unread_replayed : (number : ℕ) (o : Option Call) (fault : Fault) (x : X) (listing : List ℕ) (count : ℕ) (outcome : Result ℕ Halt) → Err fault ≡ call_or_unread o → outcome ≡ Err (halt_at count (on_line number fault)) → ReplaysRead runs number o x listing count outcome x listing
  unread_replayed number None fault x listing count outcome e counts =
      let same : fault ≡ unread = cc in
      (refl, refl, counts ∙ ap (λ f. Err (halt_at count (on_line number f))) same)
  unread_replayed number (Some call) fault x listing count outcome e counts = absurd cc

  pub call_replayed : (number : ℕ) (o : Option Call) (call : Call) (entry : Entry) (x : X) (listing : List ℕ) (count : ℕ) (answer : Result Detail Fault) (outcome : Result ℕ Halt) (y : X) (after : List ℕ) → Ok call ≡ call_or_unread o → entry ≡ run_entry number call answer → runs x call answer y → after ≡ written listing count (line_of entry) → outcome ≡ count_after listing count entry.line (line_of entry) → ReplaysRead runs number o x listing count outcome y after
  call_replayed number None call entry x listing count answer outcome y after e made ran bytes counts = absurd cc
  call_replayed number (Some read) call entry x listing count answer outcome y after e made ran bytes counts =
      let same : call ≡ read = cc in
      let P : Call → Type 0 = λ a. ReplaysRead runs number (Some a) x listing count outcome y after in
      subst P same (answer, ran, (bytes ∙ ap (λ a. written listing count (line_of a)) made, counts ∙ ap (λ a. count_after listing count a.line (line_of a)) made))

  read_within : (number : ℕ) (o : Option Call) (x : X) (listing : List ℕ) (count : ℕ) (outcome : Result ℕ Halt) (y : X) (after : List ℕ) → count ≤ length listing → ReplaysRead runs number o x listing count outcome y after → LinesWithin (length listing) outcome × (length after ≡ length listing)
  read_within number None x listing count outcome y after h (same, bytes, counts) =
      let P : Result ℕ Halt → Type 0 = λ o. LinesWithin (length listing) o in
      (subst P (sym counts) (h, true, number, refl), ap length bytes)
  read_within number (Some call) x listing count outcome y after h (answer, ran, (bytes, counts)) =
      let line = line_of (run_entry number call answer) in
      let P : Result ℕ Halt → Type 0 = λ o. LinesWithin (length listing) o in
      (subst P (sym counts) (count_within listing count number line h), ap length bytes ∙ length_written listing count line)

  -- the lines of a listing stay in its buffer
  lines_within : (number : ℕ) (lines : List (List ℕ)) (x : X) (listing : List ℕ) (count : ℕ) (outcome : Result ℕ Halt) (y : X) (after : List ℕ) → count ≤ length listing → ReplaysLines runs number lines x listing count outcome y after → LinesWithin (length listing) outcome × (length after ≡ length listing)
  lines_within number [] x listing count outcome y after h (same, bytes, counts) =
      let P : Result ℕ Halt → Type 0 = λ o. LinesWithin (length listing) o in
      (subst P (sym counts) h, ap length bytes)
  lines_within number (line ∷ lines) x listing count outcome y after h (z, between, first, ran, follows) =
      let step = read_within number (read_call line) x listing count first z between h ran in
      by_first first step.0 step.1 (λ n fit rest. lines_within (number + 1) lines z between n outcome y after fit rest) follows
    where
      by_first : (told : Result ℕ Halt) → LinesWithin (length listing) told → length between ≡ length listing → ((n : ℕ) → n ≤ length between → ReplaysLines runs (number + 1) lines z between n outcome y after → LinesWithin (length between) outcome × (length after ≡ length between)) → Follows told (λ n. ReplaysLines runs (number + 1) lines z between n outcome y after) (λ halt. (y ≡ z) × (after ≡ between) × (outcome ≡ Err halt)) → LinesWithin (length listing) outcome × (length after ≡ length listing)
      by_first (Ok n) within same_length more rest =
          let P : ℕ → Type 0 = λ m. LinesWithin m outcome × (length after ≡ m) in
          subst P same_length (more n (omega arith) rest)
      by_first (Err halt) within same_length more (same, bytes, counts) =
          let P : Result ℕ Halt → Type 0 = λ r. LinesWithin (length listing) r in
          (subst P (sym counts) within, ap length bytes ∙ same_length)

  below_within : (all : List (List ℕ)) (x : X) (listing : List ℕ) (count : ℕ) (outcome : Result ℕ Halt) (y : X) (after : List ℕ) → count ≤ length listing → ReplaysBelow runs (below_names all) x listing count outcome y after → LinesWithin (length listing) outcome × (length after ≡ length listing)
  below_within all x listing count outcome y after h below = by_lines all below
    where
      unnamed : (y ≡ x) × (after ≡ listing) × (outcome ≡ Err (halt_at count (on_line 1 unread))) → LinesWithin (length listing) outcome × (length after ≡ length listing)
      unnamed (same, bytes, counts) =
          let P : Result ℕ Halt → Type 0 = λ r. LinesWithin (length listing) r in
          (subst P (sym counts) (h, true, 1, refl), ap length bytes)

      by_test : (b : Bool) (lines : List (List ℕ)) → ReplaysBelow runs (cond b (Ok lines) (Err (on_line 1 unread))) x listing count outcome y after → LinesWithin (length listing) outcome × (length after ≡ length listing)
      by_test true lines below = lines_within 2 lines x listing count outcome y after h below
      by_test false lines below = unnamed below

      by_lines : (all : List (List ℕ)) → ReplaysBelow runs (below_names all) x listing count outcome y after → LinesWithin (length listing) outcome × (length after ≡ length listing)
      by_lines [] below = unnamed below
      by_lines (line ∷ lines) below = by_test (bytes_eq line names) lines below

  script_within : (script : List ℕ) (x : X) (listing : List ℕ) (outcome : Result ℕ Halt) (y : X) (after : List ℕ) → ReplaysScript runs script x listing outcome y after → LinesWithin (length listing) outcome × (length after ≡ length listing)
  script_within script x listing outcome y after whole =
      by_first (count_after listing 0 1 header) (count_within listing 0 1 header (omega arith)) whole
    where
      first : List ℕ
      first = written listing 0 header

      by_first : (told : Result ℕ Halt) → LinesWithin (length listing) told → Follows told (λ count. ReplaysBelow runs (below_names (lines_of script)) x first count outcome y after) (λ halt. (y ≡ x) × (after ≡ first) × (outcome ≡ Err halt)) → LinesWithin (length listing) outcome × (length after ≡ length listing)
      by_first (Ok n) within below =
          let P : ℕ → Type 0 = λ m. LinesWithin m outcome × (length after ≡ m) in
          let same = length_written listing 0 header in
          subst P same (below_within (lines_of script) x first n outcome y after (omega arith) below)
      by_first (Err halt) within (same, bytes, counts) =
          let P : Result ℕ Halt → Type 0 = λ r. LinesWithin (length listing) r in
          (subst P (sym counts) within, ap length bytes ∙ length_written listing 0 header)

  -- a replay ends within its buffer, and only a full one halts it
  pub replay_within : (script : List ℕ) (x : X) (listing : List ℕ) (first : Result ℕ Halt) (y : X) (before : List ℕ) → ReplaysScript runs script x listing first y before → EndsWithin (length listing) (script_end first before).0
  replay_within script x listing first y before whole =
      let within = script_within script x listing first y before whole in
      let P : ℕ → Type 0 = λ m. EndsWithin m (script_end first before).0 in
      subst P within.1 (end_within first before (let Q : ℕ → Type 0 = λ m. LinesWithin m first in subst Q (sym within.1) within.0))
    where
      listed_within : (number : ℕ) (listing line : List ℕ) (count : ℕ) → count ≤ length listing → EndsWithin (length listing) (count_after listing count number line)
      listed_within number listing line count h = by_test (fits listing count line) (λ e. grind (arith, nat_tests))
        where
          by_test : (b : Bool) → (b ≡ true → count + length line ≤ length listing) → EndsWithin (length listing) (cond b (Ok (count + length line)) (Err (halt_at count (on_line number full))))
          by_test true within = within refl
          by_test false within = (h, number, refl)

      by_fault : (b : Bool) (number count : ℕ) (before : List ℕ) → count ≤ length before → EndsWithin (length before) (script_end (Err (halt_at count (on_line number (halting b)))) before).0
      by_fault true number count before h = listed_within number before (line_of (unread_entry number (on_line number unread))) count h
      by_fault false number count before h = (h, number, refl)

      end_within : (first : Result ℕ Halt) (before : List ℕ) → LinesWithin (length before) first → EndsWithin (length before) (script_end first before).0
      end_within (Ok count) before h = h
      end_within (Err halt) before (h, b, number, e) =
          let P : Fault → Type 0 = λ f. EndsWithin (length before) (script_end (Err (halt_at halt.count f)) before).0 in
          subst P (sym e) (by_fault b number halt.count before h)
