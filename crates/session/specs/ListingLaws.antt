-- What every listing of a replay over memory servers is, by the one transcript that its script has.
use Rattle.std.specs.Prelude.{◌≡◌, ℕ, ◌≤◌, All, List, Result, length, map, take}
use Rattle.memory.specs.Store.{made, slots}
use Rattle.parity_log.specs.LogState.{unmade_log}
use Rattle.replay.specs.InTurn.{IsTranscript}
use Rattle.replay.specs.Transcript.{HasFirst, IsLine, Item, KeepsPast, all_lines, bytes_counted, entries, left_after, transcript}
use Rattle.replay.specs.declared.listing.Entry.{Entry}
use Rattle.replay.specs.declared.listing.Halt.{Halt}
use Rattle.session.specs.Calls.{Model, model, run_model}
use Rattle.session.specs.Memories.{Listed, replay_over}

-- servers that are lent these bytes, of which no pager is made yet
abbrev pub unmade_over : List (List ℕ) → Model
unmade_over lent = model unmade_log (map (λ bytes. made bytes 0) lent)

abbrev pub transcript_over : List ℕ → List (List ℕ) → List (Item Model)
transcript_over script lent = transcript run_model script (unmade_over lent)

abbrev pub entries_over : List ℕ → List (List ℕ) → List Entry
entries_over script lent = entries (transcript_over script lent)

-- the memories after so many of a script's calls
abbrev pub memories_after : ℕ → List ℕ → List (List ℕ) → List (List ℕ)
memories_after calls script lent =
    map (λ x. x.bytes) (left_after (unmade_over lent) (take calls (transcript_over script lent))).row

-- what a replay comes to, where the memories are told by their bytes
abbrev pub ListedBytes : Type 0
ListedBytes = Listed (Result ℕ Halt) (List ℕ)

-- The listing has the first lines of the script's transcript. As many calls have run as it has
-- lines: one for each line below its first, and one more where that call's line did not fit.
pub record ShowsFirst (script : List ℕ) (lent : List (List ℕ))
    (before : List ℕ) (l : ListedBytes) : Type 0 where
  pub listing : HasFirst (all_lines (entries_over script lent)) before l.outcome l.listing
  pub memories : l.memories ≡ memories_after (length listing.shown) script lent

-- all that the first has written, the second has too, and before anything else
pub record BeginsAlike (l m : ListedBytes) : Type 0 where
  pub count : bytes_counted l.outcome ≤ bytes_counted m.outcome
  pub bytes : take (bytes_counted l.outcome) m.listing ≡ take (bytes_counted l.outcome) l.listing

-- how many slots a server has over these bytes
abbrev pub slot_count : List ℕ → ℕ
slot_count bytes = slots (made bytes 0)

-- the same outcome, and the same bytes in the buffer
pub record ListsAlike (l m : ListedBytes) : Type 0 where
  pub outcome : l.outcome ≡ m.outcome
  pub listing : l.listing ≡ m.listing

pub record ListingLaws : Type 0 where
  -- a transcript has its script's lines in turn, each call run once on what those above it left
  pub in_turn : (script : List ℕ) (lent : List (List ℕ))
      → IsTranscript run_model script (unmade_over lent) (transcript_over script lent)
  -- every line of a transcript is one line
  pub one_line_each : (script : List ℕ) (lent : List (List ℕ))
      → All IsLine (all_lines (entries_over script lent))
  -- whatever the buffer, it has the first lines of the one transcript,
  pub first_lines : (script : List ℕ) (lent : List (List ℕ)) (buffer : List ℕ)
      → ShowsFirst script lent buffer (replay_over script lent buffer)
  -- past them it has what it had,
  pub past_kept : (script : List ℕ) (lent : List (List ℕ)) (buffer : List ℕ)
      → let l = replay_over script lent buffer in KeepsPast buffer l.outcome l.listing
  -- and a longer one begins with all that a shorter one has
  pub cut_short : (script : List ℕ) (lent : List (List ℕ)) (short long : List ℕ)
      → length short ≤ length long
      → BeginsAlike (replay_over script lent short) (replay_over script lent long)
  -- Of the memories only how many slots each has counts, and never what they hold.
  pub by_slots : (script : List ℕ) (lent other : List (List ℕ)) (buffer : List ℕ)
      → map slot_count lent ≡ map slot_count other
      → ListsAlike (replay_over script lent buffer) (replay_over script other buffer)
