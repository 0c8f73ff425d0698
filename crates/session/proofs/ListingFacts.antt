-- Every listing over memory servers has the first lines of its script's transcript.
use Rattle.std.proofs.Common.{◌≡◌, ℕ, ◌≤◌, List, length, map, refl, sym, ap, subst}
use Rattle.replay.proofs.AlikeLaws.{entries_alike}
use Rattle.replay.proofs.CutLaws.{begins_same, counts_more, same_answer, same_listing}
use Rattle.replay.proofs.InTurnLaws.{is_transcript}
use Rattle.replay.proofs.LineLaws.{are_lines}
use Rattle.replay.proofs.TranscriptLaws.{keeps_past, replay_shows}
use Rattle.replay.specs.Transcript.{HasFirst, all_lines}
use Rattle.replay.specs.declared.listing.Entry.{Entry}
use Rattle.session.proofs.AlikeRows.{ModelsAlike, made_alike, step_alike}
use Rattle.session.specs.Calls.{Model, run_model}
use Rattle.session.specs.ListingLaws.{BeginsAlike, ListingLaws, ListsAlike, slot_count, ShowsFirst, entries_over, unmade_over}
use Rattle.session.specs.Memories.{replay_over}

first_lines : (script : List ℕ) (lent : List (List ℕ)) (buffer : List ℕ) → ShowsFirst script lent buffer (replay_over script lent buffer)
first_lines script lent buffer =
    let s = replay_shows run_model script (unmade_over lent) buffer in
    record { listing = s.listing; memories = ap (λ (m : Model). map (λ x. x.bytes) m.row) s.runner }

cut_short : (script : List ℕ) (lent : List (List ℕ)) (short long : List ℕ) → length short ≤ length long → BeginsAlike (replay_over script lent short) (replay_over script lent long)
cut_short script lent short long longer =
    let lines = all_lines (entries_over script lent) in
    let l = replay_over script lent short in
    let m = replay_over script lent long in
    let first = (first_lines script lent short).listing in
    let more = (first_lines script lent long).listing in
    record {
      count = counts_more lines short l.outcome l.listing first long m.outcome m.listing more longer;
      bytes = begins_same lines short l.outcome l.listing first long m.outcome m.listing more longer;
    }

by_slots : (script : List ℕ) (lent other : List (List ℕ)) (buffer : List ℕ) → map slot_count lent ≡ map slot_count other → ListsAlike (replay_over script lent buffer) (replay_over script other buffer)
by_slots script lent other buffer same =
    let l = replay_over script lent buffer in
    let m = replay_over script other buffer in
    let alike : entries_over script other ≡ entries_over script lent = sym (entries_alike run_model run_model ModelsAlike step_alike script (unmade_over lent) (unmade_over other) (record { log = refl; rows = made_alike lent other same })) in
    let P : List Entry → Type 0 = λ es. HasFirst (all_lines es) buffer m.outcome m.listing in
    let lines = all_lines (entries_over script lent) in
    let first = (first_lines script lent buffer).listing in
    let second = subst P alike (first_lines script other buffer).listing in
    record {
      outcome = same_answer lines buffer m.outcome m.listing second l.outcome l.listing first;
      listing = same_listing lines buffer m.outcome m.listing second l.outcome l.listing first;
    }

pub listing_laws : ListingLaws
listing_laws = record {
  in_turn = λ script lent. is_transcript run_model script (unmade_over lent);
  one_line_each = λ script lent. are_lines (entries_over script lent);
  first_lines = first_lines;
  past_kept = λ script lent buffer. let l = replay_over script lent buffer in keeps_past (all_lines (entries_over script lent)) buffer l.outcome l.listing (first_lines script lent buffer).listing;
  cut_short = cut_short;
  by_slots = by_slots;
}
