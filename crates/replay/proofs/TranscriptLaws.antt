-- A listing has the first lines of its script's transcript.
use Rattle.std.proofs.Common.{◌≡◌, ℕ, suc, ◌+◌, ◌<◌, ◌≤◌, Bool, true, false, cond, length, List, [], ◌∷◌, ◌++◌, map, Option, Some, None, Result, Ok, Err, refl, sym, ap, ◌∙◌, subst, take, drop, length-append, length-drop, append_assoc, arith}
use Rattle.std.specs.Prelude.{bytes_eq}
use Rattle.std.proofs.lemmas.Bool.Decides.{nat_tests}
use Rattle.std.proofs.lemmas.List.{append-nil, drop-drop}
use Rattle.std.proofs.Math.Seq.{take-append_seam, drop-append_seam, drop-append-add}
use Rattle.page.specs.Refusals.{on_line}
use Rattle.page.specs.declared.faults.Fault.{Fault}
use Rattle.replay.proofs.CutLaws.{counted_is}
use Rattle.replay.specs.Listing.{count_after, fits, full, halt_at, header, line_of, run_entry, unread_entry, written}
use Rattle.replay.specs.Replaying.{Replayed, after_line, left_as, replayed, replayed_below, replayed_lines, replayed_read, script_end}
use Rattle.replay.specs.Script.{below_names, lines_of, names, read_call, unread}
use Rattle.replay.specs.Transcript.{Item, EndsAt, HasFirst, KeepsPast, Line, bytes_counted, item, items_below, items_of, items_of_read, left_after, line_at, line_for, entries, text, transcript}
use Rattle.replay.specs.declared.listing.Detail.{Detail}
use Rattle.replay.specs.declared.listing.Entry.{Entry}
use Rattle.replay.specs.declared.listing.Halt.{Halt}
use Rattle.replay.specs.declared.script.Call.{Call}

-- a line that fits stands behind the bytes that are written
behind : (done past line : List ℕ) → take (length done) (done ++ past) ++ line ++ drop (length done + length line) (done ++ past) ≡ (done ++ line) ++ drop (length line) past
behind done past line = rw (take-append_seam done past, drop-append-add done past (length line), append_assoc) refl

-- whether a line fits is whether what is past the written bytes is long enough
fits_past : (done past line : List ℕ) (b : Bool) → fits (done ++ past) (length done) line ≡ b → cond b (length line ≤ length past) (length past < length line)
fits_past done past line true e = grind (arith, nat_tests, length-append done past)
fits_past done past line false e = grind (arith, nat_tests, length-append done past)

as_long : (done past line : List ℕ) → length line ≤ length past → length ((done ++ line) ++ drop (length line) past) ≡ length (done ++ past)
as_long done past line h = simp (length-append, length-drop) (omega (arith, h))

room_for : (line below past : List ℕ) → length line ≤ length past → length below ≤ length (drop (length line) past) → length (line ++ below) ≤ length past
room_for line below past h rest = omega (arith, length-drop (length line) past, length-append line below)

further : (line below past : List ℕ) → drop (length below) (drop (length line) past) ≡ drop (length (line ++ below)) past
further line below past = drop-drop (length below) (length line) past ∙ ap (λ n. drop n past) (sym (length-append line below))

-- a replay with the last line of one that was halted
abbrev ended : {V : Type 0} → Replayed V → Replayed V
ended r = let end = script_end r.outcome r.listing in left_as end.0 r.runner end.1

module _ {V : Type 0} where
  -- a replay that goes on behind the bytes `done`, with room for the bytes `past`, shows the first of these items
  pub record Shows (done past : List ℕ) (v : V) (items : List (Item V)) (r : Replayed V) : Type 0 where
    pub shown : List Line
    pub left_out : List Line
    pub in_order : map line_for (entries items) ≡ shown ++ left_out
    pub room : length (text shown) ≤ length past
    pub bytes : r.listing ≡ done ++ (text shown ++ drop (length (text shown)) past)
    pub ends : EndsAt left_out (length (done ++ past)) (length (done ++ text shown)) r.outcome
    pub runner : r.runner ≡ left_after v (take (suc (length shown)) items)

  none_left : (done past : List ℕ) (v : V) → Shows done past v [] (left_as (Ok (length done)) v (done ++ past))
  none_left done past v = record {
    shown = [];
    left_out = [];
    in_order = refl;
    room = omega arith;
    bytes = refl;
    ends = ap (λ d. Ok (length d)) (sym (append-nil done));
    runner = refl;
  }

  none_fits : (done past : List ℕ) (v w : V) (e : Entry) (items : List (Item V)) → length past < length (line_of e) → Shows done past v (item e w ∷ items) (left_as (Err (halt_at (length done) (on_line e.line full))) w (done ++ past))
  none_fits done past v w e items h = record {
    shown = [];
    left_out = line_for e ∷ map line_for (entries items);
    in_order = refl;
    room = omega arith;
    bytes = refl;
    ends = (omega (arith, h, length-append done past, ap length (append-nil done)), ap (λ d. Err (halt_at (length d) (on_line e.line full))) (sym (append-nil done)));
    runner = refl;
  }

  one_more : (done past : List ℕ) (v w : V) (e : Entry) (items : List (Item V)) (r : Replayed V) → length (line_of e) ≤ length past → Shows (done ++ line_of e) (drop (length (line_of e)) past) w items r → Shows done past v (item e w ∷ items) r
  one_more done past v w e items r h s =
      let l = line_of e in
      let below = text s.shown in
      let count : length ((done ++ l) ++ below) ≡ length (done ++ (l ++ below)) = ap length (append_assoc done l below) in
      let P : ℕ → Type 0 = λ m. EndsAt s.left_out m (length ((done ++ l) ++ below)) r.outcome in
      let Q : ℕ → Type 0 = λ n. EndsAt s.left_out (length (done ++ past)) n r.outcome in
      record {
        shown = line_for e ∷ s.shown;
        left_out = s.left_out;
        in_order = ap (λ ls. line_for e ∷ ls) s.in_order;
        room = room_for l below past h s.room;
        bytes = s.bytes ∙ append_assoc done l _ ∙ ap (λ t. done ++ t) (sym (append_assoc l below _)) ∙ ap (λ t. done ++ ((l ++ below) ++ t)) (further l below past);
        ends = subst Q count (subst P (as_long done past l h) s.ends);
        runner = s.runner;
      }

  -- a line that is written where it fits, and what goes on behind it
  line_shows : (done past : List ℕ) (v w : V) (e : Entry) (items : List (Item V)) (rest : V → List ℕ → ℕ → Replayed V)
      → ((done' past' : List ℕ) → Shows done' past' w items (ended (rest w (done' ++ past') (length done'))))
      → Shows done past v (item e w ∷ items) (ended (after_line (count_after (done ++ past) (length done) e.line (line_of e)) w (written (done ++ past) (length done) (line_of e)) rest))
  line_shows done past v w e items rest goes_on = by_test (line_of e) refl (fits (done ++ past) (length done) (line_of e)) (fits_past done past (line_of e) _ refl)
    where
      by_test : (l : List ℕ) → line_of e ≡ l → (b : Bool) → cond b (length l ≤ length past) (length past < length l)
          → Shows done past v (item e w ∷ items) (ended (after_line (cond b (Ok (length done + length l)) (Err (halt_at (length done) (on_line e.line full)))) w (cond b (take (length done) (done ++ past) ++ l ++ drop (length done + length l) (done ++ past)) (done ++ past)) rest))
      by_test l is true h =
          let P : List ℕ → Type 0 = λ t. Shows done past v (item e w ∷ items) (ended (rest w t (length done + length l))) in
          let Q : ℕ → Type 0 = λ n. Shows done past v (item e w ∷ items) (ended (rest w ((done ++ l) ++ drop (length l) past) n)) in
          let R : List ℕ → Type 0 = λ k. Shows done past v (item e w ∷ items) (ended (rest w ((done ++ k) ++ drop (length k) past) (length (done ++ k)))) in
          let here = one_more done past v w e items _ (rw is h) (goes_on (done ++ line_of e) (drop (length (line_of e)) past)) in
          subst P (sym (behind done past l)) (subst Q (length-append done l) (subst R is here))
      by_test l is false h = none_fits done past v w e items (rw is h)

  -- a line that can't be read is written where it fits, and then the replay ends
  last_shows : (number : ℕ) (done past : List ℕ) (v : V) → Shows done past v (item (unread_entry number (on_line number unread)) v ∷ []) (ended (left_as (Err (halt_at (length done) (on_line number unread))) v (done ++ past)))
  last_shows number done past v =
      let e = unread_entry number (on_line number unread) in
      let P : Replayed V → Type 0 = λ r. Shows done past v (item e v ∷ []) r in
      subst P (as_last (fits (done ++ past) (length done) (line_of e)) (length done + length (line_of e)) (length done) (written (done ++ past) (length done) (line_of e))) (line_shows done past v v e [] (λ w l n. left_as (Ok n) w l) (λ d p. none_left d p v))
    where
      as_last : (b : Bool) (n m : ℕ) (l : List ℕ) → let o = cond b (Ok n) (Err (halt_at m (on_line number full))) in ended (after_line o v l (λ w t k. left_as (Ok k) w t)) ≡ left_as o v l
      as_last true n m l = refl
      as_last false n m l = refl

module _ {V : Type 0} (run : V → Call → Result Detail Fault × V) where
  read_shows : (number : ℕ) (o : Option Call) (v : V) (done past : List ℕ) (below : V → List (Item V)) (rest : V → List ℕ → ℕ → Replayed V)
      → ((w : V) (done' past' : List ℕ) → Shows done' past' w (below w) (ended (rest w (done' ++ past') (length done'))))
      → let first = replayed_read run number o v (done ++ past) (length done) in Shows done past v (items_of_read run number o v below) (ended (after_line first.outcome first.runner first.listing rest))
  read_shows number None v done past below rest goes_on = last_shows number done past v
  read_shows number (Some call) v done past below rest goes_on =
      let r = run v call in
      line_shows done past v r.1 (run_entry number call r.0) (below r.1) rest (goes_on r.1)

  lines_show : (number : ℕ) (lines : List (List ℕ)) (v : V) (done past : List ℕ) → Shows done past v (items_of run number lines v) (ended (replayed_lines run number lines v (done ++ past) (length done)))
  lines_show number [] v done past = none_left done past v
  lines_show number (line ∷ lines) v done past =
      read_shows number (read_call line) v done past (λ w. items_of run (number + 1) lines w) (λ w l n. replayed_lines run (number + 1) lines w l n) (λ w d p. lines_show (number + 1) lines w d p)

  below_shows : (lines : List (List ℕ)) (v : V) (done past : List ℕ) → Shows done past v (items_below run (below_names lines) v) (ended (replayed_below run (below_names lines) v (done ++ past) (length done)))
  below_shows [] v done past = last_shows 1 done past v
  below_shows (line ∷ lines) v done past = by_test (bytes_eq line names)
    where
      by_test : (b : Bool) → let below = cond b (Ok lines) (Err (on_line 1 unread)) in Shows done past v (items_below run below v) (ended (replayed_below run below v (done ++ past) (length done)))
      by_test true = lines_show 2 lines v done past
      by_test false = last_shows 1 done past v

-- the listing's first line, of which no call is run, and what goes on behind it
module _ {V : Type 0} (v : V) (items : List (Item V)) (before : List ℕ) where
  abbrev lines_behind : List ℕ → List Line
  lines_behind first = line_at 1 first ∷ map line_for (entries items)

  pub record FirstShows (first : List ℕ) (r : Replayed V) : Type 0 where
    pub listing : HasFirst (lines_behind first) before r.outcome r.listing
    pub runner : r.runner ≡ left_after v (take (length listing.shown) items)

  none_shown : (first : List ℕ) → length before < length first → FirstShows first (left_as (Err (halt_at 0 (on_line 1 full))) v before)
  none_shown first h = record {
    listing = record { shown = []; left_out = lines_behind first; in_order = refl; room = omega arith; bytes = refl; ends = (omega (arith, h), refl) };
    runner = refl;
  }

  first_shown : (first : List ℕ) (r : Replayed V) → length first ≤ length before → Shows first (drop (length first) before) v items r → FirstShows first r
  first_shown first r h s =
      let below = text s.shown in
      let P : ℕ → Type 0 = λ m. EndsAt s.left_out m (length (first ++ below)) r.outcome in
      record {
        listing = record {
          shown = line_at 1 first ∷ s.shown;
          left_out = s.left_out;
          in_order = ap (λ ls. line_at 1 first ∷ ls) s.in_order;
          room = room_for first below before h s.room;
          bytes = s.bytes ∙ sym (append_assoc first below _) ∙ ap (λ t. (first ++ below) ++ t) (further first below before);
          ends = subst P (as_long [] before first h) s.ends;
        };
        runner = s.runner;
      }

  first_line_shows : (first : List ℕ) (rest : V → List ℕ → ℕ → Replayed V) → ((done past : List ℕ) → Shows done past v items (ended (rest v (done ++ past) (length done))))
      → FirstShows first (ended (after_line (count_after before 0 1 first) v (written before 0 first) rest))
  first_line_shows first rest goes_on = by_test (fits before 0 first) (fits_past [] before first _ refl)
    where
      by_test : (b : Bool) → cond b (length first ≤ length before) (length before < length first)
          → FirstShows first (ended (after_line (cond b (Ok (0 + length first)) (Err (halt_at 0 (on_line 1 full)))) v (cond b (take 0 before ++ first ++ drop (0 + length first) before) before) rest))
      by_test true h =
          let P : List ℕ → Type 0 = λ t. FirstShows first (ended (rest v t (0 + length first))) in
          let Q : ℕ → Type 0 = λ n. FirstShows first (ended (rest v (first ++ drop (length first) before) n)) in
          let none_before : length first ≡ 0 + length first = omega arith in
          subst P (sym (behind [] before first)) (subst Q none_before (first_shown first _ h (goes_on first (drop (length first) before))))
      by_test false h = none_shown first h

module _ {V : Type 0} (run : V → Call → Result Detail Fault × V) where
  pub replay_shows : (script : List ℕ) (v : V) (listing : List ℕ) → FirstShows v (transcript run script v) listing header (replayed run script v listing)
  replay_shows script v listing =
      let lines = lines_of script in
      first_line_shows v (items_below run (below_names lines) v) listing header (λ w l n. replayed_below run (below_names lines) w l n) (λ d p. below_shows run lines v d p)

-- What has the first of some lines keeps what is past them.
pub keeps_past : (lines : List Line) (before : List ℕ) (outcome : Result ℕ Halt) (after : List ℕ) → HasFirst lines before outcome after → KeepsPast before outcome after
keeps_past lines before outcome after h =
    let shown = text h.shown in
    let counted : bytes_counted outcome ≡ length shown = counted_is h.left_out (length before) (length shown) outcome h.ends in
    let P : ℕ → Type 0 = λ n. drop n after ≡ drop n before in
    record {
      within = omega (arith, counted, h.room);
      long = ap length h.bytes ∙ as_long [] before shown h.room;
      past = subst P (sym counted) (ap (drop (length shown)) h.bytes ∙ drop-append_seam shown (drop (length shown) before));
    }
