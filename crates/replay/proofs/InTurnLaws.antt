-- A transcript has its script's lines in turn.
use Rattle.std.proofs.Common.{◌≡◌, ℕ, ◌+◌, List, [], ◌∷◌, ◌++◌, Option, Some, None, Result, Ok, Err, refl, ap, subst}
use Rattle.std.specs.Prelude.{MatchResult}
use Rattle.page.specs.Refusals.{on_line}
use Rattle.page.specs.declared.faults.Fault.{Fault}
use Rattle.replay.specs.InTurn.{AnsweredOn, InTurn, IsTranscript}
use Rattle.replay.specs.Listing.{run_entry, unread_entry}
use Rattle.replay.specs.Script.{below_names, lines_of, read_call, unread}
use Rattle.replay.specs.Transcript.{Item, item, items_below, items_of, items_of_read, left_after, transcript}
use Rattle.replay.specs.declared.listing.Detail.{Detail}
use Rattle.replay.specs.declared.script.Call.{Call}

none_behind : {V : Type 0} (above below : List (Item V)) (i : Item V) → [] ≡ above ++ (i ∷ below) → ⊥
none_behind [] below i same = cc
none_behind (a ∷ above) below i same = cc

module _ {V : Type 0} (run : V → Call → Result Detail Fault × V) where
  none_in_turn : (first : ℕ) (v : V) → InTurn run first [] v []
  none_in_turn first v = record { numbers = refl; calls = refl; answers = λ above below i same. absurd (none_behind above below i same) }

  unread_in_turn : (first : ℕ) (line : List ℕ) (lines : List (List ℕ)) (v : V) → read_call line ≡ None → InTurn run first (line ∷ lines) v (item (unread_entry first (on_line first unread)) v ∷ [])
  unread_in_turn first line lines v none = record {
    numbers = refl;
    calls = rw none refl;
    answers = answers;
  }
    where
      last : Item V
      last = item (unread_entry first (on_line first unread)) v

      answers : (above below : List (Item V)) (i : Item V) → last ∷ [] ≡ above ++ (i ∷ below) → AnsweredOn run (left_after v above) i i.entry.call
      answers [] below i same =
          let is : last ≡ i = cc in
          subst (λ (j : Item V). AnsweredOn run v j j.entry.call) is (refl, refl)
      answers (a ∷ above) below i same =
          let rest : [] ≡ above ++ (i ∷ below) = cc in
          absurd (none_behind above below i rest)

  call_in_turn : (first : ℕ) (line : List ℕ) (lines : List (List ℕ)) (v : V) (call : Call) (items : List (Item V)) → read_call line ≡ Some call → InTurn run (first + 1) lines (run v call).1 items
      → InTurn run first (line ∷ lines) v (item (run_entry first call (run v call).0) (run v call).1 ∷ items)
  call_in_turn first line lines v call items is rest = record {
    numbers = ap (λ ns. first ∷ ns) rest.numbers;
    calls = rw is (ap (λ cs. Some call ∷ cs) rest.calls);
    answers = answers;
  }
    where
      here : Item V
      here = item (run_entry first call (run v call).0) (run v call).1

      answers : (above below : List (Item V)) (i : Item V) → here ∷ items ≡ above ++ (i ∷ below) → AnsweredOn run (left_after v above) i i.entry.call
      answers [] below i same =
          let is : here ≡ i = cc in
          subst (λ (j : Item V). AnsweredOn run v j j.entry.call) is (refl, refl)
      answers (a ∷ above) below i same =
          let is : here ≡ a = cc in
          let others : items ≡ above ++ (i ∷ below) = cc in
          subst (λ (j : Item V). AnsweredOn run (left_after j.runner above) i i.entry.call) is (rest.answers above below i others)

  read_in_turn : (first : ℕ) (line : List ℕ) (lines : List (List ℕ)) (v : V) (o : Option Call) → read_call line ≡ o → ((w : V) → InTurn run (first + 1) lines w (items_of run (first + 1) lines w))
      → InTurn run first (line ∷ lines) v (items_of_read run first o v (λ w. items_of run (first + 1) lines w))
  read_in_turn first line lines v None is rest = unread_in_turn first line lines v is
  read_in_turn first line lines v (Some call) is rest = call_in_turn first line lines v call _ is (rest (run v call).1)

  lines_in_turn : (first : ℕ) (lines : List (List ℕ)) (v : V) → InTurn run first lines v (items_of run first lines v)
  lines_in_turn first [] v = none_in_turn first v
  lines_in_turn first (line ∷ lines) v = read_in_turn first line lines v (read_call line) refl (λ w. lines_in_turn (first + 1) lines w)

  pub is_transcript : (script : List ℕ) (v : V) → IsTranscript run script v (transcript run script v)
  is_transcript script v = by_names (below_names (lines_of script))
    where
      by_names : (below : Result (List (List ℕ)) Fault) → MatchResult below (λ lines. InTurn run 2 lines v (items_below run below v)) (λ fault. items_below run below v ≡ item (unread_entry 1 fault) v ∷ [])
      by_names (Ok lines) = lines_in_turn 2 lines v
      by_names (Err fault) = refl
