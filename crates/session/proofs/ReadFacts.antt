-- An `in` that is done shows what was last written: each call of a script is a turn, and the law holds of the run.
use Rattle.std.proofs.Common.{◌≡◌, ℕ, zero, suc, ◌+◌, ◌%◌, ◌<◌, Bool, true, false, cond, List, [], ◌∷◌, ◌++◌, length, map, Option, Some, None, Ok, Err, Result, ◌⊎◌, inl, inr, refl, sym, ap, ◌∙◌, subst, append_assoc, arith}
use Rattle.std.specs.Prelude.{slice_index}
use Rattle.std.proofs.lemmas.List.{append-nil}
use Rattle.page.specs.Pages.{page_of, page_size, zeros}
use Rattle.page.specs.Refusals.{fault_of, on_line}
use Rattle.page.specs.declared.faults.Fault.{Fault}
use Rattle.page.specs.declared.faults.Layer.TheVariants.{Log}
use Rattle.page.specs.declared.faults.Refusal.TheVariants.{Shape as BadShape}
use Rattle.law.specs.Book.{Book}
use Rattle.law.specs.Runs.{Happens, frees, loses, makes, noted, pages_in, pages_out, returns, steps, Turn}
use Rattle.law.proofs.Lawful.{lawful}
use Rattle.memory.specs.Store.{made as made_store}
use Rattle.pager.specs.Moments.{AtMost}
use Rattle.pager.proofs.MakingLaws.{decided_fitted, decided_within}
use Rattle.pager.proofs.PullLaws.{backs_turn, falls_turn}
use Rattle.parity_log.specs.declared.records.Progress.{Progress}
use Rattle.parity_log.specs.declared.records.Shape.{Shape}
use Rattle.parity_log.specs.LogState.{LogState, log_of, with_tables}
use Rattle.parity_log.specs.Making.{decided, made_with, making}
use Rattle.parity_log.specs.Paging.{pageout, free}
use Rattle.parity_log.specs.Reading.{pagein}
use Rattle.parity_log.specs.Rebuilding.{begin, counts, step}
use Rattle.parity_log.specs.Rule.{Rule, give, ask, note, ◌>>=◌}
use Rattle.parity_log.specs.Tables.{initial, within}
use Rattle.replay.specs.LastWritten.{LastWritten}
use Rattle.replay.specs.Listing.{run_entry, told_line, unread_entry}
use Rattle.replay.specs.Script.{below_names, lines_of, read_call, unread}
use Rattle.replay.specs.Transcript.{Item, entries, items_below, items_of, items_of_read}
use Rattle.replay.specs.declared.listing.Detail.{Detail}
use Rattle.replay.specs.declared.listing.Detail.TheVariants.{Byte}
use Rattle.replay.specs.declared.listing.Entry.{Entry}
use Rattle.replay.specs.declared.script.Call.{Call}
use Rattle.replay.specs.declared.script.Call.TheVariants.{Out, In, Free, Make, Fall, Back, Rebuild}
use Rattle.replay.proofs.WrittenLaws.{HasByte, MayHaveByte, read_byte}
use Rattle.session.specs.Calls.{Model, after_made, first_byte, groups_of, handed, model, rebuild_begun, run_model, stepping}
use Rattle.session.specs.ListingLaws.{unmade_over}
use Rattle.session.specs.Model.{Row, asked, brought_back, exec, felled, meanings}
use Rattle.session.specs.ReadsBack.{ReadsBack}
use Rattle.session.specs.ShapeLaws.{is_make}
use Rattle.session.proofs.BookFacts.{Made, Says, found_says, free_says, in_says, made_at_most, made_same, made_turn, moment_at, out_says, says_still}
use Rattle.session.proofs.RowSteps.{AllGood, GoodRow, brought_back_good, brought_back_reaches, exec_runs, felled_good, felled_reaches, row_laws}
use Rattle.session.proofs.ShapeFacts.{shape_laws}
use Rattle.session.proofs.Stores.{good_made}

exec_bind : {N A C : Type 0} (p : Rule N A) (f : A → Rule N C) (row : Row) → exec (p >>= f) row ≡ exec (f (exec p row).0) (exec p row).1
exec_bind (give a) f row = refl
exec_bind (ask s c k) f row = exec_bind (k (asked row s c).0) f (asked row s c).1
exec_bind (note n rule) f row = exec_bind rule f row

-- byte 0 of the page of a value
first_of_page : (v : ℕ) → v < 256 → slice_index (page_of v) 0 ≡ v
first_of_page v small = let m : (v + 0) % 256 ≡ v = omega arith in m

-- a call with its entry
abbrev entry_for : ℕ → Call → Model → Entry
entry_for number call m = run_entry number call (run_model m call).0

-- the steps of a rebuild
stepping_made : (es : List Entry) (k : ℕ) (v : LogState) (j : Progress) (row : Row) → Made es (model v row) → Made es (model v (exec (stepping k v j) row).1)
stepping_made es zero v j row made = made
stepping_made es (suc k) v j row made =
    let r = exec (step v j) row in
    let ran = exec_runs (length row) (step v j) row refl made.good in
    let next = made_turn es es (model v row) (model v r.1) made ran.2 (steps j r.0.said r.0.job ran.0) (record { servers = ran.3; goes = (ran.1, refl) }) (λ b says. found_says es b ran.0 says) in
    let P : Progress × Row → Type 0 = λ x. Made es (model v x.1) in
    subst P (sym (exec_bind (step v j) (λ s. stepping k v s.job) row)) (stepping_made es k v r.0.job r.1 next)

rebuild_made : (es : List Entry) (v : LogState) (row : Row) (groups : ℕ) (o : Result Progress Fault) → Made es (model v row) → Made es (model v (exec (rebuild_begun groups v o) row).1)
rebuild_made es v row groups (Err fault) made = made
rebuild_made es v row groups (Ok j) made =
    let P : Result Detail Fault × Row → Type 0 = λ x. Made es (model v x.1) in
    subst P (sym (exec_bind (stepping groups v j) (λ k. give (Ok (groups_of (counts k)))) row)) (stepping_made es groups v j row made)

-- one more entry that writes nothing
entry_more : (es : List Entry) (e : Entry) (m : Model) → ((k : Book) → Says es k → Says (es ++ (e ∷ [])) k) → Made es m → Made (es ++ (e ∷ [])) m
entry_more es e m still made = made_same es (es ++ (e ∷ [])) m m made made.good refl still

-- a call on a pager that was made
module _ (es : List Entry) (v : LogState) (row : Row) (made : Made es (model v row)) (number : ℕ) where
  abbrev m : Model
  m = model v row

  -- a server was made to fall or brought back, where the shape allows it
  handed_made : (moved : Result (Unit {0}) Fault × Row) (t : Turn) (e : Entry) → AllGood moved.1 → AtMost (moment_at m) t (moment_at (model v moved.1)) → ((k : Book) → noted k t ≡ k) → ((k : Book) → Says es k → Says (es ++ (e ∷ [])) k) → Made (es ++ (e ∷ [])) (model v (handed v.tables.shape row moved).1)
  handed_made moved t e good most stays still = by_shape (within v.tables.shape)
    where
      by_shape : (b : Bool) → Made (es ++ (e ∷ [])) (model v (cond b moved (Err (fault_of Log BadShape), row)).1)
      by_shape true = made_at_most es (es ++ (e ∷ [])) m (model v moved.1) made good t most stays still
      by_shape false = entry_more es e m still made

  made_next : (call : Call) → HasByte call → Made (es ++ (entry_for number call m ∷ [])) (run_model m call).1
  made_next (Out page value) small =
      let rule = pageout v page (page_of value) in
      let r = exec rule row in
      let ran = exec_runs (length row) rule row refl made.good in
      made_turn es _ m (model r.0.log r.1) made ran.2 (pages_out page (page_of value) r.0.said ran.0) (record { servers = ran.3; goes = ran.1 }) (λ k says. out_says es k ran.0 says number page value r.0.said small)
  made_next (In page) small =
      let rule = pagein v page page_size in
      let r = exec rule row in
      let ran = exec_runs (length row) rule row refl made.good in
      made_turn es _ m (model v r.1) made ran.2 (pages_in page page_size r.0 ran.0) (record { servers = ran.3; goes = (ran.1, refl) }) (λ k says. in_says es k ran.0 says number page r.0 (first_byte r.0))
  made_next (Free page) small =
      let rule = free v page in
      let r = exec rule row in
      let ran = exec_runs (length row) rule row refl made.good in
      made_turn es _ m (model r.0.log r.1) made ran.2 (frees page r.0.said ran.0) (record { servers = ran.3; goes = ran.1 }) (λ k says. free_says es k ran.0 says number page r.0.said)
  made_next (Make groups spares) small =
      let r = making v.tables (length row) (meanings row) groups spares in
      made_turn es _ m (model (with_tables v r.tables) row) made made.good (makes groups spares r.said) (record { servers = refl; goes = (refl, refl, refl) }) (λ k says. says_still es k (entry_for number (Make groups spares) m) (λ p. refl) says)
  made_next (Fall server) small =
      let moved = felled row server in
      let good = felled_good row server made.good in
      let most = falls_turn {B = GoodRow} (λ b. length b.0) (λ b. meanings b.0) (λ b i c a e. ⊥) row_laws (row, made.good) (moved.1, good) v server moved.0 (felled_reaches row server made.good) in
      handed_made moved (loses server) (entry_for number (Fall server) m) good most (λ k. refl) (λ k says. says_still es k (entry_for number (Fall server) m) (λ p. refl) says)
  made_next (Back server) small =
      let moved = brought_back row server in
      let good = brought_back_good row server made.good in
      let most = backs_turn {B = GoodRow} (λ b. length b.0) (λ b. meanings b.0) (λ b i c a e. ⊥) row_laws (row, made.good) (moved.1, good) v server moved.0 (brought_back_reaches row server made.good) in
      handed_made moved (returns server) (entry_for number (Back server) m) good most (λ k. refl) (λ k says. says_still es k (entry_for number (Back server) m) (λ p. refl) says)
  made_next (Rebuild server) small =
      entry_more es (entry_for number (Rebuild server) m) _ (λ k says. says_still es k (entry_for number (Rebuild server) m) (λ p. refl) says) (rebuild_made es v row v.tables.shape.groups (begin v.tables server) made)

  -- a page that is delivered has the byte that was last written
  delivered : (page value : ℕ) (a : Result (List ℕ) Fault) → a ≡ (exec (pagein v page page_size) row).0 → told_line number (first_byte a) ≡ Ok (Byte value) → LastWritten page value es
  delivered page value (Err f) is said = absurd cc
  delivered page value (Ok x) is said =
      let ran = exec_runs (length row) (pagein v page page_size) row refl made.good in
      let r = exec (pagein v page page_size) row in
      let P : Result (List ℕ) Fault → Type 0 = λ a. Happens (moment_at m) (pages_in page page_size a ran.0) (moment_at (model v r.1)) in
      let happens : P (Ok x) = subst P (sym is) (record { servers = ran.3; goes = (ran.1, refl) }) in
      let booked = (lawful made.shape made.start made.ready).delivered_as_booked made.turns (moment_at m) (moment_at (model v r.1)) page page_size x ran.0 made.run happens in
      let written = made.says page x booked in
      let first : slice_index x 0 ≡ value = cc in
      let byte = first_of_page written.0 written.1 in
      let same : written.0 ≡ value = sym byte ∙ ap (λ y. slice_index y 0) (sym written.2) ∙ first in
      let Q : ℕ → Type 0 = λ w. LastWritten page w es in
      subst Q same written.3

-- a pager that is not made yet
pub record Unmade (m : Model) : Type 0 where
  pub shape : within m.log.tables.shape ≡ false
  pub cleared : m.log.running ≡ zeros
  pub good : AllGood m.row

abbrev State : List Entry → Model → Type 0
State es m = Unmade m ⊎ Made es m

-- any other call than a make leaves it as it is
unmade_same : (es : List Entry) (m : Model) (call : Call) → Unmade m → is_make call ≡ false → State es (run_model m call).1
unmade_same es m call u other =
    let P : Result Detail Fault × Model → Type 0 = λ r. State es r.1 in
    subst P (sym (shape_laws.made_first m call u.shape other)) (inl u)

-- a make makes it, or leaves it as it is
unmade_made : (es : List Entry) (m : Model) (groups spares : ℕ) → Unmade m → State es (run_model m (Make groups spares)).1
unmade_made es m groups spares u = by_shape (decided m.log.tables (length m.row) (meanings m.row) groups spares) refl
  where
    by_shape : (o : Option Shape) → o ≡ decided m.log.tables (length m.row) (meanings m.row) groups spares → State es (after_made m (made_with m.log.tables o)).1
    by_shape None is = inl u
    by_shape (Some s) is =
        let b : GoodRow = (m.row, u.good) in
        let fits = decided_fitted {B = GoodRow} (λ c. length c.0) (λ c. meanings c.0) b m.log.tables groups spares s is in
        inr (record {
          shape = s;
          start = meanings m.row;
          turns = [];
          ready = record { shape = decided_within m.log.tables (length m.row) (meanings m.row) groups spares s is; sound = λ k le. row_laws.sound b k (omega (arith, fits.servers)); room = fits.sizes };
          run = λ i. record { log = log_of (initial s) (u.cleared i); servers = fits.servers i; row = meanings m.row };
          says = λ p x h. absurd cc;
          good = u.good;
        })

state_next : (es : List Entry) (m : Model) (number : ℕ) (call : Call) → HasByte call → State es m → State (es ++ (entry_for number call m ∷ [])) (run_model m call).1
state_next es m number call small (inr made) = inr (made_next es m.log m.row made number call small)
state_next es m number (Out page value) small (inl u) = unmade_same _ m (Out page value) u refl
state_next es m number (In page) small (inl u) = unmade_same _ m (In page) u refl
state_next es m number (Free page) small (inl u) = unmade_same _ m (Free page) u refl
state_next es m number (Make groups spares) small (inl u) = unmade_made _ m groups spares u
state_next es m number (Fall server) small (inl u) = unmade_same _ m (Fall server) u refl
state_next es m number (Back server) small (inl u) = unmade_same _ m (Back server) u refl
state_next es m number (Rebuild server) small (inl u) = unmade_same _ m (Rebuild server) u refl

-- of an entry
read_entry : (es : List Entry) (m : Model) (number line page value : ℕ) (call : Call) → State es m → entry_for number call m ≡ run_entry line (In page) (Ok (Byte value)) → LastWritten page value es
read_entry es m number line page value call state same =
    let called : Some call ≡ Some (In page) = ap (λ e. e.call) same in
    let is : call ≡ In page = cc in
    let said : told_line number (run_model m call).0 ≡ Ok (Byte value) = ap (λ e. e.answer) same in
    let P : Call → Type 0 = λ c. told_line number (run_model m c).0 ≡ Ok (Byte value) in
    by_state state (subst P is said)
  where
    by_state : State es m → told_line number (run_model m (In page)).0 ≡ Ok (Byte value) → LastWritten page value es
    by_state (inr made) said = delivered es m.log m.row made number page value _ refl said
    by_state (inl u) said =
        let no = ap (λ (r : Result Detail Fault × Model). told_line number r.0) (shape_laws.made_first m (In page) u.shape refl) in
        absurd cc

-- in these entries, behind others, every `in` that is done shows what was last written
abbrev Reads : List Entry → List Entry → Type 0
Reads es found =
    (above below : List Entry) (line page value : ℕ) → found ≡ above ++ (run_entry line (In page) (Ok (Byte value)) ∷ below) → LastWritten page value (es ++ above)

none_reads : (es : List Entry) → Reads es []
none_reads es [] below line page value same = absurd cc
none_reads es (a ∷ above) below line page value same = absurd cc

no_more : (above below : List Entry) (e : Entry) → [] ≡ above ++ (e ∷ below) → ⊥
no_more [] below e same = cc
no_more (a ∷ above) below e same = cc

unread_reads : (number : ℕ) (fault : Fault) (es : List Entry) → Reads es (unread_entry number fault ∷ [])
unread_reads number fault es [] below line page value same =
    let first : unread_entry number fault ≡ run_entry line (In page) (Ok (Byte value)) = cc in
    let called : None ≡ Some (In page) = ap (λ e. e.call) first in
    absurd cc
unread_reads number fault es (a ∷ above) below line page value same =
    let others : [] ≡ above ++ (run_entry line (In page) (Ok (Byte value)) ∷ below) = cc in
    absurd (no_more above below (run_entry line (In page) (Ok (Byte value))) others)

read_reads : (number : ℕ) (o : Option Call) (es : List Entry) (m : Model) (rest : Model → List (Item Model)) → MayHaveByte o → State es m
    → ((es' : List Entry) (w : Model) → State es' w → Reads es' (entries (rest w)))
    → Reads es (entries (items_of_read run_model number o m rest))
read_reads number None es m rest small state more above below line page value same =
    unread_reads number (on_line number unread) es above below line page value same
read_reads number (Some call) es m rest small state more [] below line page value same =
    let first : entry_for number call m ≡ run_entry line (In page) (Ok (Byte value)) = cc in
    subst (LastWritten page value) (sym (append-nil es)) (read_entry es m number line page value call state first)
read_reads number (Some call) es m rest small state more (a ∷ above) below line page value same =
    let e = entry_for number call m in
    let first : e ≡ a = cc in
    let others : entries (rest (run_model m call).1) ≡ above ++ (run_entry line (In page) (Ok (Byte value)) ∷ below) = cc in
    let P : List Entry → Type 0 = λ l. LastWritten page value l in
    let Q : Entry → Type 0 = λ f. LastWritten page value (es ++ (f ∷ above)) in
    subst Q first (subst P (append_assoc es (e ∷ []) above) (more (es ++ (e ∷ [])) (run_model m call).1 (state_next es m number call small state) above below line page value others))

lines_read : (number : ℕ) (lines : List (List ℕ)) (es : List Entry) (m : Model) → State es m → Reads es (entries (items_of run_model number lines m))
lines_read number [] es m state = none_reads es
lines_read number (line ∷ lines) es m state =
    read_reads number (read_call line) es m (λ w. items_of run_model (number + 1) lines w) (read_byte line) state (λ es' w s. lines_read (number + 1) lines es' w s)

below_reads : (below : Result (List (List ℕ)) Fault) (m : Model) → State [] m → Reads [] (entries (items_below run_model below m))
below_reads (Ok lines) m state = lines_read 2 lines [] m state
below_reads (Err fault) m state = unread_reads 1 fault []

all_good : (lent : List (List ℕ)) → AllGood (map (λ bytes. made_store bytes 0) lent)
all_good [] = tt
all_good (bytes ∷ lent) = (good_made bytes, all_good lent)

pub reads_back : ReadsBack
reads_back script lent above below line page value same =
    below_reads (below_names (lines_of script)) (unmade_over lent) (inl (record { shape = refl; cleared = refl; good = all_good lent })) above below line page value same
