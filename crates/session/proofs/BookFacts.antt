-- A script's calls are turns of a run, and the run's book has for each page what the entries have last written to it.
use Rattle.std.proofs.Common.{◌≡◌, ℕ, ◌<◌, Bool, true, false, cond, List, [], ◌∷◌, ◌++◌, length, Ok, Err, Result, ◌==◌, ◌⊎◌, refl, sym, subst, ⊎_elim, eqb-true}
use Rattle.page.specs.Pages.{page_of}
use Rattle.page.specs.Refusals.{same_refusal}
use Rattle.page.specs.declared.faults.Fault.{Fault}
use Rattle.page.specs.declared.faults.Refusal.TheVariants.{Lost}
use Rattle.law.specs.Book.{Book, Entry as Booked, found, has, heard, heard_page, lost, nothing, refused, written}
use Rattle.law.specs.Rows.{Row as Means}
use Rattle.law.specs.Runs.{Happens, Moment, Run, Turn, book, book_from, noted}
use Rattle.law.proofs.Lawful.{Ready, fresh}
use Rattle.parity_log.specs.declared.records.Shape.{Shape}
use Rattle.parity_log.specs.Reading.{Finding}
use Rattle.replay.specs.LastWritten.{LastWritten, replaces}
use Rattle.replay.specs.Listing.{run_entry}
use Rattle.replay.specs.declared.listing.Detail.{Detail}
use Rattle.replay.specs.declared.listing.Detail.TheVariants.{Nothing}
use Rattle.replay.specs.declared.listing.Entry.{Entry}
use Rattle.replay.specs.declared.script.Call.TheVariants.{Out, In, Free}
use Rattle.replay.proofs.WrittenLaws.{written_now, written_still}
use Rattle.session.specs.Calls.{Model, done}
use Rattle.session.specs.Model.{meanings}
use Rattle.session.proofs.RowSteps.{AllGood}

-- what is found lost or refused as lost is not what a book has
lost_has : (b : Bool) (e : Booked) (x : List ℕ) → cond b lost e ≡ has x → e ≡ has x
lost_has true e x h = absurd cc
lost_has false e x h = h

found_has : (fs : List (Finding × Means)) (k : Book) (p : ℕ) (x : List ℕ) → found fs k p ≡ has x → k p ≡ has x
found_has [] k p x h = h
found_has (f ∷ fs) k p x h = lost_has (f.0.page == p) (k p) x (found_has fs (written f.0.page lost k) p x h)

refused_has : (q : ℕ) (f : Fault) (k : Book) (p : ℕ) (x : List ℕ) → refused q f k p ≡ has x → k p ≡ has x
refused_has q f k p x h = by_test (same_refusal f.refusal Lost) h
  where
    by_test : (b : Bool) → cond b (written q lost k) k p ≡ has x → k p ≡ has x
    by_test true h = lost_has (q == p) (k p) x h
    by_test false h = h

-- what a book has for a page is the page of the value that these entries have last written to it
abbrev pub Says : List Entry → Book → Type 0
Says es k = (p : ℕ) (x : List ℕ) → k p ≡ has x → (v : ℕ) × (v < 256) × (x ≡ page_of v) × LastWritten p v es

-- a book that has no more, and an entry that writes nothing
says_less : (es : List Entry) (k k' : Book) → ((p : ℕ) (x : List ℕ) → k' p ≡ has x → k p ≡ has x) → Says es k → Says es k'
says_less es k k' less says p x h = says p x (less p x h)

pub says_still : (es : List Entry) (k : Book) (e : Entry) → ((p : ℕ) → replaces p e.call e.answer ≡ false) → Says es k → Says (es ++ (e ∷ [])) k
says_still es k e still says p x h = let s = says p x h in (s.0, s.1, s.2, written_still p s.0 es e (still p) s.3)

module _ (es : List Entry) (k : Book) (fs : List (Finding × Means)) (says : Says es k) (number page : ℕ) where
  pub out_says : (value : ℕ) (a : Result (Unit {0}) Fault) → value < 256 → Says (es ++ (run_entry number (Out page value) (done a) ∷ [])) (heard page (has (page_of value)) a (found fs k))
  out_says value (Ok u) small p x h = by_test (page == p) refl h
    where
      by_test : (b : Bool) → (page == p) ≡ b → cond b (has (page_of value)) (found fs k p) ≡ has x → (v : ℕ) × (v < 256) × (x ≡ page_of v) × LastWritten p v (es ++ (run_entry number (Out page value) (Ok Nothing) ∷ []))
      by_test true t h =
          let P : ℕ → Type 0 = λ q. LastWritten q value (es ++ (run_entry number (Out page value) (Ok Nothing) ∷ [])) in
          let is : x ≡ page_of value = cc in
          (value, small, is, subst P (eqb-true page p t) (written_now number page value es))
      by_test false t h = let s = says p x (found_has fs k p x h) in (s.0, s.1, s.2, written_still p s.0 es (run_entry number (Out page value) (Ok Nothing)) t s.3)
  out_says value (Err f) small p x h =
      says_still es k (run_entry number (Out page value) (done (Err f))) (λ q. refl) says p x (found_has fs k p x (refused_has page f (found fs k) p x h))

  pub free_says : (a : Result (Unit {0}) Fault) → Says (es ++ (run_entry number (Free page) (done a) ∷ [])) (heard page nothing a (found fs k))
  free_says (Ok u) p x h = by_test (page == p) refl h
    where
      by_test : (b : Bool) → (page == p) ≡ b → cond b nothing (found fs k p) ≡ has x → (v : ℕ) × (v < 256) × (x ≡ page_of v) × LastWritten p v (es ++ (run_entry number (Free page) (Ok Nothing) ∷ []))
      by_test true t h = absurd cc
      by_test false t h = let s = says p x (found_has fs k p x h) in (s.0, s.1, s.2, written_still p s.0 es (run_entry number (Free page) (Ok Nothing)) t s.3)
  free_says (Err f) p x h =
      says_still es k (run_entry number (Free page) (done (Err f))) (λ q. refl) says p x (found_has fs k p x (refused_has page f (found fs k) p x h))

  pub in_says : (a : Result (List ℕ) Fault) (answer : Result Detail Fault) → Says (es ++ (run_entry number (In page) answer ∷ [])) (heard_page page a (found fs k))
  in_says (Ok y) answer p x h = says_still es k (run_entry number (In page) answer) (λ q. refl) says p x (found_has fs k p x h)
  in_says (Err f) answer p x h = says_still es k (run_entry number (In page) answer) (λ q. refl) says p x (found_has fs k p x (refused_has page f (found fs k) p x h))

pub found_says : (es : List Entry) (k : Book) (fs : List (Finding × Means)) → Says es k → Says es (found fs k)
found_says es k fs says = says_less es k (found fs k) (found_has fs k) says

-- one turn more
run_more : (ts : List Turn) (m n o : Moment) (t : Turn) → Run m ts n → Happens n t o → Run m (ts ++ (t ∷ [])) o
run_more [] m n o t run h = (o, subst (λ z. Happens z t o) run h, refl)
run_more (u ∷ us) m n o t run h = (run.0, run.1, run_more us run.0 n o t run.2 h)

book_more : (ts : List Turn) (k : Book) (t : Turn) → book_from k (ts ++ (t ∷ [])) ≡ noted (book_from k ts) t
book_more [] k t = refl
book_more (u ∷ us) k t = book_more us (noted k u) t

abbrev pub moment_at : Model → Moment
moment_at m = record { log = m.log; servers = length m.row; row = meanings m.row }

-- a pager that was made, after calls with these entries
pub record Made (es : List Entry) (m : Model) : Type 0 where
  pub shape : Shape
  pub start : Means
  pub turns : List Turn
  pub ready : Ready shape start
  pub run : Run (fresh shape start) turns (moment_at m)
  pub says : Says es (book turns)
  pub good : AllGood m.row

module _ (es es' : List Entry) (m n : Model) (made : Made es m) (good : AllGood n.row) where
  pub made_turn : (t : Turn) → Happens (moment_at m) t (moment_at n) → ((k : Book) → Says es k → Says es' (noted k t)) → Made es' n
  made_turn t h says = record {
    shape = made.shape;
    start = made.start;
    turns = made.turns ++ (t ∷ []);
    ready = made.ready;
    run = run_more made.turns (fresh made.shape made.start) (moment_at m) (moment_at n) t made.run h;
    says = subst (λ (k : Book). Says es' k) (sym (book_more made.turns (λ _. nothing) t)) (says (book made.turns) made.says);
    good = good;
  }

  -- no turn at all
  pub made_same : moment_at n ≡ moment_at m → ((k : Book) → Says es k → Says es' k) → Made es' n
  made_same same says = record {
    shape = made.shape;
    start = made.start;
    turns = made.turns;
    ready = made.ready;
    run = subst (λ (o : Moment). Run (fresh made.shape made.start) made.turns o) (sym same) made.run;
    says = says (book made.turns) made.says;
    good = good;
  }

  -- this turn or none, with a book that stays
  pub made_at_most : (t : Turn) → (moment_at n ≡ moment_at m) ⊎ Happens (moment_at m) t (moment_at n) → ((k : Book) → noted k t ≡ k) → ((k : Book) → Says es k → Says es' k) → Made es' n
  made_at_most t most stays says =
      ⊎_elim (λ same. made_same same says) (λ h. made_turn t h (λ k s. subst (λ (b : Book). Says es' b) (sym (stays k)) (says k s))) most
