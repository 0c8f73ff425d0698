-- Where no two members of a group can be missing, no page becomes lost.
use Rattle.std.proofs.Common.{◌≡◌, ℕ, ◌⊎◌, List, [], ◌∷◌, ◌++◌, Ok as Done, Err, Result, sym, ap, ◌∙◌, inl, inr, arith}
use Rattle.std.proofs.lemmas.Bool.{cases_eq, cases_Bool}
use Rattle.page.specs.declared.faults.Fault.{Fault}
use Rattle.page.specs.declared.faults.Refusal.TheVariants.{Lost}
use Rattle.page.specs.Refusals.{same_refusal}
use Rattle.parity_log.specs.LogState.{LogState}
use Rattle.parity_log.specs.Reading.{Finding}
use Rattle.law.specs.Rows.{Row}
use Rattle.law.specs.Book.{Entry, has, nothing, lost, Book, written, found, heard, heard_page, refused, latest}
use Rattle.law.specs.Law.{PagedOut}
use Rattle.law.specs.Runs.{Moment, Turn, makes, pages_out, pages_in, frees, begins, steps, closes, loses, returns, Goes, Run, noted, book_from}
use Rattle.law.proofs.FaultLaws.{as_lost}
use Rattle.law.proofs.Invariant.{Last, written_here, written_there}
use Rattle.law.proofs.FreeLaw.{NotLost, News, free_law}
use Rattle.law.proofs.PageinLaw.{Answered, pagein_law}
use Rattle.law.proofs.PageoutLaw.{pageout_law}
use Rattle.law.proofs.VisitLaw.{step_law}
use Rattle.law.proofs.RunLaws.{Setting, mode_of, Between, Calmly, calm_parts, quietly, turn_law}

abbrev pub Unlost : Book → ℕ → Type 0
Unlost k p = k p ≡ lost → ⊥

pub has_unlost : (x : List ℕ) → has x ≡ lost → ⊥
has_unlost x y = let z : ◌≡◌ {A = ℕ} 0 1 = cc in omega arith

nothing_unlost : nothing ≡ lost → ⊥
nothing_unlost y = let z : ◌≡◌ {A = ℕ} 0 1 = cc in omega arith

written_unlost : (k : Book) (q : ℕ) (e : Entry) (p : ℕ) → (q ≡ p → e ≡ lost → ⊥) → Unlost k p → Unlost (written q e k) p
written_unlost k q e p he hk z = elim (cases_eq q p) [ inl y ↦ he y (sym (written_here q e k) ∙ ap (written q e k) y ∙ z) | inr ne ↦ hk (sym (written_there q p e k ne) ∙ z) ]

-- a refusal that is as lost only of a page that was lost already
refused_unlost : (k : Book) (q p : ℕ) (f : Fault) → (f.refusal ≡ Lost → q ≡ p → ⊥) → Unlost k p → Unlost (refused q f k) p
refused_unlost k q p f never hk = elim (cases_Bool (same_refusal f.refusal Lost)) [
  | inl y ↦ rw y (written_unlost k q lost p (λ z _. never (as_lost _ y) z) hk)
  | inr y ↦ rw y hk
]

heard_unlost : (a : Result (Unit {0}) Fault) (k : Book) (q p : ℕ) (e : Entry) → NotLost a → (e ≡ lost → ⊥) → Unlost k p → Unlost (heard q e a k) p
heard_unlost (Done x) k q p e kind he hk = written_unlost k q e p (λ _. he) hk
heard_unlost (Err f) k q p e kind he hk = refused_unlost k q p f (λ y _. kind y) hk

module _ (S : Setting) (none : S.finds → ⊥) where
  news_unlost : (a : Result (Unit {0}) Fault) (ns : List (Finding × Row)) (k : Book) (q p : ℕ) (e : Entry) → News (mode_of S) a ns → (e ≡ lost → ⊥) → Unlost k p → Unlost (heard q e a (found ns k)) p
  news_unlost a ns k q p e (inl y) he hk = rw y.0 (heard_unlost a k q p e y.1 he hk)
  news_unlost a ns k q p e (inr y) he hk = absurd (none y)

  pagein_unlost : (a : Result (List ℕ) Fault) (ns : List (Finding × Row)) (k : Book) (l : Last) (q p : ℕ) → (ns ≡ []) ⊎ S.finds → Answered (mode_of S) q k l a → Unlost k p → Unlost (heard_page q a (found ns k)) p
  pagein_unlost a ns k l q p (inr y) said hk = absurd (none y)
  pagein_unlost (Done x) ns k l q p (inl y) said hk = rw y hk
  pagein_unlost (Err f) ns k l q p (inl y) said hk = rw y (refused_unlost k q p f (λ is same. elim (said.0 is).4 [ inl z ↦ hk (ap k (sym same) ∙ z) | inr z ↦ none z ]) hk)

  module _ (m : Moment) (k : Book) (l : Last) (at : Between S m k l) where
    pub goes_unlost : (t : Turn) (v : LogState) (e : Row) → Goes m t v e → Calmly S m.row e → (p : ℕ) → Unlost k p → Unlost (noted k t) p
    goes_unlost (makes g q a) v e h eras p hk = hk
    goes_unlost (pages_out q x a fs) v e h eras p hk = news_unlost a fs k q p (has x) (pageout_law (mode_of S) m.log m.row k l at.ok.0 q x at.ok.1 at.settled fs _ e (quietly S m k l at _ fs _ e h eras)).news (has_unlost x) hk
    goes_unlost (pages_in q n a fs) v e h eras p hk =
        let end = pagein_law (mode_of S) m.log m.row k l at.ok.0 q at.ok.1 at.settled.tables.sound n fs a e (quietly S m k l at _ fs _ e h.0 eras) in
        pagein_unlost a fs k (λ x. latest x fs (l x)) q p end.news end.said hk
    goes_unlost (frees q a fs) v e h eras p hk = news_unlost a fs k q p nothing (free_law (mode_of S) m.log m.row k l at.ok.0 q at.ok.1 at.settled fs _ e (quietly S m k l at _ fs _ e h eras)).1.news nothing_unlost hk
    goes_unlost (begins s a) v e h eras p hk = hk
    goes_unlost (steps j a i fs) v e h eras p hk = rw (step_law (mode_of S) m.log m.row k l at.ok.0 at.ok.1 at.settled.tables.sound j fs _ e (quietly S m k l at _ fs _ e h.0 eras)).quiet hk
    goes_unlost (closes j c) v e h eras p hk = hk
    goes_unlost (loses s) v e h eras p hk = hk
    goes_unlost (returns s) v e h eras p hk = hk

  -- a page that is not lost stays so
  pub run_unlost : (ts : List Turn) (m n : Moment) (k : Book) (l : Last) → Between S m k l → Run m ts n → Calmly S m.row n.row → (p : ℕ) → Unlost k p → Unlost (book_from k ts) p
  run_unlost [] m n k l at h eras p hk = hk
  run_unlost (t ∷ ts) m n k l at h eras p hk =
      let parts = calm_parts S m h.0 n t ts at.servers h.1 h.2 eras in
      run_unlost ts h.0 n (noted k t) _ (turn_law S m k l at h.0 t h.1 parts.0) h.2 parts.1 p (goes_unlost m k l at t h.0.log h.0.row h.1.goes parts.0 p hk)

  -- and so does one that was paged out
  out_unlost : (p : ℕ) (x : List ℕ) (fs : List (Finding × Row)) (after before : List Turn) (m n : Moment) (k : Book) (l : Last) → Between S m k l → Run m (before ++ (pages_out p x (Done tt) fs ∷ after)) n → Calmly S m.row n.row → Unlost (book_from k (before ++ (pages_out p x (Done tt) fs ∷ after))) p
  out_unlost p x fs after [] m n k l at h eras =
      let t = pages_out p x (Done tt) fs in
      let parts = calm_parts S m h.0 n t after at.servers h.1 h.2 eras in
      run_unlost after h.0 n (noted k t) _ (turn_law S m k l at h.0 t h.1 parts.0) h.2 parts.1 p (λ z. has_unlost x (sym (written_here p (has x) (found fs k)) ∙ z))
  out_unlost p x fs after (t ∷ ts) m n k l at h eras =
      let parts = calm_parts S m h.0 n t (ts ++ (pages_out p x (Done tt) fs ∷ after)) at.servers h.1 h.2 eras in
      out_unlost p x fs after ts h.0 n (noted k t) _ (turn_law S m k l at h.0 t h.1 parts.0) h.2 parts.1

  pub since_unlost : (p : ℕ) (ts : List Turn) (m n : Moment) (k : Book) (l : Last) → Between S m k l → Run m ts n → Calmly S m.row n.row → PagedOut p ts → Unlost (book_from k ts) p
  since_unlost p ts m n k l at h eras (before, x, fs, after, is) = rw is (out_unlost p x fs after before m n k l at (rw is at h) eras)
