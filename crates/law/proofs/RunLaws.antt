-- Runs keep what holds, whichever of the servers may lose.
use Rattle.std.proofs.Common.{◌≡◌, ℕ, ◌<◌, ◌≤◌, true, List, [], ◌∷◌, Result, sym, refl, ap, ◌∙◌, inl, inr, arith}
use borrow.Author.Tests.{both_ways}
use Rattle.std.proofs.lemmas.Bool.{cases_eq}
use Rattle.page.specs.declared.faults.Fault.{Fault}
use Rattle.server.specs.Meaning.{Loss, Return}
use Rattle.parity_log.specs.LogState.{LogState, log_of}
use Rattle.parity_log.specs.Making.{made_as, making}
use Rattle.parity_log.specs.Order.{SettledLog}
use Rattle.parity_log.specs.Reading.{Finding}
use Rattle.parity_log.specs.Rule.{Rule, Runs}
use Rattle.parity_log.specs.Tables.{within}
use Rattle.law.specs.Rows.{Row, RowStep}
use Rattle.law.specs.Book.{Book, latest}
use Rattle.law.specs.Runs.{Moment, Turn, makes, pages_out, pages_in, frees, begins, steps, closes, loses, returns, Goes, Happens, Run, noted, book_from, findings, last_from}
use Rattle.law.proofs.Mode.{Still, loosely, Mode}
use Rattle.law.proofs.StepLaws.{Good, mode, quieten, runs_era}
use Rattle.law.proofs.Invariant.{Last, shrunk_inv}
use Rattle.law.proofs.ReleaseLaws.{Ok}
use Rattle.law.proofs.FreeLaw.{free_law}
use Rattle.law.proofs.PageinLaw.{pagein_law}
use Rattle.law.proofs.PageoutLaw.{pageout_law}
use Rattle.law.proofs.VisitLaw.{step_law}

-- No era falls.
goes_era : (m : Moment) (t : Turn) (v : LogState) (e : Row) → Goes m t v e → (k : ℕ) → k < m.servers → (m.row k).era ≤ (e k).era
goes_era m (makes g q a) v e h k lt = rw h.2 (omega arith)
goes_era m (pages_out p x a fs) v e h k lt = runs_era m.servers _ _ _ _ _ h k lt
goes_era m (pages_in p n a fs) v e h k lt = runs_era m.servers _ _ _ _ _ h.0 k lt
goes_era m (frees p a fs) v e h k lt = runs_era m.servers _ _ _ _ _ h k lt
goes_era m (begins s a) v e h k lt = rw h.2 (omega arith)
goes_era m (steps j a i fs) v e h k lt = runs_era m.servers _ _ _ _ _ h.0 k lt
goes_era m (closes j c) v e h k lt = rw h.2 (omega arith)
goes_era m (loses s) v e h k lt = elim (cases_eq k s) [ inl y ↦ rw y (omega (arith, h.1.era)) | inr ne ↦ rw (h.2 k ne) (omega arith) ]
goes_era m (returns s) v e h k lt = elim (cases_eq k s) [ inl y ↦ rw y h.1.era | inr ne ↦ rw (h.2 k ne) (omega arith) ]

pub turn_era : (m n : Moment) (t : Turn) → Happens m t n → (k : ℕ) → k < m.servers → (m.row k).era ≤ (n.row k).era
turn_era m n t h = goes_era m t n.log n.row h.goes

pub run_servers : (ts : List Turn) (m n : Moment) → Run m ts n → n.servers ≡ m.servers
run_servers [] m n h = ap (λ o. o.servers) h
run_servers (t ∷ ts) m n h = run_servers ts h.0 n h.2 ∙ h.1.servers

pub run_era : (ts : List Turn) (m n : Moment) → Run m ts n → (k : ℕ) → k < m.servers → (m.row k).era ≤ (n.row k).era
run_era [] m n h k lt = rw h (omega arith)
run_era (t ∷ ts) m n h k lt = omega (arith, turn_era m h.0 t h.1 k lt, run_era ts h.0 n h.2 k (omega (arith, h.1.servers)))

-- So many servers and groups, of which servers it is known that they keep their eras; which members, of group and server, may be missing; and what follows if two of a group may.
pub record Setting : Type 1 where
  pub servers : ℕ
  pub groups : ℕ
  pub calm : ℕ → Type 0
  pub may : ℕ → ℕ → Type 0
  pub may_lose : (g k : ℕ) → (calm k → ⊥) → may g k
  pub finds : Type 0
  pub two_finds : (g i k : ℕ) → may g i → may g k → (k ≡ i → ⊥) → finds

abbrev pub mode_of : Setting → Mode
mode_of S = mode S.servers S.calm S.groups S.may S.may_lose S.finds S.two_finds

-- a second make is refused and changes nothing
made_same : (v w : LogState) (n : ℕ) (row : Row) (g q : ℕ) (a : Result ℕ Fault) → within v.tables.shape ≡ true → making v.tables n row g q ≡ made_as a w.tables → w.running ≡ v.running → w ≡ v
made_same v w n row g q a made e same =
    let tables : w.tables ≡ v.tables = sym (ap (λ x. x.tables) e) ∙ rw made refl in
    λ i. log_of (tables i) (same i)

module _ (S : Setting) where
  abbrev M : Mode
  M = mode_of S

  -- what holds between two calls
  pub record Between (m : Moment) (k : Book) (l : Last) : Type 0 where
    pub servers : m.servers ≡ S.servers
    pub settled : SettledLog m.log
    pub ok : Ok M m.log m.row k l

  -- the calm servers have at the second moment the eras of the first
  abbrev pub Calmly : Row → Row → Type 0
  Calmly b e = (j : ℕ) → j < S.servers → S.calm j → (e j).era ≤ (b j).era

  -- over a turn and the turns after it
  pub calm_parts : (m n o : Moment) (t : Turn) (ts : List Turn) → m.servers ≡ S.servers → Happens m t n → Run n ts o → Calmly m.row o.row → Calmly m.row n.row × Calmly n.row o.row
  calm_parts m n o t ts same h run eras = (
    λ j lt y. omega (arith, eras j lt y, run_era ts n o run j (omega (arith, h.servers))),
    λ j lt y. omega (arith, eras j lt y, turn_era m n t h j (omega arith)),
  )

  -- one server changed between calls
  one_changed : (v : LogState) (b e : Row) (k : Book) (l : Last) (s : ℕ) → Ok M v b k l → s < S.servers → ((j : ℕ) → Still (S.calm s → ⊥) ((b s).held j) ((e s).held j)) → Good S.servers S.calm S.groups s (e s) → ((j : ℕ) → (j ≡ s → ⊥) → e j ≡ b j) → Ok M v e k l
  one_changed v b e k l s (c, inv) lt sh good others = (
    c,
    shrunk_inv M v b e k l c
        (λ j h. elim (cases_eq j s) [ inl y ↦ rw y (sh h) | inr ne ↦ inl (ap (λ m. m.held h) (others j ne)) ])
        (λ j low. elim (cases_eq j s) [ inl y ↦ rw y good | inr ne ↦ rw (others j ne) (inv.holds.fit j low) ]) inv,
  )

  loss_law : (v : LogState) (b e : Row) (k : Book) (l : Last) (s : ℕ) → Ok M v b k l → s < S.servers → Loss (b s) (e s) → ((j : ℕ) → (j ≡ s → ⊥) → e j ≡ b j) → Calmly b e → Ok M v e k l
  loss_law v b e k l s ok lt loss others eras =
      let lose : S.calm s → ⊥ = λ y. omega (arith, eras s lt y, loss.era) in
      one_changed v b e k l s ok lt (λ j. loosely _ _ _ lose (loss.slots j)) (record { sound = loss.sound; up = λ y. absurd (lose y); room = omega (arith, loss.size, (ok.1.holds.fit s lt).room) }) others

  return_law : (v : LogState) (b e : Row) (k : Book) (l : Last) (s : ℕ) → Ok M v b k l → s < S.servers → Return (b s) (e s) → ((j : ℕ) → (j ≡ s → ⊥) → e j ≡ b j) → Ok M v e k l
  return_law v b e k l s ok lt ret others =
      let was = ok.1.holds.fit s lt in
      one_changed v b e k l s ok lt (λ j. inr (λ y. both_ways _ ret.was (was.up y), ret.slots j)) (record {
        sound = record { down = λ f. absurd (both_ways _ f ret.is); past = λ j _. ret.slots j };
        up = λ _. ret.is;
        room = omega (arith, ret.size, was.room);
      }) others

  module _ (m : Moment) (k : Book) (l : Last) (at : Between m k l) where
    -- a rule's run over the moment's servers is one of quiet steps
    pub quietly : {A : Type 0} (r : Rule Finding A) (ns : List (Finding × Row)) (a : A) (e : Row) → Runs (RowStep m.servers) r m.row ns a e → Calmly m.row e → Runs M.steps r m.row ns a e
    quietly r ns a e run eras = quieten S.servers S.calm r m.row ns a e (rw at.servers at run) eras

    goes_law : (t : Turn) (v : LogState) (e : Row) → Goes m t v e → Calmly m.row e → SettledLog v × Ok M v e (noted k t) (λ q. latest q (findings t) (l q))
    goes_law (makes g q a) v e h eras = rw (made_same m.log v m.servers m.row g q a at.settled.tables.sound.shape h.0 h.1, h.2) (at.settled, at.ok)
    goes_law (pages_out p x a fs) v e h eras = let end = pageout_law M m.log m.row k l at.ok.0 p x at.ok.1 at.settled fs _ e (quietly _ fs _ e h eras) in (end.settled, end.ok)
    goes_law (pages_in p n a fs) v e h eras = rw h.1 (at.settled, (at.ok.0, (pagein_law M m.log m.row k l at.ok.0 p at.ok.1 at.settled.tables.sound n fs a e (quietly _ fs _ e h.0 eras)).inv))
    goes_law (frees p a fs) v e h eras = let end = (free_law M m.log m.row k l at.ok.0 p at.ok.1 at.settled fs _ e (quietly _ fs _ e h eras)).1 in (end.settled, end.ok)
    goes_law (begins s a) v e h eras = rw (h.1, h.2) (at.settled, at.ok)
    goes_law (steps j a i fs) v e h eras = let end = step_law M m.log m.row k l at.ok.0 at.ok.1 at.settled.tables.sound j fs _ e (quietly _ fs _ e h.0 eras) in rw (h.1, end.quiet) (at.settled, end.ok)
    goes_law (closes j c) v e h eras = rw (h.1, h.2) (at.settled, at.ok)
    goes_law (loses s) v e h eras = rw h.3 (at.settled, loss_law m.log m.row e k l s at.ok (omega (arith, h.0, at.servers)) h.1 h.2 eras)
    goes_law (returns s) v e h eras = rw h.3 (at.settled, return_law m.log m.row e k l s at.ok (omega (arith, h.0, at.servers)) h.1 h.2)

    pub turn_law : (n : Moment) (t : Turn) → Happens m t n → Calmly m.row n.row → Between n (noted k t) (λ q. latest q (findings t) (l q))
    turn_law n t h eras = let end = goes_law t n.log n.row h.goes eras in record { servers = h.servers ∙ at.servers; settled = end.0; ok = end.1 }

  pub run_law : (ts : List Turn) (m n : Moment) (k : Book) (l : Last) → Between m k l → Run m ts n → Calmly m.row n.row → Between n (book_from k ts) (λ q. last_from q (l q) ts)
  run_law [] m n k l at h eras = rw h at
  run_law (t ∷ ts) m n k l at h eras =
      let parts = calm_parts m h.0 n t ts at.servers h.1 h.2 eras in
      run_law ts h.0 n (noted k t) (λ q. latest q (findings t) (l q)) (turn_law m k l at h.0 t h.1 parts.0) h.2 parts.1
