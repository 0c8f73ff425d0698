-- What a call leaves of its server, by what the server may lose; eras over a run.
use Rattle.std.proofs.Common.{◌≡◌, ℕ, ◌<◌, ◌≤◌, true, false, List, length, Ok, Err, Result, sym, refl, ap, ◌∙◌, inl, inr, arith}
use borrow.Author.Tests.{both_ways}
use Rattle.std.proofs.lemmas.Bool.{cases_eq, cases_Bool}
use Rattle.page.specs.declared.faults.Fault.{Fault}
use Rattle.page.specs.Pages.{page_size}
use Rattle.server.specs.Meaning.{Held, nothing, holds, Meaning, Sound}
use Rattle.server.specs.Calls.{Call, to_put, to_get, to_free, slot_of, Answer, Denied}
use Rattle.server.specs.Steps.{Fine, Down, Kept, Raised, Others, Fewer, Step}
use Rattle.parity_log.specs.Rule.{Rule, give, ask, note, Runs}
use Rattle.law.specs.Rows.{Row, RowStep}
use Rattle.law.proofs.Mode.{Still, loosely, held_of, Fit, Elsewhere, beside_still, Gets, Puts, Frees, Mode}

-- the ways of a call that is refused for neither its length nor its slot
data Way (m : Meaning) (c : Call) (a : Answer c) (n : Meaning) : Type 0 where
  down : m.up ≡ false → Down c a → n ≡ m → Way m c a n
  kept : n.up ≡ true → Others m n (slot_of c) → Kept c (m.held (slot_of c)) a (n.held (slot_of c)) → Way m c a n
  raised : m.era < n.era → Fewer m n (slot_of c) → Raised c (m.held (slot_of c)) a (n.held (slot_of c)) → Way m c a n

way : (m n : Meaning) (c : Call) (a : Answer c) → Fine m c → Step m c a n → Way m c a n
way m n c a f st = elim (cases_Bool m.up) [
  | inl u ↦ elim (cases_eq n.era m.era) [
    | inl e ↦ let k = st.kept f u e in kept k.0 k.1 k.2
    | inr ne ↦ let lt : m.era < n.era = omega (arith, st.era) in let r = st.raised f u lt in raised lt r.0 r.1
  ]
  | inr d ↦ let s = st.down f d in down d s.0 s.1
]

denied_holds_nothing : (a : Result (List ℕ) Fault) (s : ℕ) → Denied a s → held_of a ≡ nothing
denied_holds_nothing a s (inl d) = ap held_of d.2
denied_holds_nothing a s (inr d) = ap held_of d.2

-- a get answers what its slot holds afterwards, which is what it held, or nothing where L allows it
abbrev pub GetLeaves : Type 0 → Held → Result (List ℕ) Fault → Held → Type 0
GetLeaves L before a after = Still L before after × (held_of a ≡ after)

-- a put that is done leaves its page, and one that is refused, where L allows it, leaves nothing
abbrev pub PutLeaves : Type 0 → List ℕ → Result (Unit {0}) Fault → Held → Type 0
PutLeaves L p a after = Still L (holds p) after × (a ≡ Ok tt → after ≡ holds p) × ((f : Fault) → a ≡ Err f → after ≡ nothing)

-- a call on a server that may lose, L, where its era rises, and where it is down
module _ (L : Type 0) (m n : Meaning) (sound : Sound m) (rose : m.era < n.era → L) (fell : m.up ≡ false → L) where
  empty : m.up ≡ false → n ≡ m → (s : ℕ) → n.held s ≡ nothing
  empty u e s = ap (λ x. x.held s) e ∙ sound.down u s

  -- the slots that a call does not name
  pub others_still : (c : Call) (a : Answer c) → Fine m c → Step m c a n → (j : ℕ) → (j ≡ slot_of c → ⊥) → Still L (m.held j) (n.held j)
  others_still c a f st j ne = go (way m n c a f st)
    where
      go : Way m c a n → Still L (m.held j) (n.held j)
      go (down u d e) = inl (ap (λ x. x.held j) e)
      go (kept v o q) = inl (o j ne)
      go (raised r o q) = loosely L _ _ (rose r) (o j ne)

  pub get_still : (s : ℕ) (a : Result (List ℕ) Fault) → s < m.size → Step m (to_get s page_size) a n → GetLeaves L (m.held s) a (n.held s)
  get_still s a lt st = go (way m n (to_get s page_size) a (refl, lt) st)
    where
      at : (x y : Held) → Rattle.server.specs.Steps.Gets x a s → y ≡ x → GetLeaves L x a y
      at nothing y g e = (inl e, denied_holds_nothing a s g ∙ sym e)
      at (holds p) y g e = (inl e, ap held_of g ∙ sym e)

      go : Way m (to_get s page_size) a n → GetLeaves L (m.held s) a (n.held s)
      go (down u d e) = (inl (ap (λ x. x.held s) e), denied_holds_nothing a s d ∙ sym (empty u e s))
      go (kept v o q) = at (m.held s) (n.held s) q.0 q.1
      go (raised r o (inl q)) = (inl (q.3 ∙ sym q.1), ap held_of q.2 ∙ sym q.3)
      go (raised r o (inr q)) = (inr (rose r, q.1), denied_holds_nothing a s q.0 ∙ sym q.1)

  pub put_still : (s : ℕ) (p : List ℕ) (a : Result (Unit {0}) Fault) → s < m.size → length p ≡ page_size → Step m (to_put s p) a n
      → PutLeaves L p a (n.held s)
  put_still s p a lt long st = go (way m n (to_put s p) a (long, lt) st)
    where
      taken : a ≡ Ok tt → n.held s ≡ holds p → PutLeaves L p a (n.held s)
      taken y e = (inl e, λ _. e, λ f z. cc)

      left : (f : Fault) → a ≡ Err f → L → n.held s ≡ nothing → PutLeaves L p a (n.held s)
      left f y l e = (inr (l, e), λ z. cc, λ f z. e)

      go : Way m (to_put s p) a n → PutLeaves L p a (n.held s)
      go (down u d e) = left _ d.2 (fell u) (empty u e s)
      go (kept v o q) = taken q.0 q.1
      go (raised r o (inl q)) = taken q.0 q.1
      go (raised r o (inr q)) = left _ q.0.2 (rose r) q.1

  pub free_empties : (s : ℕ) (a : Result (Unit {0}) Fault) → s < m.size → Step m (to_free s) a n → n.held s ≡ nothing
  free_empties s a lt st = go (way m n (to_free s) a (refl, lt) st)
    where
      go : Way m (to_free s) a n → n.held s ≡ nothing
      go (down u d e) = empty u e s
      go (kept v o q) = q.1
      go (raised r o q) = q.1

-- a server that keeps its era stays up
pub stays_up : (m n : Meaning) (c : Call) (a : Answer c) → Fine m c → Step m c a n → n.era ≤ m.era → m.up ≡ true → n.up ≡ true
stays_up m n c a f st le u = (st.kept f u (omega (arith, st.era))).0

module _ (n : ℕ) where
  row_era : (b e : Row) (s : ℕ) (c : Call) (a : Answer c) → RowStep n b s c a e → (k : ℕ) → k < n → (b k).era ≤ (e k).era
  row_era b e s c a st k lt = elim (cases_eq k s) [ inl y ↦ rw y (st.one (omega arith)).era | inr ne ↦ rw (st.others k ne) (omega arith) ]

  -- no era falls, whatever a rule asks
  pub runs_era : {N A : Type 0} (r : Rule N A) (b : Row) (ns : List (N × Row)) (x : A) (e : Row) → Runs (RowStep n) r b ns x e → (k : ℕ) → k < n → (b k).era ≤ (e k).era
  runs_era (give a) b ns x e run k lt = rw run.2 (omega arith)
  runs_era (ask s c f) b ns x e run k lt = omega (arith, row_era b run.1 s c run.0 run.2 k lt, runs_era (f run.0) run.1 ns x e run.3 k lt)
  runs_era (note y r) b ns x e run k lt = runs_era r b run.0 x e run.2 k lt

  module _ (calm : ℕ → Type 0) where
    -- a step in which the calm servers keep their eras
    pub record Quiet (b : Row) (s : ℕ) (c : Call) (a : Answer c) (e : Row) : Type 0 where
      pub step : RowStep n b s c a e
      pub eras : (k : ℕ) → k < n → calm k → (e k).era ≤ (b k).era

    -- a run at whose end the calm servers have the eras of its beginning is a run of quiet steps
    pub quieten : {N A : Type 0} (r : Rule N A) (b : Row) (ns : List (N × Row)) (x : A) (e : Row) → Runs (RowStep n) r b ns x e → ((k : ℕ) → k < n → calm k → (e k).era ≤ (b k).era) → Runs Quiet r b ns x e
    quieten (give a) b ns x e run h = run
    quieten (ask s c f) b ns x e run h = (
      run.0,
      run.1,
      record { step = run.2; eras = λ k lt y. omega (arith, h k lt y, runs_era (f run.0) run.1 ns x e run.3 k lt) },
      quieten (f run.0) run.1 ns x e run.3 (λ k lt y. omega (arith, h k lt y, row_era b run.1 s c run.0 run.2 k lt)),
    )
    quieten (note y r) b ns x e run h = (run.0, run.1, quieten r b run.0 x e run.2 h)

    abbrev pub lose : ℕ → Type 0
    lose k = calm k → ⊥

    module _ (groups : ℕ) where
      -- a server with a slot for every group, which is up if it is calm
      pub record Good (k : ℕ) (m : Meaning) : Type 0 where
        pub sound : Sound m
        pub up : calm k → m.up ≡ true
        pub room : groups ≤ m.size

      module _ (b e : Row) (k : ℕ) (c : Call) (a : Answer c) (lt : k < n) (fine : Fine (b k) c) (h : Fit n Good b) (st : Quiet b k c a e) where
        rose : (b k).era < (e k).era → lose k
        rose r y = omega (arith, st.eras k lt y)

        fell : (b k).up ≡ false → lose k
        fell u y = both_ways (b k).up u ((h k lt).up y)

        fit_after : Fit n Good e
        fit_after j l = elim (cases_eq j k) [
          | inl y ↦ let one = st.step.one lt in rw y (record {
            sound = st.step.sound lt (h k lt).sound;
            up = λ z. stays_up (b k) (e k) c a fine one (st.eras k lt z) ((h k lt).up z);
            room = omega (arith, one.size, (h k lt).room);
          })
          | inr ne ↦ rw (st.step.others j ne) (h j l)
        ]

        around : Elsewhere lose b e (slot_of c)
        around s ne j = elim (cases_eq j k) [
          | inl y ↦ rw y (others_still (lose k) (b k) (e k) (h k lt).sound rose fell c a fine (st.step.one lt) s (λ z. ne (sym z)))
          | inr d ↦ beside_still (lose j) b e k st.step.others j d s
        ]

      module _ (b e : Row) (k g : ℕ) (lt : k < n) (in' : g < groups) (h : Fit n Good b) where
        room_for : g < (b k).size
        room_for = omega (arith, (h k lt).room)

        pub quiet_gets : (a : Result (List ℕ) Fault) → Quiet b k (to_get g page_size) a e → Gets n lose Good b e k g a
        quiet_gets a st =
            let c = to_get g page_size in
            let f : Fine (b k) c = (refl, room_for) in
            let r = get_still (lose k) (b k) (e k) (h k lt).sound (rose b e k c a lt f h st) (fell b e k c a lt f h st) g a room_for (st.step.one lt) in
            record {
              fit = fit_after b e k c a lt f h st;
              others = st.step.others;
              shrunk = λ j s. elim (cases_eq g s) [
                | inl y ↦ rw (← y) (elim (cases_eq j k) [ inl z ↦ rw z r.0 | inr d ↦ beside_still (lose j) b e k st.step.others j d g ])
                | inr ne ↦ around b e k c a lt f h st s ne j
              ];
              is = r.1;
            }

        pub quiet_puts : (p : List ℕ) (a : Result (Unit {0}) Fault) → length p ≡ page_size → Quiet b k (to_put g p) a e → Puts n lose Good b e k g p a
        quiet_puts p a long st =
            let c = to_put g p in
            let f : Fine (b k) c = (long, room_for) in
            let r = put_still (lose k) (b k) (e k) (h k lt).sound (rose b e k c a lt f h st) (fell b e k c a lt f h st) g p a room_for long (st.step.one lt) in
            record { fit = fit_after b e k c a lt f h st; others = st.step.others; elsewhere = around b e k c a lt f h st; here = r.0; done = r.1; refused = r.2 }

        pub quiet_frees : (a : Result (Unit {0}) Fault) → Quiet b k (to_free g) a e → Frees n lose Good b e k g
        quiet_frees a st =
            let c = to_free g in
            let f : Fine (b k) c = (refl, room_for) in
            let r = free_empties (lose k) (b k) (e k) (h k lt).sound (rose b e k c a lt f h st) (fell b e k c a lt f h st) g a room_for (st.step.one lt) in
            record { fit = fit_after b e k c a lt f h st; others = st.step.others; elsewhere = around b e k c a lt f h st; here = r }

      -- the calls on n servers with a slot for each group, of which the calm ones keep their eras
      abbrev pub mode : (may : ℕ → ℕ → Type 0) → ((g k : ℕ) → lose k → may g k) → (finds : Type 0) → ((g i k : ℕ) → may g i → may g k → (k ≡ i → ⊥) → finds) → Mode
      mode may may_lose finds two_finds = record {
        servers = n;
        groups = groups;
        lose = lose;
        good = Good;
        steps = Quiet;
        gets = λ b e k g a lt in' h st. quiet_gets b e k g lt in' h a st;
        puts = λ b e k g p a lt in' long h st. quiet_puts b e k g lt in' h p a long st;
        frees = λ b e k g a lt in' h st. quiet_frees b e k g lt in' h a st;
        may = may;
        may_lose = may_lose;
        finds = finds;
        two_finds = two_finds;
      }
