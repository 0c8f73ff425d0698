-- A rebuild restores what the one failing server lost.
use Rattle.std.proofs.Common.{◌≡◌, ℕ, ◌+◌, ◌-◌, ◌<◌, ◌≤◌, Bool, true, false, cond, leb, List, [], ◌∷◌, Ok as Done, Err, Result, sym, refl, ap, ◌∙◌, inl, inr, arith}
use Rattle.std.proofs.lemmas.Bool.{cases_eq, cases_lt}
use Rattle.page.specs.declared.faults.Fault.{Fault}
use Rattle.page.specs.declared.faults.Layer.TheVariants.{Log}
use Rattle.page.specs.declared.faults.Refusal.TheVariants.{Range, Shape as BadShape}
use Rattle.page.specs.Refusals.{fault_of}
use Rattle.server.specs.Meaning.{Held, nothing, holds}
use Rattle.parity_log.specs.declared.records.Progress.{Progress}
use Rattle.parity_log.specs.declared.records.Tables.{Tables}
use Rattle.parity_log.specs.declared.records.Visit.{Visit}
use Rattle.parity_log.specs.declared.records.Visit.TheVariants.{Intact, Rebuilt as PutBack, Failed}
use Rattle.parity_log.specs.Order.{Sound}
use Rattle.parity_log.specs.Reading.{Finding}
use Rattle.parity_log.specs.Rebuilding.{begun, begin, counted, stepped}
use Rattle.parity_log.specs.Tables.{within}
use Rattle.law.specs.Rows.{Row, slots}
use Rattle.law.specs.Missing.{members_on, Missing}
use Rattle.law.specs.Book.{Book, latest}
use Rattle.law.specs.Law.{NothingMissing, Thread, ended, between, stepping, Rebuilt}
use Rattle.law.specs.Runs.{Moment, Turn, steps, Happens, Run, noted}
use Rattle.law.proofs.Mode.{Still}
use Rattle.law.proofs.ReadLaws.{held_may}
use Rattle.law.proofs.Invariant.{Last}
use Rattle.law.proofs.VisitLaw.{step_law}
use Rattle.law.proofs.RunLaws.{Setting, mode_of, Between, Calmly, calm_parts, quietly, turn_law}
use Rattle.law.proofs.SingleLaw.{Single}

-- a job one group further
counted_on : (j : Progress) (r : Visit) → ((counted j r).server ≡ j.server) × ((counted j r).group ≡ j.group + 1) × ((counted j r).groups ≡ j.groups)
counted_on j Intact = (refl, refl, refl)
counted_on j PutBack = (refl, refl, refl)
counted_on j Failed = (refl, refl, refl)

-- a job that was begun is at group 0, and has its pager's numbers
begun_at : (v : Tables) (x : ℕ) (j : Progress) → Done j ≡ begin v x → j ≡ begun v.shape x
begun_at v x j = go (within v.shape) (leb x v.shape.servers)
  where
    go : (s t : Bool) → Done j ≡ cond s (cond t (Done (begun v.shape x)) (Err (fault_of Log Range))) (Err (fault_of Log BadShape)) → j ≡ begun v.shape x
    go true true e = cc
    go true false e = let w : ◌≡◌ {A = ℕ} 0 1 = cc in absurd (omega arith)
    go false t e = let w : ◌≡◌ {A = ℕ} 0 1 = cc in absurd (omega arith)

-- only the pager's groups have members
member_below : (v : Tables) (g q : ℕ) → Sound v → q < members_on v g → g < v.shape.groups
member_below v g q sound lt = elim (cases_lt g v.shape.groups) [ inl low ↦ low | inr le ↦ let free = sound.beyond g le in let z : q < 0 = rw free at lt in absurd (omega arith) ]

module _ (n groups x : ℕ) where
  -- all servers keep their eras, and only of x, from the group d on, a member may be missing
  abbrev pub Mending : ℕ → Setting
  Mending d = record {
    servers = n;
    groups = groups;
    calm = λ k. Unit {0};
    may = λ g k. (k ≡ x) × (d ≤ g);
    may_lose = λ g k h. absurd (h tt);
    finds = ⊥;
    two_finds = λ g i k hi hk ne. ne (hk.0 ∙ sym hi.0);
  }

  still_further : (d g k : ℕ) (w : List ℕ) (o : Held) → (g ≡ d → k ≡ x → o ≡ nothing → ⊥) → Still ((k ≡ x) × (d ≤ g)) (holds w) o → Still ((k ≡ x) × (d + 1 ≤ g)) (holds w) o
  still_further d g k w o h (inl y) = inl y
  still_further d g k w o h (inr y) = elim (cases_eq g d) [ inl z ↦ absurd (h z y.0.0 y.1) | inr ne ↦ let le = y.0.1 in inr ((y.0.0, omega arith), y.1) ]

  -- one group more has its member
  further_on : (d : ℕ) (m : Moment) (k : Book) (l : Last) → Between (Mending d) m k l → (x < members_on m.log.tables d → slots m.row d x ≡ nothing → ⊥) → Between (Mending (d + 1)) m k l
  further_on d m k l at held =
      let inv = at.ok.1 in
      record {
        servers = at.servers;
        settled = at.settled;
        ok = (
          at.ok.0,
          record {
            holds = record {
              servers = inv.holds.servers;
              groups = inv.holds.groups;
              fit = λ j lt. inv.holds.fit j lt;
              group = λ g. let o = inv.holds.group g in record {
                kept_whole = o.kept_whole;
                whole = o.whole;
                balanced = o.balanced;
                true_held = λ j lt. still_further d g j _ _ (λ y z none. held (rw (← y, ← z) lt) (rw (← y, ← z) none)) (o.true_held j lt);
              };
            };
            pages = inv.pages;
          },
        );
      }

  -- a step of the job itself
  own_step : (j i : Progress) (a : Result (Unit {0}) Fault) (fs : List (Finding × Row)) (m o : Moment) (k : Book) (l : Last) → j.server ≡ x → Between (Mending j.group) m k l → Happens m (steps j a i fs) o → Calmly (Mending j.group) m.row o.row
      → (i.server ≡ x) × (i.groups ≡ j.groups) × Between (Mending i.group) o (noted k (steps j a i fs)) (λ q. latest q fs (l q))
  own_step j i a fs m o k l is at h eras =
      let S = Mending j.group in
      let end = turn_law S m k l at o (steps j a i fs) h eras in
      let one = step_law (mode_of S) m.log m.row k l at.ok.0 at.ok.1 at.settled.tables.sound j fs (stepped a i) o.row (quietly S m k l at _ fs _ o.row h.goes.0 eras) in
      elim one.job [
        | inl y ↦ rw y (is, refl, end)
        | inr y ↦
            let on = counted_on j y.0 in
            let server : i.server ≡ x = ap (λ p. p.server) y.1 ∙ on.0 ∙ is in
            let group : i.group ≡ j.group + 1 = ap (λ p. p.group) y.1 ∙ on.1 in
            let held : x < members_on o.log.tables j.group → slots o.row j.group x ≡ nothing → ⊥ = λ lt none.
            y.2 (record { keeps = λ f. f tt; others = λ q ne may. ne (may.0 ∙ sym is) }) (rw (is, ← h.goes.1) lt) (rw is none) in
            (server, ap (λ p. p.groups) y.1 ∙ on.2, rw group (further_on j.group o _ _ end held))
      ]

  -- at the end only groups from the job's place on can lack their member
  threaded : (ts : List Turn) (m o : Moment) (j i : Progress) (k : Book) (l : Last) → j.server ≡ x → Between (Mending j.group) m k l → Run m ts o → Thread j ts i → ((q : ℕ) → q < n → (o.row q).era ≤ (m.row q).era)
      → (i.groups ≡ j.groups) × ((g q : ℕ) → Missing o.log.tables o.row g q → (i.group ≤ g) × (g < groups))
  threaded [] m o j i k l is at run ended eras = (
    refl,
    λ g q miss.
        let miss' : Missing m.log.tables m.row g q = rw run at miss in
        ((held_may _ _ _ ((at.ok.1.holds.group g).true_held q miss'.0) miss'.1).1, omega (arith, member_below m.log.tables g q at.settled.tables.sound miss'.0, at.ok.1.holds.groups)),
  )
  threaded (t ∷ ts) m o j i k l is at run (between th) eras =
      let S = Mending j.group in
      let parts = calm_parts S m run.0 o t ts at.servers run.1 run.2 (λ q lt _. eras q lt) in
      threaded ts run.0 o j i _ _ is (turn_law S m k l at run.0 t run.1 parts.0) run.2 th (λ q lt. parts.1 q lt tt)
  threaded (t ∷ ts) m o j i k l is at run (stepping {k = j₁} {a} {fs} th) eras =
      let S = Mending j.group in
      let parts = calm_parts S m run.0 o (steps j a j₁ fs) ts at.servers run.1 run.2 (λ q lt _. eras q lt) in
      let next = own_step j j₁ a fs m run.0 k l is at run.1 parts.0 in
      let rest = threaded ts run.0 o j₁ i _ _ next.0 next.2 run.2 th (λ q lt. parts.1 q lt tt) in
      (rest.0 ∙ next.1, rest.1)

single_mending : (x g k : ℕ) (w : List ℕ) (o : Held) → Still ((k ≡ x → ⊥) → ⊥) (holds w) o → Still ((k ≡ x) × (0 ≤ g)) (holds w) o
single_mending x g k w o (inl y) = inl y
single_mending x g k w o (inr y) = elim (cases_eq k x) [ inl z ↦ inr ((z, omega arith), y.1) | inr ne ↦ absurd (y.0 ne) ]

-- where only the server x failed, and it is up again, its rebuild can begin
pub mending_begins : (n groups x : ℕ) (m : Moment) (k : Book) (l : Last) → Between (Single n groups x) m k l → (m.row x).up ≡ true → Between (Mending n m.log.tables.shape.groups x 0) m k l
mending_begins n groups x m k l at up =
    let inv = at.ok.1 in
    record {
      servers = at.servers;
      settled = at.settled;
      ok = (
        at.ok.0,
        record {
          holds = record {
            servers = inv.holds.servers;
            groups = omega arith;
            fit = λ j lt. let f = inv.holds.fit j lt in record {
              sound = f.sound;
              up = λ _. elim (cases_eq j x) [ inl y ↦ rw y up | inr ne ↦ f.up ne ];
              room = omega (arith, f.room, inv.holds.groups);
            };
            group = λ g. let o = inv.holds.group g in record { kept_whole = o.kept_whole; whole = o.whole; balanced = o.balanced; true_held = λ j lt. single_mending x g j _ _ (o.true_held j lt) };
          };
          pages = inv.pages;
        },
      );
    }

-- between the begin and the close of a job of x, while all other servers keep their eras
pub restores : (n groups x : ℕ) (m o : Moment) (k : Book) (l : Last) → Between (Single n groups x) m k l → Rebuilt x m o → ((q : ℕ) → q < n → (q ≡ x → ⊥) → (o.row q).era ≤ (m.row q).era) → NothingMissing o
restores n groups x m o k l at job eras g q miss =
    let is = begun_at m.log.tables x job.job job.began.goes.0 in
    let server : job.job.server ≡ x = ap (λ j. j.server) is in
    let group : job.job.group ≡ 0 = ap (λ j. j.group) is in
    let groups' : job.job.groups ≡ m.log.tables.shape.groups = ap (λ j. j.groups) is in
    let all : (q : ℕ) → q < n → (o.row q).era ≤ (m.row q).era = λ q lt. elim (cases_eq q x) [ inl y ↦ rw y (omega (arith, job.era)) | inr ne ↦ eras q lt ne ] in
    let begins = mending_begins n groups x m k l at job.up in
    let end = threaded n m.log.tables.shape.groups x job.turns m o job.job job.last k l server (rw group begins) job.run job.thread all in
    let left = end.1 g q miss in
    let seen : job.last.groups - job.last.group ≡ 0 = sym (ap (λ c. c.unvisited) job.ended.goes.0) ∙ job.visited in
    omega (arith, left.0, left.1, end.0)
