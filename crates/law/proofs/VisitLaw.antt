-- A rebuild's visit to a group, and a step of a job, keep what holds; and what a visit restores.
use Rattle.std.proofs.Common.{◌≡◌, ℕ, ◌<◌, Bool, true, false, cond, ◌&&◌, eqb, ltb, ◌⊎◌, List, [], is_ok, Some, None as Nowhere, Ok as Done, Err, Option, Result, sym, refl, ◌∙◌, inl, inr, arith, ltb-false, ltb-true, eq-eqb, ne_eqb, eqb-true}
use Rattle.std.proofs.lemmas.Bool.{cases_eq}
use Rattle.page.specs.declared.faults.Fault.{Fault}
use Rattle.page.specs.declared.faults.Layer.TheVariants.{Log}
use Rattle.page.specs.declared.faults.Refusal.TheVariants.{Range, Shape as BadShape}
use Rattle.page.specs.Pages.{page_size}
use Rattle.page.specs.Refusals.{fault_of}
use Rattle.server.specs.Calls.{to_put, to_get}
use Rattle.server.specs.Meaning.{Held, nothing, holds}
use Rattle.parity_log.specs.declared.records.Progress.{Progress}
use Rattle.parity_log.specs.LogState.{LogState}
use Rattle.parity_log.specs.declared.records.Visit.{Visit}
use Rattle.parity_log.specs.declared.records.Visit.TheVariants.{Intact, Rebuilt, Failed}
use Rattle.parity_log.specs.Order.{Sound}
use Rattle.parity_log.specs.Reading.{Finding, Gathered, gather}
use Rattle.parity_log.specs.Rebuilding.{put_back, mend, visit, counted, Stepped, stepped, misfit, step_unless, step}
use Rattle.parity_log.specs.Rule.{give, ask, ◌>>=◌, Runs}
use Rattle.parity_log.specs.Tables.{within}
use Rattle.law.specs.Rows.{Row, slots}
use Rattle.law.specs.Missing.{members_on}
use Rattle.law.specs.Book.{Book}
use Rattle.law.specs.Invariant.{TwoMissing}
use Rattle.law.proofs.RuleLaws.{through}
use Rattle.law.proofs.ReadLaws.{Others, others_law, held_may}
use Rattle.law.proofs.Invariant.{Last, Inv, members_on_lem, shrunk_inv}
use Rattle.law.proofs.ChangeLaws.{mend_inv}
use Rattle.law.proofs.ReleaseLaws.{Ok}
use Rattle.law.proofs.Mode.{held_of, Mode, Whole}

holds_something : (x : List ℕ) (o : Held) → o ≡ holds x → o ≡ nothing → ⊥
holds_something x o p q = let z : ◌≡◌ {A = ℕ} 0 1 = cc in omega arith

module _ (M : Mode) where
  -- the server x can't lose in a call, and no other member of the group g may be missing
  pub record Alone (x g : ℕ) : Type 0 where
    pub keeps : M.lose x → ⊥
    pub others : (j : ℕ) → (j ≡ x → ⊥) → M.may g j → ⊥

  -- nothing is found lost, all holds, and where the server stands alone its member is held afterwards
  pub record Visits (v : LogState) (x g : ℕ) (k : Book) (l : Last) (ns : List (Finding × Row)) (e : Row) : Type 0 where
    pub quiet : ns ≡ []
    pub ok : Ok M v e k l
    pub held : Alone x g → x < members_on v.tables g → slots e g x ≡ nothing → ⊥

  module _ (v : LogState) (k : Book) (l : Last) (c : ℕ → ℕ → List ℕ) (sound : Sound v.tables) (x g : ℕ) (room : g < v.tables.shape.groups) (lt : x < members_on v.tables g) where
    -- all others were asked, and none refused or some did
    put_back_law : (b m : Row) (ns₁ : List (Finding × Row)) (r : Gathered) → Inv M v m k l c → Others M v g x (c g) b ns₁ r m → (ns : List (Finding × Row)) (a : Visit) (e : Row) → Runs M.steps (put_back x g r) m ns a e → Visits v x g k l ns e
    unfolding put_back
    put_back_law b m ns₁ r inv o ns a e run = elim (cases_eq r.missing 0) [ inl y ↦ all y (rw (eq-eqb r.missing 0 y) at run) | inr ne ↦ some ne (rw (ne_eqb r.missing 0 ne) at run) ]
      where
        all : r.missing ≡ 0 → Runs M.steps (ask x (to_put g r.sum) (λ d. give (cond (is_ok d) Rebuilt Failed))) m ns a e → Visits v x g k l ns e
        all y run =
            let is = (o.all y).0 in
            let whole : Whole r.sum = rw is ((inv.holds.group g).whole x) in
            let on = members_on_lem M v m c g sound inv.holds in
            let pu = M.puts m run.1 x g r.sum run.0 (omega arith) (omega (arith, inv.holds.groups)) whole inv.holds.fit run.2 in
            let q = run.3 in
            let none : (j : ℕ) → TwoMissing (members_on v.tables g) (slots m g) j → ⊥ = λ j two. elim (cases_eq j x) [ inl z ↦ (o.all y).1 two.other.0 (λ w. two.other.1 (w ∙ sym z)) two.other.2 | inr ne ↦ (o.all y).1 j ne two.own ] in
            record {
              quiet = q.0;
              ok = rw q.2 (_, mend_inv M v m run.1 k l c inv sound g x r.sum run.0 lt is pu none);
              held = λ alone _ z. elim pu.here [ inl w ↦ holds_something r.sum _ w (rw q.2 at z) | inr w ↦ alone.keeps w.0 ];
            }

        some : (r.missing ≡ 0 → ⊥) → Runs {N = Finding} M.steps (give Failed) m ns a e → Visits v x g k l ns e
        some ne (y, z, w) =
            let j = o.some ne in
            rw (w) (record { quiet = y; ok = (c, inv); held = λ alone _ _. alone.others j.0 j.1 (held_may _ _ _ ((inv.holds.group g).true_held j.0 j.2.0) j.2.1) })

    mend_law : (b : Row) (a : Result (List ℕ) Fault) → Inv M v b k l c → held_of a ≡ slots b g x → (ns : List (Finding × Row)) (r : Visit) (e : Row) → Runs M.steps (mend v x g a) b ns r e → Visits v x g k l ns e
    unfolding mend
    mend_law b (Done y) inv is ns r e (p, q, w) = rw w (record { quiet = p; ok = (c, inv); held = λ _ _ z. holds_something y _ (sym is) z })
    mend_law b (Err f) inv is ns r e run = through M.steps (gather v g x) (λ o. put_back x g o) b ns r e run λ o m ns₁ ns₂ first second notes.
        let on = members_on_lem M v b c g sound inv.holds in
        let part = others_law M v g x (c g) (omega (arith, inv.holds.groups)) on lt b ns₁ o m inv.holds.fit (inv.holds.group g) first in
        let back = put_back_law b m ns₁ o (shrunk_inv M v b m k l c part.shrunk part.fit inv) part ns₂ r e second in
        record { quiet = notes ∙ rw (part.quiet, back.quiet) refl; ok = back.ok; held = back.held }

  module _ (v : LogState) (b : Row) (k : Book) (l : Last) (c : ℕ → ℕ → List ℕ) (inv : Inv M v b k l c) (sound : Sound v.tables) where
    pub visit_law : (x g : ℕ) → g < v.tables.shape.groups → (ns : List (Finding × Row)) (r : Visit) (e : Row) → Runs M.steps (visit v x g) b ns r e → Visits v x g k l ns e
    unfolding visit
    visit_law x g room ns r e run = go (ltb x (members_on v.tables g)) refl run
      where
        go : (t : Bool) → ltb x (members_on v.tables g) ≡ t → Runs M.steps (cond t (ask x (to_get g page_size) (λ a. mend v x g a)) (give Intact)) b ns r e → Visits v x g k l ns e
        go true t run =
            let lt = ltb-true x (members_on v.tables g) t in
            let on = members_on_lem M v b c g sound inv.holds in
            let got = M.gets b run.1 x g run.0 (omega arith) (omega (arith, inv.holds.groups)) inv.holds.fit run.2 in
            mend_law v k l c sound x g room lt run.1 run.0 (shrunk_inv M v b run.1 k l c got.shrunk got.fit inv) got.is ns r e run.3
        go false t (p, q, w) = rw w (record { quiet = p; ok = (c, inv); held = λ _ lt _. let ge = ltb-false x (members_on v.tables g) t in omega arith })

    -- the job is given back as it was, or one group further after a visit to its group
    abbrev Moved : Progress → Progress → Row → Type 0
    Moved j i e = (i ≡ j) ⊎ ((r : Visit) × (i ≡ counted j r) × (Alone j.server j.group → j.server < members_on v.tables j.group → slots e j.group j.server ≡ nothing → ⊥))

    pub record Steps (j : Progress) (ns : List (Finding × Row)) (s : Stepped) (e : Row) : Type 0 where
      pub quiet : ns ≡ []
      pub ok : Ok M v e k l
      pub job : Moved j s.job e

    unless_law : (j : Progress) (o : Option Fault) → (o ≡ Nowhere → j.groups ≡ v.tables.shape.groups) → (ns : List (Finding × Row)) (s : Stepped) (e : Row) → Runs M.steps (step_unless o v j) b ns s e → Steps j ns s e
    unless_law j (Some f) fits ns s e (p, q, w) = rw (p, q, w) (record { quiet = refl; ok = (c, inv); job = inl refl })
    unless_law j Nowhere fits ns s e run = go (ltb j.group j.groups) refl run
      where
        go : (t : Bool) → ltb j.group j.groups ≡ t → Runs M.steps (cond t (visit v j.server j.group >>= λ r. give (stepped (Done tt) (counted j r))) (give (stepped (Done tt) j))) b ns s e → Steps j ns s e
        go false t (p, q, w) = rw (p, q, w) (record { quiet = refl; ok = (c, inv); job = inl refl })
        go true t run = through M.steps (visit v j.server j.group) (λ r. give (stepped (Done tt) (counted j r))) b ns s e run λ r m ns₁ ns₂ first q notes.
            let low = ltb-true j.group j.groups t in
            let same = fits refl in
            let one = visit_law j.server j.group (omega arith) ns₁ r m first in
            let quiet : ns ≡ [] = notes ∙ rw (one.quiet, q.0) refl in
            rw (q.1, q.2) (record { quiet = quiet; ok = one.ok; job = inr (r, refl, one.held) })

    misfit_none : (j : Progress) → misfit v.tables j ≡ Nowhere → j.groups ≡ v.tables.shape.groups
    misfit_none j = go (within v.tables.shape) (eqb j.servers v.tables.shape.servers) (eqb j.groups v.tables.shape.groups) refl
      where
        go : (x y z : Bool) → eqb j.groups v.tables.shape.groups ≡ z → cond x (cond (y && z) Nowhere (Some (fault_of Log Range))) (Some (fault_of Log BadShape)) ≡ Nowhere → j.groups ≡ v.tables.shape.groups
        go true true true z e = eqb-true _ _ z
        go true true false z e = let w : ◌≡◌ {A = ℕ} 0 1 = cc in absurd (omega arith)
        go true false y z e = let w : ◌≡◌ {A = ℕ} 0 1 = cc in absurd (omega arith)
        go false x y z e = let w : ◌≡◌ {A = ℕ} 0 1 = cc in absurd (omega arith)

    pub step_law : (j : Progress) (ns : List (Finding × Row)) (s : Stepped) (e : Row) → Runs M.steps (step v j) b ns s e → Steps j ns s e
    unfolding step
    step_law j = unless_law j (misfit v.tables j) (misfit_none j)
