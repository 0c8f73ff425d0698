-- The page of a pageout placed in the open group, its old group released, a full group closed, and a refused put judged.
use Rattle.std.proofs.Common.{◌≡◌, ℕ, ◌+◌, ◌-◌, ◌<◌, Bool, true, false, cond, eqb, List, [], ◌∷◌, get_or, is_ok, Some, None, Ok as Done, Err, Result, refl, ap, ◌∙◌, inl, inr, arith, eq-eqb, ne_eqb, eqb-true}
use Rattle.std.proofs.lemmas.Bool.{cond_both}
use Rattle.page.specs.declared.faults.Fault.{Fault}
use Rattle.page.specs.Pages.{zeros}
use Rattle.server.specs.Meaning.{nothing}
use Rattle.server.specs.Calls.{to_put}
use Rattle.parity_log.specs.declared.records.PageState.TheVariants.{NotOut, Out, Lost}
use Rattle.parity_log.specs.declared.records.GroupState.TheVariants.{Open}
use Rattle.parity_log.specs.declared.records.Tables.{Tables}
use Rattle.parity_log.specs.LogState.{LogState, log_of, with_tables}
use Rattle.parity_log.specs.Tables.{capacity, state_of, page_state, group_of, with_page}
use Rattle.parity_log.specs.Faults.{lost_page}
use Rattle.parity_log.specs.Order.{Sound, SettledLog, Leaving}
use Rattle.parity_log.specs.Paging.{Told, told, placed_log, place, release_old, shut, close_full, closed_full, closed_log, judged, ending}
use Rattle.parity_log.specs.Reading.{Finding, gather, Reading, found as gives, missed, restored}
use Rattle.parity_log.specs.Rule.{give, ask, ◌>>=◌, Runs}
use Rattle.parity_log.proofs.EntryLaws.{entry_now}
use Rattle.parity_log.proofs.Keeping.{place_leaves, release_settles, release_open, release_same, close_settles, lose_leaves}
use Rattle.parity_log.proofs.SoundLaws.{page_room, page_below, open_below}
use Rattle.law.specs.Rows.{Row, slots}
use Rattle.law.specs.Book.{has, lost, Book, written}
use Rattle.law.specs.Invariant.{Right}
use Rattle.law.proofs.RuleLaws.{through}
use Rattle.law.proofs.ReadLaws.{ReadOk, others_law, restored_ok, two_seen}
use Rattle.law.proofs.Invariant.{Last, written_here, written_there, Inv, members_on_lem, shrunk_inv}
use Rattle.law.proofs.ChangeLaws.{lose_inv, place_inv, close_inv}
use Rattle.law.proofs.ReleaseLaws.{Ok, old_law}
use Rattle.law.proofs.FreeLaw.{sound_nowhere, Ended}
use Rattle.law.proofs.Mode.{Mode, Whole}

not_ok : (a : Result (Unit {0}) Fault) → is_ok a ≡ false → (f : Fault) × (a ≡ Err f)
not_ok (Done x) e = let z : ◌≡◌ {A = ℕ} 0 1 = cc in absurd (omega arith)
not_ok (Err f) e = (f, refl)

closed_pages : (v : Tables) (g : ℕ) → (closed_full v g).pages ≡ v.pages
closed_pages v g = cond_both (eqb v.filled v.shape.servers) (shut v g) v (λ w. w.pages ≡ v.pages) (λ _. refl) (λ _. refl)

module _ (M : Mode) where
  -- a part of a call that finds nothing lost and leads to the tables u, in which at most the slot g of the server s is filled
  pub record Closes (u : LogState) (g s : ℕ) (b : Row) (k : Book) (l : Last) (ns : List (Finding × Row)) (w : LogState) (e : Row) : Type 0 where
    pub quiet : ns ≡ []
    pub is : w ≡ u
    pub empty : (j : ℕ) → (j ≡ s → ⊥) → slots b g j ≡ nothing → slots e g j ≡ nothing
    pub ok : Ok M w e k l

  pub close_law : (v : LogState) (b : Row) (k : Book) (l : Last) (c : ℕ → ℕ → List ℕ) → Inv M v b k l c → Sound v.tables → (g : ℕ) → state_of v.tables g ≡ Open → (ns : List (Finding × Row)) (w : LogState) (e : Row)
      → Runs M.steps (close_full v g) b ns w e → Closes (closed_log v g) g v.tables.shape.servers b k l ns w e
  unfolding close_full
  close_law v b k l c inv sound g now ns w e run = go (eqb v.tables.filled v.tables.shape.servers) refl run
    where
      go : (t : Bool) → eqb v.tables.filled v.tables.shape.servers ≡ t → Runs M.steps (cond t (ask v.tables.shape.servers (to_put g v.running) (λ _. give (log_of (shut v.tables g) zeros))) (give v)) b ns w e
          → Closes (log_of (cond t (shut v.tables g) v.tables) (cond t zeros v.running)) g v.tables.shape.servers b k l ns w e
      go true t run =
          let whole : Whole v.running = rw now at (inv.holds.group g).kept_whole in
          let pu = M.puts b run.1 v.tables.shape.servers g v.running run.0 inv.holds.servers (omega (arith, open_below v.tables sound g now, inv.holds.groups)) whole inv.holds.fit run.2 in
          let q = run.3 in
          record {
            quiet = q.0;
            is = q.1;
            empty = λ j ne z. rw q.2 (ap (λ m. m.held g) (pu.others j ne) ∙ z);
            ok = rw (q.1, q.2) (_, close_inv M v b run.1 k l c inv sound g run.0 now (eqb-true _ _ t) pu);
          }
      go false t (x, y, z) = rw (x, y, z) (record { quiet = refl; is = refl; empty = λ j ne q. q; ok = (c, inv) })

  module _ (p g i : ℕ) (x : List ℕ) (v : LogState) (k : Book) (l : Last) (c : ℕ → ℕ → List ℕ) (settled : SettledLog v) (here : page_state v.tables p ≡ Out g i) where
    judged_law : (m : Row) (r : Reading) → Inv M v m (written p (has x) k) l c → ReadOk v g i (c g i) m r → (ns : List (Finding × Row)) (a : Told) (e : Row) → Runs M.steps (judged v p g i r) m ns a e → Ended M p (has x) k l ns a e
    unfolding judged
    judged_law m (gives y) inv ok ns a e (z, u, w) = rw (z, u, w) (record { settled = settled; ok = (c, inv); said = tt; news = inl (refl, tt) })
    judged_law m (missed s) inv ok ns a e run =
        let sound = settled.tables.sound in
        let f : Finding = record { page = p; group = g; position = i; set = s; tables = v.tables } in
        let right : Right f m = record { two = ok.0; set = ok.1 } in
        let lt = page_below v.tables sound p g i here in
        let v₁ = with_tables v (with_page v.tables p (Lost g s)) in
        let k₁ = written p lost (written p lost k) in
        let l₁ = λ (q : ℕ). cond (eqb p q) (Some (f, m)) (l q) in
        let inv₁ = lose_inv M v m m (written p (has x) k) l c inv sound k₁ f lt right (written_here p lost (written p lost k)) (λ j ne. rw (ne_eqb p j ne)) in
        let sound₁ = sound_nowhere v.tables p (Lost g s) sound lt (λ h j y. let z : ◌≡◌ {A = ℕ} 0 1 = cc in omega arith) in
        through M.steps (release_old (Some g) v₁) (λ w. give (told (Err (lost_page p g s)) w)) m run.0 a e run.2 λ w n ns₁ ns₂ first q notes.
        let part = old_law M v₁ m k₁ l₁ c inv₁ sound₁ (Some g) ns₁ w n first in
        let only : ns ≡ ((f, m) ∷ []) = run.1 ∙ ap (λ y. (f, m) ∷ y) (notes ∙ rw (part.quiet, q.0) refl) in
        rw (only, q.1, q.2) (record {
          settled = rw part.is (lose_leaves v p g i s settled lt here);
          ok = part.ok;
          said = λ _. (g, s, refl, ((f, m), rw (eq-eqb p p refl), refl, refl, right));
          news = inr (two_seen M g _ _ (c g) _ i (inv.holds.group g) ok.0);
        })

    ending_law : (b : Row) → Inv M v b (written p (has x) k) l c → (done : Bool) → (done ≡ false → slots b g i ≡ nothing) → (ns : List (Finding × Row)) (a : Told) (e : Row) → Runs M.steps (ending v p g i done) b ns a e → Ended M p (has x) k l ns a e
    unfolding ending
    ending_law b inv true miss ns a e (z, u, w) = rw (z, u, w) (record { settled = settled; ok = (c, inv); said = tt; news = inl (refl, tt) })
    ending_law b inv false miss ns a e run = through M.steps (gather v g i) (λ r. judged v p g i (restored v.tables i r)) b ns a e run λ r m ns₁ ns₂ first second notes.
        let lt = (rw here at (inv.pages p)).0 in
        let room : g < M.groups = omega (arith, (settled.tables.sound.placed p g i here).0, inv.holds.groups) in
        let on = members_on_lem M v b c g settled.tables.sound inv.holds in
        let o = others_law M v g i (c g) room on lt b ns₁ r m inv.holds.fit (inv.holds.group g) first in
        let ok = restored_ok M v g i (c g) room on lt b m ns₁ r o (miss refl) in
        rw (notes, o.quiet) (judged_law m (restored v.tables i r) (shrunk_inv M v b m _ l c o.shrunk o.fit inv) ok ns₂ a e second)

  -- all of a pageout but its first step
  pub in_law : (v : LogState) (b : Row) (k : Book) (l : Last) (c : ℕ → ℕ → List ℕ) (p : ℕ) (x : List ℕ) (g : ℕ) → Inv M v b k l c → SettledLog v → state_of v.tables g ≡ Open → p < capacity v.tables.shape → Whole x → (ns : List (Finding × Row)) (r : Told) (e : Row)
      → Runs M.steps (place v g p x >>= λ t. release_old (group_of (page_state v.tables p)) t.log >>= λ w. close_full w g >>= λ u. ending u p g v.tables.filled t.done) b ns r e → Ended M p (has x) k l ns r e
  unfolding place
  in_law v b k l c p x g inv settled now lt hx ns r e run =
      let sound = settled.tables.sound in
      let a = run.0 in
      let b₁ = run.1 in
      let v₁ = placed_log v g p x in
      let f = v.tables.filled in
      let k₁ = written p (has x) k in
      let left = group_of (page_state v.tables p) in
      let pu = M.puts b b₁ f g x a (omega (arith, sound.filled, inv.holds.servers)) (omega (arith, open_below v.tables sound g now, inv.holds.groups)) hx inv.holds.fit run.2 in
      let inv₁ = place_inv M v b b₁ k l c inv sound g p x a k₁ l now lt hx pu (written_here p (has x) k) (λ j ne. (written_there p j (has x) k ne, refl)) in
      let leaving₁ = place_leaves v.tables g p settled.tables now lt in
      through M.steps (release_old left v₁) (λ w. close_full w g >>= λ u. ending u p g f (is_ok a)) b₁ ns r e run.3 λ w b₂ ns₁ ns₂ first rest notes.
      let part = old_law M v₁ b₁ k₁ l _ inv₁ leaving₁.sound left ns₁ w b₂ first in
      let leaving : Leaving w.tables None = rw part.is (release_settles v₁.tables left leaving₁) in
      let open_now : state_of w.tables g ≡ Open = rw part.is (release_open v₁.tables left g now) in
      let same = release_same v₁.tables left in
      let shape : w.tables.shape ≡ v.tables.shape = ap (λ t. t.tables.shape) part.is ∙ same.0 in
      let pages : w.tables.pages ≡ v₁.tables.pages = ap (λ t. t.tables.pages) part.is ∙ same.1 in
      let filled : w.tables.filled ≡ f + 1 = ap (λ t. t.tables.filled) part.is ∙ same.3 in
      let at : page_state w.tables p ≡ Out g f = ap (λ ps. get_or ps p NotOut) pages ∙ entry_now NotOut v.tables.pages p (Out g f) (page_room v.tables sound p lt) in
      let before : f ≡ w.tables.filled - 1 = omega arith in
      through M.steps (close_full w g) (λ u. ending u p g f (is_ok a)) b₂ ns₂ r e rest λ u b₃ ns₃ ns₄ second last notes₂.
      let done = close_law w b₂ k₁ l part.ok.0 part.ok.1 leaving.sound g open_now ns₃ u b₃ second in
      let settled₃ : SettledLog u = rw done.is (close_settles w g p leaving open_now (omega arith) (at ∙ ap (Out g) before)) in
      let here : page_state u.tables p ≡ Out g f = ap (λ ps. get_or ps p NotOut) (ap (λ t. t.tables.pages) done.is ∙ closed_pages w.tables g) ∙ at in
      let apart : f ≡ w.tables.shape.servers → ⊥ = λ y. omega (arith, settled.tables.room, ap (λ s. s.servers) shape) in
      let miss : is_ok a ≡ false → slots b₃ g f ≡ nothing = λ y. let n = not_ok a y in done.empty f apart (part.empty f g (pu.refused n.0 n.1)) in
      rw (notes, part.quiet, notes₂, done.quiet) (ending_law p g f x u k l done.ok.0 settled₃ here b₃ done.ok.1 (is_ok a) miss ns₄ r e last)
