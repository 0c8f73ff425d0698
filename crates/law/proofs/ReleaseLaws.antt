-- A group freed on every server, and what that keeps.
use Rattle.std.proofs.Common.{◌≡◌, ℕ, ◌+◌, ◌<◌, Bool, true, false, cond, List, [], ◌∷◌, Some, None, Option, refl, inl, arith, eqb-true}
use Rattle.std.specs.List.{range_with_len, AllByRecursion as All}
use Rattle.std.proofs.lemmas.Bool.{and_parts}
use Rattle.server.specs.Meaning.{nothing}
use Rattle.parity_log.specs.declared.records.PageState.TheVariants.{Out}
use Rattle.parity_log.specs.declared.records.GroupState.TheVariants.{Free, Closed}
use Rattle.parity_log.specs.LogState.{LogState, with_tables}
use Rattle.parity_log.specs.Tables.{state_of, page_state, with_state}
use Rattle.parity_log.specs.Order.{Sound}
use Rattle.parity_log.specs.Paging.{free_on, release, unused, release_old, released_old}
use Rattle.parity_log.specs.Reading.{Finding}
use Rattle.parity_log.specs.Rule.{give, Runs}
use Rattle.parity_log.proofs.Counting.{all_counting}
use Rattle.parity_log.proofs.EntryLaws.{live_out}
use Rattle.parity_log.proofs.Fewest.{closed_from}
use Rattle.parity_log.proofs.SoundLaws.{closed_below}
use Rattle.law.specs.Rows.{Row}
use Rattle.law.specs.Book.{Book, written}
use Rattle.law.proofs.Invariant.{Last, Inv}
use Rattle.law.proofs.ChangeLaws.{release_inv}
use Rattle.law.proofs.Mode.{still_then, Fit, Elsewhere, frees_empty, Mode}

-- what was empty stays so
abbrev pub Emptier : Row → Row → Type 0
Emptier b e = (j h : ℕ) → (b j).held h ≡ nothing → (e j).held h ≡ nothing

module _ (M : Mode) where
  -- some contents make all hold
  abbrev pub Ok : LogState → Row → Book → Last → Type 0
  Ok v b k l = (c : ℕ → ℕ → List ℕ) × Inv M v b k l c

  -- the slot g freed on some servers
  pub record Sweeps (g : ℕ) (v : LogState) (b : Row) (ns : List (Finding × Row)) (w : LogState) (e : Row) : Type 0 where
    pub quiet : ns ≡ []
    pub is : w ≡ v
    pub fit : Fit M.servers M.good e
    pub empty : Emptier b e
    pub elsewhere : Elsewhere M.lose b e g

  sweeps : (g : ℕ) (ks : List ℕ) (v : LogState) (b : Row) (ns : List (Finding × Row)) (w : LogState) (e : Row) → g < M.groups → All (λ k. k < M.servers) ks → Fit M.servers M.good b → Runs M.steps (free_on ks g v) b ns w e → Sweeps g v b ns w e
  unfolding free_on
  sweeps g [] v b ns w e room in' f run = record { quiet = run.0; is = run.1; fit = λ k l. rw run.2 (f k l); empty = λ k h z. rw run.2 z; elsewhere = λ h ne k. rw run.2 (inl refl) }
  sweeps g (k ∷ ks) v b ns w e room in' f run =
      let one = M.frees b run.1 k g run.0 in'.0 room f run.2 in
      let rest = sweeps g ks v run.1 ns w e room in'.1 one.fit run.3 in
      record {
        quiet = rest.quiet;
        is = rest.is;
        fit = rest.fit;
        empty = λ j h z. rest.empty j h (frees_empty M.servers M.lose M.good b run.1 k g one j h z);
        elsewhere = λ h ne j. still_then _ _ _ _ _ (λ y. y) (one.elsewhere h ne j) (rest.elsewhere h ne j);
      }

  -- a part of a call that finds nothing lost and leads to the tables w
  pub record Part (v : LogState) (b : Row) (k : Book) (l : Last) (ns : List (Finding × Row)) (w : LogState) (e : Row) : Type 0 where
    pub quiet : ns ≡ []
    pub is : w ≡ v
    pub empty : Emptier b e
    pub ok : Ok w e k l

  module _ (v : LogState) (b : Row) (k : Book) (l : Last) (c : ℕ → ℕ → List ℕ) (inv : Inv M v b k l c) (sound : Sound v.tables) where
    -- a closed group that no page is out at
    pub release_law : (g : ℕ) → state_of v.tables g ≡ Closed → ((p i : ℕ) → page_state v.tables p ≡ Out g i → ⊥) → (ns : List (Finding × Row)) (w : LogState) (e : Row) → Runs M.steps (release v g) b ns w e → Part (with_tables v (with_state v.tables g Free)) b k l ns w e
    unfolding release
    release_law g closed none ns w e run =
        let n = v.tables.shape.servers + 1 in
        let below : g < M.groups = omega (arith, closed_below v.tables sound g closed, inv.holds.groups) in
        let on = all_counting (λ j. j < M.servers) 0 n (λ j lt. omega (arith, inv.holds.servers)) in
        let s = sweeps g (range_with_len 0 n) (with_tables v (with_state v.tables g Free)) b ns w e below on inv.holds.fit run in
        record { quiet = s.quiet; is = s.is; empty = s.empty; ok = rw s.is (written g (c g) c, release_inv M v b e k l c inv sound g closed none s.elsewhere s.fit) }

    -- no page is out at an unused group
    none_at_unused : (g : ℕ) → unused v.tables g ≡ true → (state_of v.tables g ≡ Closed) × ((p i : ℕ) → page_state v.tables p ≡ Out g i → ⊥)
    none_at_unused g t =
        let parts = and_parts _ _ t in
        let closed = closed_from (state_of v.tables g) parts.0 in
        (closed, λ p i y. omega (arith, eqb-true _ 0 parts.1, live_out v.tables.pages g i v.tables.shape.servers p (rw closed at (sound.placed p g i y).1) y))

    pub old_law : (left : Option ℕ) (ns : List (Finding × Row)) (w : LogState) (e : Row) → Runs M.steps (release_old left v) b ns w e → Part (with_tables v (released_old left v.tables)) b k l ns w e
    unfolding release_old
    old_law None ns w e (x, y, z) = rw (x, y, z) (record { quiet = refl; is = refl; empty = λ j h q. q; ok = (c, inv) })
    old_law (Some g) ns w e run = go (unused v.tables g) refl run
      where
        go : (t : Bool) → unused v.tables g ≡ t → Runs M.steps (cond t (release v g) (give v)) b ns w e → Part (with_tables v (cond t (with_state v.tables g Free) v.tables)) b k l ns w e
        go true t run = let un = none_at_unused g t in release_law g un.0 un.1 ns w e run
        go false t (x, y, z) = rw (x, y, z) (record { quiet = refl; is = refl; empty = λ j h q. q; ok = (c, inv) })
