-- A cleaning moves the pages that it can read and finds the others lost; and a group made ready for a pageout.
use Rattle.std.proofs.Common.{◌≡◌, ℕ, zero, suc, ◌+◌, ◌%◌, ◌<◌, ◌≤◌, Bool, true, false, cond, eqb, ltb, ◌⊎◌, List, [], ◌∷◌, ◌++◌, map, Some, None, Option, sym, refl, ap, ◌∙◌, subst, inl, inr, arith, ltb-false, ltb-true}
use Rattle.std.specs.List.{range_with_len}
use Rattle.std.proofs.lemmas.Bool.{cases_eq}
use Rattle.parity_log.specs.declared.records.PageState.TheVariants.{Out}
use Rattle.parity_log.specs.declared.records.GroupState.TheVariants.{Free, Open}
use Rattle.parity_log.specs.declared.records.Tables.{Tables}
use Rattle.parity_log.specs.LogState.{LogState, with_tables}
use Rattle.parity_log.specs.Tables.{state_of, page_state, is_free, page_at, with_state}
use Rattle.parity_log.specs.Choices.{open_group, start, first_in, next_free, free_count, fewest_live}
use Rattle.parity_log.specs.Order.{Sound, Settled, SettledLog, Cleaning}
use Rattle.parity_log.specs.Paging.{opened, place, release, moved, move, move_all, clean, Ready, ready, open_next_rule, with_open}
use Rattle.parity_log.specs.Reading.{Finding, Reading, found as gives, missed, read}
use Rattle.parity_log.specs.Rule.{give, Runs}
use Rattle.parity_log.proofs.Bounds.{shape_bounds}
use Rattle.parity_log.proofs.CleaningLaws.{clean_page, clean_skip, clean_place, clean_lose, clean_end, clean_group}
use Rattle.parity_log.proofs.EntryLaws.{none_out}
use Rattle.parity_log.proofs.Keeping.{open_settled}
use Rattle.parity_log.proofs.OpeningLaws.{next_free_lem, open_next, open_last}
use Rattle.parity_log.proofs.RoundLaws.{count_some, start_below, not_round}
use Rattle.parity_log.proofs.SoundLaws.{open_cases, open_is}
use Rattle.law.specs.Rows.{Row}
use Rattle.law.specs.Book.{has, lost, Book, written, found, latest}
use Rattle.law.proofs.RuleLaws.{through}
use Rattle.law.proofs.ReadLaws.{ReadOk, read_law, two_seen}
use Rattle.law.proofs.Invariant.{Last, written_here, written_there, page_booked, Inv, members_on_lem, shrunk_inv}
use Rattle.law.proofs.ChangeLaws.{lose_inv, open_inv, place_inv}
use Rattle.law.proofs.ReleaseLaws.{Ok, release_law}
use Rattle.law.proofs.Mode.{Mode, Whole}

pub found-++ : (ms ns : List (Finding × Row)) (k : Book) → found (ms ++ ns) k ≡ found ns (found ms k)
found-++ [] ns k = refl
found-++ (f ∷ ms) ns k = found-++ ms ns (written f.0.page lost k)

pub latest-++ : (p : ℕ) (ms ns : List (Finding × Row)) (o : Option (Finding × Row)) → latest p (ms ++ ns) o ≡ latest p ns (latest p ms o)
latest-++ p [] ns o = refl
latest-++ p (f ∷ ms) ns o = latest-++ p ms ns (cond (eqb f.0.page p) (Some f) o)

-- the open group is open
open_from : (v : Tables) (g : ℕ) → Sound v → open_group v ≡ Some g → state_of v g ≡ Open
open_from v g sound e = elim (open_cases v) [
  | inl n ↦ let z : ◌≡◌ {A = ℕ} 0 1 = cc in absurd (omega arith)
  | inr o ↦ let y = open_is v sound o.0 o.1 in let z : g ≡ o.0 = cc in rw z o.1
]

none_passes : (test : ℕ → Bool) (f : ℕ → ℕ) (a n : ℕ) → first_in test (map f (range_with_len a n)) ≡ None → (k : ℕ) → a ≤ k → k < a + n → test (f k) ≡ false
none_passes test f a zero e k le lt = absurd (omega arith)
none_passes test f a (suc n) e k le lt = go (test (f a)) refl e (λ z ne. none_passes test f (a + 1) n z k (omega arith) (omega arith))
  where
    go : (t : Bool) → test (f a) ≡ t → cond t (Some (f a)) (first_in test (map f (range_with_len (a + 1) n))) ≡ None → (first_in test (map f (range_with_len (a + 1) n)) ≡ None → (k ≡ a → ⊥) → test (f k) ≡ false) → test (f k) ≡ false
    go true t z rest = let y : ◌≡◌ {A = ℕ} 0 1 = cc in absurd (omega arith)
    go false t z rest = elim (cases_eq k a) [ inl y ↦ rw y t | inr ne ↦ rest z ne ]

-- a group is free, so one is found
pub next_some : (v : Tables) → Settled v → next_free v ≡ None → ⊥
unfolding next_free free_count
next_some v settled e =
    let n = v.shape.groups in
    let s = start v.last n in
    let free = λ (g : ℕ). is_free (state_of v g) in
    let positive : 0 < n = let b = shape_bounds v.shape settled.sound.shape in omega arith in
    let far = not_round free s n n (start_below v.last n positive) (count_some free n settled.spare) (λ k lt. none_passes free (λ k. (s + k) % n) 0 n e k (omega arith) (omega arith)) in
    omega arith

module _ (M : Mode) where
  pub no_news : (ms ns : List (Finding × Row)) → (ms ≡ []) ⊎ M.finds → (ns ≡ []) ⊎ M.finds → ((ms ++ ns) ≡ []) ⊎ M.finds
  no_news ms ns (inl e) (inl f) = inl (rw e f)
  no_news ms ns (inl e) (inr f) = inr f
  no_news ms ns (inr e) f = inr e

  -- a cleaning of the group h into the open group g, before its position i
  pub record Cleaned (v : LogState) (g h i : ℕ) (k : Book) (l : Last) (ns : List (Finding × Row)) (w : LogState) (e : Row) : Type 0 where
    pub shape : w.tables.shape ≡ v.tables.shape
    pub cleaning : Cleaning w.tables g h i
    pub ok : Ok M w e (found ns k) (λ q. latest q ns (l q))
    pub news : (ns ≡ []) ⊎ M.finds

  module _ (g h : ℕ) where
    module _ (v : LogState) (b : Row) (k : Book) (l : Last) (c : ℕ → ℕ → List ℕ) (inv : Inv M v b k l c) (i : ℕ) (cleaning : Cleaning v.tables g h i) (lt : i < v.tables.shape.servers) where
      moved_law : (p : ℕ) → page_at v.tables.pages h i ≡ Some p → (r : Reading) → ReadOk v h i (c h i) b r → (ns : List (Finding × Row)) (w : LogState) (e : Row) → Runs M.steps (moved v g h i p r) b ns w e → Cleaned v g h (i + 1) k l ns w e
      unfolding place
      moved_law p at (gives x) ok ns w e run =
          let sound = cleaning.sound in
          let page = clean_page v.tables g h i p cleaning lt at in
          let hx : Whole x = rw ok.0 ((inv.holds.group h).whole i) in
          let pu = M.puts b run.1 v.tables.filled g x run.0 (omega (arith, sound.filled, inv.holds.servers)) (omega (arith, (clean_group v.tables g h i cleaning).1, inv.holds.groups)) hx inv.holds.fit run.2 in
          let is = page_booked v.tables b c h i (k p) (l p) (rw page.1 at (inv.pages p)) ok.1 ∙ ap has (sym ok.0) in
          let q = run.3 in
          rw (q.0, q.1, q.2) (record {
            shape = refl;
            cleaning = clean_place v.tables g h i p cleaning lt at;
            ok = (_, place_inv M v b run.1 k l c inv sound g p x run.0 k l cleaning.open_now page.0 hx pu is (λ j ne. (refl, refl)));
            news = inl refl;
          })
      moved_law p at (missed s) ok ns w e (rest, z, (x, y, u)) =
          let f : Finding = record { page = p; group = h; position = i; set = s; tables = v.tables } in
          let page = clean_page v.tables g h i p cleaning lt at in
          rw (z, x, y, u) (record {
            shape = refl;
            cleaning = clean_lose v.tables g h i p s cleaning lt at;
            ok = (c, lose_inv M v b b k l c inv cleaning.sound (written p lost k) f page.0 (record { two = ok.0; set = ok.1 }) (written_here p lost k) (λ j ne. written_there p j lost k ne));
            news = inr (two_seen M h _ _ (c h) _ i (inv.holds.group h) ok.0);
          })

    move_law : (v : LogState) (b : Row) (k : Book) (l : Last) (c : ℕ → ℕ → List ℕ) → Inv M v b k l c → (i : ℕ) → Cleaning v.tables g h i → i < v.tables.shape.servers → (o : Option ℕ) → page_at v.tables.pages h i ≡ o → (ns : List (Finding × Row)) (w : LogState) (e : Row)
        → Runs M.steps (move v g h i o) b ns w e → Cleaned v g h (i + 1) k l ns w e
    unfolding move
    move_law v b k l c inv i cleaning lt None at ns w e (x, y, z) = rw (x, y, z) (record { shape = refl; cleaning = clean_skip v.tables g h i cleaning lt at; ok = (c, inv); news = inl refl })
    move_law v b k l c inv i cleaning lt (Some p) at ns w e run = through M.steps (read v h i) (λ r. moved v g h i p r) b ns w e run λ r m ns₁ ns₂ first second notes.
        let page = clean_page v.tables g h i p cleaning lt at in
        let room : h < M.groups = omega (arith, (clean_group v.tables g h i cleaning).0, inv.holds.groups) in
        let on = (rw page.1 at (inv.pages p)).0 in
        let o = read_law M v h i (c h) room (members_on_lem M v b c h cleaning.sound inv.holds) on b ns₁ r m inv.holds.fit (inv.holds.group h) first in
        rw (notes, o.quiet) (moved_law v m k l c (shrunk_inv M v b m k l c o.shrunk o.fit inv) i cleaning lt p at r o.ok ns₂ w e second)

    all_law : (n i : ℕ) (v : LogState) (b : Row) (k : Book) (l : Last) (c : ℕ → ℕ → List ℕ) → Inv M v b k l c → Cleaning v.tables g h i → i + n ≡ v.tables.shape.servers → (ns : List (Finding × Row)) (w : LogState) (e : Row)
        → Runs M.steps (move_all (range_with_len i n) g h v) b ns w e → Cleaned v g h v.tables.shape.servers k l ns w e
    unfolding move_all
    all_law zero i v b k l c inv cleaning end ns w e (x, y, z) =
        let all : i ≡ v.tables.shape.servers = omega arith in
        rw (x, y, z) (record { shape = refl; cleaning = subst (Cleaning v.tables g h) all cleaning; ok = (c, inv); news = inl refl })
    all_law (suc n) i v b k l c inv cleaning end ns w e run =
        through M.steps (move v g h i (page_at v.tables.pages h i)) (λ u. move_all (range_with_len (i + 1) n) g h u) b ns w e run λ u m ns₁ ns₂ first second notes.
        let one = move_law v b k l c inv i cleaning (omega arith) (page_at v.tables.pages h i) refl ns₁ u m first in
        let same : u.tables.shape.servers ≡ v.tables.shape.servers = ap (λ s. s.servers) one.shape in
        let rest = all_law n (i + 1) u m _ _ one.ok.0 one.ok.1 one.cleaning (omega arith) ns₂ w e second in
        rw notes (record { shape = rest.shape ∙ one.shape; cleaning = subst (Cleaning w.tables g h) same rest.cleaning; ok = simp (found-++, latest-++) rest.ok; news = no_news ns₁ ns₂ one.news rest.news })

  -- the group g is open, with a position left
  pub record Opens (v : LogState) (k : Book) (l : Last) (ns : List (Finding × Row)) (g : ℕ) (w : LogState) (e : Row) : Type 0 where
    pub shape : w.tables.shape ≡ v.tables.shape
    pub settled : SettledLog w
    pub now : state_of w.tables g ≡ Open
    pub ok : Ok M w e (found ns k) (λ q. latest q ns (l q))
    pub news : (ns ≡ []) ⊎ M.finds

  clean_law : (v : LogState) (b : Row) (k : Book) (l : Last) (c : ℕ → ℕ → List ℕ) (g h : ℕ) → Inv M v b k l c → Cleaning v.tables g h 0 → (ns : List (Finding × Row)) (w : LogState) (e : Row) → Runs M.steps (clean v g (Some h)) b ns w e → Opens v k l ns g w e
  unfolding clean
  clean_law v b k l c g h inv cleaning ns w e run = through M.steps (move_all (range_with_len 0 v.tables.shape.servers) g h v) (λ u. release u h) b ns w e run λ u m ns₁ ns₂ first second notes.
      let all = all_law g h v.tables.shape.servers 0 v b k l c inv cleaning (omega arith) ns₁ u m first in
      let same : v.tables.shape.servers ≡ u.tables.shape.servers = ap (λ s. s.servers) (sym all.shape) in
      let cl = subst (Cleaning u.tables g h) same all.cleaning in
      let none : (p i : ℕ) → page_state u.tables p ≡ Out h i → ⊥ = λ p i y. none_out u.tables.pages h i p (cl.moved i (rw cl.closed at (cl.sound.placed p h i y).1)) y in
      let part = release_law M u m _ _ all.ok.0 all.ok.1 cl.sound h cl.closed none ns₂ w e second in
      let end = clean_end u.tables g h cl in
      let only : ns ≡ ns₁ ++ [] = notes ∙ ap (λ y. ns₁ ++ y) part.quiet in
      rw only (record { shape = ap (λ t. t.tables.shape) part.is ∙ all.shape; settled = rw part.is (open_settled (with_tables u (with_state u.tables h Free)) g end.0 end.1); now = rw part.is end.1; ok = simp (found-++, latest-++) part.ok; news = no_news ns₁ [] all.news (inl refl) })

  module _ (v : LogState) (b : Row) (k : Book) (l : Last) (c : ℕ → ℕ → List ℕ) (inv : Inv M v b k l c) (settled : SettledLog v) where
    next_law : open_group v.tables ≡ None → (o : Option ℕ) → next_free v.tables ≡ o → (ns : List (Finding × Row)) (r : Ready) (e : Row) → Runs M.steps (open_next_rule v o) b ns r e → Opens v k l ns r.group r.log e
    unfolding open_next_rule
    next_law none None next ns r e run = absurd (next_some v.tables settled.tables next)
    next_law none (Some g) next ns r e run =
        through M.steps (cond (ltb 1 (free_count v.tables)) (give (with_tables v (opened v.tables g))) (clean (with_tables v (opened v.tables g)) g (fewest_live v.tables))) (λ w. give (ready g w)) b ns r e run λ w m ns₁ ns₂ first q notes.
        let only : ns ≡ ns₁ ++ [] = notes ∙ ap (λ y. ns₁ ++ y) q.0 in
        let o = go w m ns₁ (ltb 1 (free_count v.tables)) refl first in
        rw (only, q.1, q.2) (record { shape = o.shape; settled = o.settled; now = o.now; ok = simp (found-++, latest-++) o.ok; news = no_news ns₁ [] o.news (inl refl) })
      where
        free_next : (g < v.tables.shape.groups) × (state_of v.tables g ≡ Free)
        free_next = next_free_lem v.tables g settled.tables.sound next

        inv₁ : Inv M (with_tables v (opened v.tables g)) b k l (written g (c g) c)
        inv₁ = open_inv M v b b k l c inv settled.tables.sound g free_next.0 free_next.1 (settled.tables.none_open none) (settled.cleared none)

        go : (w : LogState) (m : Row) (ns : List (Finding × Row)) (t : Bool) → ltb 1 (free_count v.tables) ≡ t → Runs M.steps (cond t (give (with_tables v (opened v.tables g))) (clean (with_tables v (opened v.tables g)) g (fewest_live v.tables))) b ns w m → Opens v k l ns g w m
        go w m ns true t (x, y, z) = let o = open_next v.tables g settled.tables none next (ltb-true 1 (free_count v.tables) t) in rw (x, y, z) (record { shape = refl; settled = open_settled (with_tables v (opened v.tables g)) g o.0 o.1; now = o.1; ok = (_, inv₁); news = inl refl })
        go w m ns false t run =
            let last = open_last v.tables g settled.tables none next (ltb-false 1 (free_count v.tables) t) in
            let o = clean_law (with_tables v (opened v.tables g)) b k l _ g last.0 inv₁ last.2 ns w m (rw last.1 at run) in
            record { shape = o.shape; settled = o.settled; now = o.now; ok = o.ok; news = o.news }

    -- the first step of a pageout
    pub open_law : (o : Option ℕ) → open_group v.tables ≡ o → (ns : List (Finding × Row)) (r : Ready) (e : Row) → Runs M.steps (with_open v o) b ns r e → Opens v k l ns r.group r.log e
    unfolding with_open
    open_law (Some g) is ns r e (x, y, z) = rw (x, y, z) (record { shape = refl; settled = settled; now = open_from v.tables g settled.tables.sound is; ok = (c, inv); news = inl refl })
    open_law None is ns r e run = next_law is (next_free v.tables) refl ns r e run
