-- What changes at one group, or of one page, and leaves the others.
use Rattle.std.proofs.Common.{◌≡◌, ℕ, ◌<◌, cond, eqb, List, Some, Option, Result, sym, refl, ap, ◌∙◌, inl, inr, arith, eq-eqb, ne_eqb}
use Rattle.std.proofs.lemmas.Bool.{cases_eq}
use Rattle.page.specs.declared.faults.Fault.{Fault}
use Rattle.page.specs.Pages.{zeros}
use Rattle.server.specs.Meaning.{holds}
use Rattle.parity_log.specs.declared.records.PageState.{PageState}
use Rattle.parity_log.specs.declared.records.PageState.TheVariants.{NotOut, Out, Lost}
use Rattle.parity_log.specs.declared.records.GroupState.{GroupState}
use Rattle.parity_log.specs.declared.records.GroupState.TheVariants.{Free, Open, Closed}
use Rattle.parity_log.specs.declared.records.Tables.{Tables}
use Rattle.parity_log.specs.LogState.{LogState, log_of, with_tables}
use Rattle.parity_log.specs.Tables.{capacity, state_of, page_state, member_count_of, is_open, with_page, with_state}
use Rattle.parity_log.specs.Order.{Sound}
use Rattle.parity_log.specs.Paging.{opened, placed_log, shut}
use Rattle.parity_log.specs.Reading.{Finding, kept}
use Rattle.parity_log.proofs.EntryLaws.{entry_now, entry_other}
use Rattle.parity_log.proofs.SoundLaws.{page_room, state_room, open_below, closed_below}
use Rattle.law.specs.Rows.{Row, slots}
use Rattle.law.specs.Missing.{members_on}
use Rattle.law.specs.Book.{Entry, has, lost, Book, written}
use Rattle.law.specs.Invariant.{TwoMissing, Right, PageOk}
use Rattle.law.proofs.ReadLaws.{shrunk_group, Group}
use Rattle.law.proofs.Invariant.{Last, written_here, written_there, Carries, carried, carries_shrunk, carries_put, Holds, Inv}
use Rattle.law.proofs.GroupLaws.{group_none, group_put, group_close}
use Rattle.law.proofs.Mode.{still_then, Fit, Elsewhere, beside_still, Puts, Mode, Whole, GroupOk}

members_shut : (s : GroupState) (n m m' : ℕ) → (s ≡ Open → ⊥) → member_count_of s n m ≡ member_count_of s n m'
members_shut Free n m m' h = refl
members_shut Open n m m' h = absurd (h refl)
members_shut Closed n m m' h = refl

kept_shut : (s : GroupState) (x y z : List ℕ) → (s ≡ Open → ⊥) → cond (is_open s) x z ≡ cond (is_open s) y z
kept_shut Free x y z h = refl
kept_shut Open x y z h = absurd (h refl)
kept_shut Closed x y z h = refl

-- beside the open group no other is open
one_open : (v : Tables) (g h : ℕ) → Sound v → state_of v g ≡ Open → (g ≡ h → ⊥) → state_of v h ≡ Open → ⊥
one_open v g h sound o ne e = let x = sound.only_open g o in let y = sound.only_open h e in let z : g ≡ h = cc in ne z

module _ (M : Mode) where
  -- all groups but g stay as they are, or their slots shrink
  pub record Change (v w : LogState) (b e : Row) (g : ℕ) : Type 0 where
    pub shape : w.tables.shape ≡ v.tables.shape
    pub members : (h : ℕ) → (g ≡ h → ⊥) → members_on w.tables h ≡ members_on v.tables h
    pub kepts : (h : ℕ) → (g ≡ h → ⊥) → kept w h ≡ kept v h
    pub elsewhere : Elsewhere M.lose b e g
    pub fit : Fit M.servers M.good e

  module _ (v w : LogState) (b e : Row) (c : ℕ → ℕ → List ℕ) (g : ℕ) (d : ℕ → List ℕ) (ch : Change v w b e g) where
    pub change_holds : Holds M v b c → Group M w g d e → Holds M w e (written g d c)
    change_holds s o = record {
      servers = rw ch.shape s.servers;
      groups = rw ch.shape s.groups;
      fit = ch.fit;
      group = λ h. elim (cases_eq g h) [
        | inl y ↦ rw (← y, written_here g d c) o
        | inr ne ↦ rw (written_there g h d c ne, ch.members h ne, ch.kepts h ne) (shrunk_group (M.may h) M.lose _ _ _ _ _ (M.may_lose h) (λ k _. ch.elsewhere h ne k) (s.group h))
      ];
    }

    pub change_page : (n : Entry) (o : Option (Finding × Row)) (q : PageState) → ((i : ℕ) → q ≡ Out g i → Carries (members_on v.tables g) (c g) (slots b g) (members_on w.tables g) d (slots e g)) → PageOk v.tables b c n o q → PageOk w.tables e (written g d c) n o q
    change_page n o q here ok = carried v.tables w.tables b e c (written g d c) n o q (λ h i y. elim (cases_eq g h) [
      | inl z ↦ rw (← z, written_here g d c) (here i (y ∙ ap (λ x. Out x i) (sym z)))
      | inr ne ↦ rw (written_there g h d c ne, ch.members h ne) (carries_shrunk M.lose _ _ _ _ _ (omega arith) (λ k _. ch.elsewhere h ne k))
    ]) ok

  module _ (v : LogState) (b e : Row) (k : Book) (l : Last) (c : ℕ → ℕ → List ℕ) (inv : Inv M v b k l c) (sound : Sound v.tables) where
    -- a page's state changed, with its entry and finding
    pub set_page : (k' : Book) (l' : Last) (p : ℕ) (q : PageState) → p < capacity v.tables.shape → ((j : ℕ) → (p ≡ j → ⊥) → (k' j ≡ k j) × (l' j ≡ l j)) → PageOk v.tables b c (k' p) (l' p) q → Inv M (with_tables v (with_page v.tables p q)) b k' l' c
    set_page k' l' p q lt rest ok = record {
      holds = record { servers = inv.holds.servers; groups = inv.holds.groups; fit = inv.holds.fit; group = inv.holds.group };
      pages = λ j. elim (cases_eq p j) [
        | inl y ↦ rw (← y, entry_now NotOut v.tables.pages p q (page_room v.tables sound p lt)) ok
        | inr ne ↦ rw (entry_other NotOut v.tables.pages p q j (λ y. ne (sym y)), (rest j ne).0, (rest j ne).1) (inv.pages j)
      ];
    }

    -- a page found lost, and its state made so
    pub lose_inv : (k' : Book) (f : Finding) → f.page < capacity v.tables.shape → Right f b → k' f.page ≡ lost → ((j : ℕ) → (f.page ≡ j → ⊥) → k' j ≡ k j)
        → Inv M (with_tables v (with_page v.tables f.page (Lost f.group f.set))) b k' (λ q. cond (eqb f.page q) (Some (f, b)) (l q)) c
    lose_inv k' f lt right is rest = set_page k' _ f.page _ lt (λ j ne. (rest j ne, rw (ne_eqb f.page j ne))) (is, ((f, b), rw (eq-eqb f.page f.page refl), refl, refl, right))

    -- a free group opened
    pub open_inv : (g : ℕ) → g < v.tables.shape.groups → state_of v.tables g ≡ Free → v.tables.filled ≡ 0 → v.running ≡ zeros → Inv M (with_tables v (opened v.tables g)) b k l (written g (c g) c)
    open_inv g lt free none clear =
        let w = with_tables v (opened v.tables g) in
        let now : state_of w.tables g ≡ Open = entry_now Free v.tables.states g Open (state_room v.tables sound g lt) in
        let same = λ (h : ℕ) (ne : g ≡ h → ⊥). entry_other Free v.tables.states g Open h (λ y. ne (sym y)) in
        let ch : Change v w b b g = record { shape = refl; members = λ h ne. rw (same h ne); kepts = λ h ne. rw (same h ne); elsewhere = λ h ne j. inl refl; fit = inv.holds.fit } in
        record {
          holds = change_holds v w b b c g (c g) ch inv.holds (rw (now, none, clear) (group_none (M.may g) (c g) (slots b g) (inv.holds.group g).whole));
          pages = λ p. change_page v w b b c g (c g) ch (k p) (l p) (page_state v.tables p) (λ i y. rw (free, now) (carries_shrunk M.lose _ _ _ _ _ (omega arith) (λ j _. inl refl))) (inv.pages p);
        }

    -- a page put into the open group
    pub place_inv : (g p : ℕ) (x : List ℕ) (a : Result (Unit {0}) Fault) (k' : Book) (l' : Last) → state_of v.tables g ≡ Open → p < capacity v.tables.shape → Whole x → Puts M.servers M.lose M.good b e v.tables.filled g x a → k' p ≡ has x
        → ((j : ℕ) → (p ≡ j → ⊥) → (k' j ≡ k j) × (l' j ≡ l j)) → Inv M (placed_log v g p x) e k' l' (written g (written v.tables.filled x (c g)) c)
    place_inv g p x a k' l' now lt hx pu has-x rest =
        let w = placed_log v g p x in
        let f = v.tables.filled in
        let d = written f x (c g) in
        let shut-there = λ (h : ℕ) (ne : g ≡ h → ⊥). one_open v.tables g h sound now ne in
        let ch : Change v w b e g = record {
          shape = refl;
          members = λ h ne. members_shut (state_of v.tables h) _ _ _ (shut-there h ne);
          kepts = λ h ne. kept_shut (state_of v.tables h) _ _ _ (shut-there h ne);
          elsewhere = pu.elsewhere;
          fit = pu.fit;
        } in
        let old : GroupOk (M.may g) f v.running (c g) (slots b g) = rw now at (inv.holds.group g) in
        let beside = λ (j : ℕ) (ne : j ≡ f → ⊥). beside_still (M.lose j) b e f pu.others j ne g in
        let fresh = carries_put M.lose f x (c g) (slots b g) (slots e g) beside in
        record {
          holds = change_holds v w b e c g d ch inv.holds (rw now (group_put (M.may g) M.lose f v.running (c g) (slots b g) (slots e g) (M.may_lose g) old beside x hx pu.here));
          pages = λ j. elim (cases_eq p j) [
            | inl y ↦ rw (← y, entry_now NotOut v.tables.pages p (Out g f) (page_room v.tables sound p lt), now, eq-eqb g g refl, eq-eqb f f refl) (omega arith, inl has-x)
            | inr ne ↦ rw (entry_other NotOut v.tables.pages p (Out g f) j (λ y. ne (sym y)), (rest j ne).0, (rest j ne).1) (change_page v w b e c g d ch (k j) (l j) (page_state v.tables j) (λ i y. rw now fresh) (inv.pages j))
          ];
        }

    -- the open group, filled on all data servers, closed with its parity put
    pub close_inv : (g : ℕ) (a : Result (Unit {0}) Fault) → state_of v.tables g ≡ Open → v.tables.filled ≡ v.tables.shape.servers → Puts M.servers M.lose M.good b e v.tables.shape.servers g v.running a
        → Inv M (log_of (shut v.tables g) zeros) e k l (written g (written v.tables.shape.servers v.running (c g)) c)
    close_inv g a now full pu =
        let w = log_of (shut v.tables g) zeros in
        let f = v.tables.shape.servers in
        let d = written f v.running (c g) in
        let closed : state_of w.tables g ≡ Closed = entry_now Free v.tables.states g Closed (state_room v.tables sound g (open_below v.tables sound g now)) in
        let same = λ (h : ℕ) (ne : g ≡ h → ⊥). entry_other Free v.tables.states g Closed h (λ y. ne (sym y)) in
        let shut-there = λ (h : ℕ) (ne : g ≡ h → ⊥). one_open v.tables g h sound now ne in
        let ch : Change v w b e g = record {
          shape = refl;
          members = λ h ne. rw (same h ne) (members_shut (state_of v.tables h) _ _ _ (shut-there h ne));
          kepts = λ h ne. rw (same h ne) (kept_shut (state_of v.tables h) _ _ _ (shut-there h ne));
          elsewhere = pu.elsewhere;
          fit = pu.fit;
        } in
        let old : GroupOk (M.may g) f v.running (c g) (slots b g) = rw (now, full) at (inv.holds.group g) in
        let beside = λ (j : ℕ) (ne : j ≡ f → ⊥). beside_still (M.lose j) b e f pu.others j ne g in
        let fresh = carries_put M.lose f v.running (c g) (slots b g) (slots e g) beside in
        record {
          holds = change_holds v w b e c g d ch inv.holds (rw closed (group_close (M.may g) M.lose f v.running (c g) (slots b g) (slots e g) (M.may_lose g) old beside pu.here));
          pages = λ j. change_page v w b e c g d ch (k j) (l j) (page_state v.tables j) (λ i y. rw (closed, now, full) fresh) (inv.pages j);
        }

    -- a closed group that no page is out at freed
    pub release_inv : (g : ℕ) → state_of v.tables g ≡ Closed → ((p i : ℕ) → page_state v.tables p ≡ Out g i → ⊥) → Elsewhere M.lose b e g → Fit M.servers M.good e → Inv M (with_tables v (with_state v.tables g Free)) e k l (written g (c g) c)
    release_inv g closed none elsewhere fit =
        let w = with_tables v (with_state v.tables g Free) in
        let free : state_of w.tables g ≡ Free = entry_now Free v.tables.states g Free (state_room v.tables sound g (closed_below v.tables sound g closed)) in
        let same = λ (h : ℕ) (ne : g ≡ h → ⊥). entry_other Free v.tables.states g Free h (λ y. ne (sym y)) in
        let ch : Change v w b e g = record { shape = refl; members = λ h ne. rw (same h ne); kepts = λ h ne. rw (same h ne); elsewhere = elsewhere; fit = fit } in
        record {
          holds = change_holds v w b e c g (c g) ch inv.holds (rw free (group_none (M.may g) (c g) (slots e g) (inv.holds.group g).whole));
          pages = λ p. change_page v w b e c g (c g) ch (k p) (l p) (page_state v.tables p) (λ i y. absurd (none p i y)) (inv.pages p);
        }

    -- a member put back where not two were missing
    pub mend_inv : (g i : ℕ) (x : List ℕ) (a : Result (Unit {0}) Fault) → i < members_on v.tables g → x ≡ c g i → Puts M.servers M.lose M.good b e i g x a → ((j : ℕ) → TwoMissing (members_on v.tables g) (slots b g) j → ⊥) → Inv M v e k l (written g (c g) c)
    mend_inv g i x a lt is pu all =
        let ch : Change v v b e g = record { shape = refl; members = λ h ne. refl; kepts = λ h ne. refl; elsewhere = pu.elsewhere; fit = pu.fit } in
        let old = inv.holds.group g in
        let new : Group M v g (c g) e = record {
          kept_whole = old.kept_whole;
          whole = old.whole;
          balanced = old.balanced;
          true_held = λ j m. elim (cases_eq j i) [
            | inl y ↦ rw (y, ← is) (still_then (M.may g i) (M.lose i) (holds x) (holds x) _ (M.may_lose g i) (inl refl) pu.here)
            | inr ne ↦ still_then _ _ _ _ _ (M.may_lose g j) (old.true_held j m) (beside_still (M.lose j) b e i pu.others j ne g)
          ];
        } in
        record {
          holds = change_holds v v b e c g (c g) ch inv.holds new;
          pages = λ p. change_page v v b e c g (c g) ch (k p) (l p) (page_state v.tables p) (λ j y. record { more = omega arith; same = λ _ _. refl; two = λ n two. absurd (all n two) }) (inv.pages p);
        }
