-- What holds of the servers' contents and of the pages at any moment, and what keeps it while slots only shrink.
use Rattle.std.proofs.Common.{◌≡◌, ℕ, ◌+◌, ◌<◌, ◌≤◌, cond, eqb, List, Some, Option, sym, refl, ap, ◌∙◌, inl, inr, arith, eq-eqb, ne_eqb}
use Rattle.std.proofs.lemmas.Bool.{cases_eq}
use Rattle.server.specs.Meaning.{Held}
use Rattle.parity_log.specs.declared.records.PageState.{PageState}
use Rattle.parity_log.specs.declared.records.PageState.TheVariants.{NotOut, Out, Lost}
use Rattle.parity_log.specs.declared.records.GroupState.{GroupState}
use Rattle.parity_log.specs.declared.records.GroupState.TheVariants.{Free, Open, Closed}
use Rattle.parity_log.specs.declared.records.Tables.{Tables}
use Rattle.parity_log.specs.LogState.{LogState}
use Rattle.parity_log.specs.Tables.{state_of, page_state, member_count_of}
use Rattle.parity_log.specs.Order.{Sound}
use Rattle.parity_log.specs.Reading.{Finding}
use Rattle.law.specs.Rows.{Row, slots}
use Rattle.law.specs.Missing.{members_on}
use Rattle.law.specs.Book.{Entry, has, lost, Book, written}
use Rattle.law.specs.Invariant.{TwoMissing, PageOk}
use Rattle.law.proofs.ReadLaws.{still_two, Group, shrunk_keeps}
use Rattle.law.proofs.Mode.{Still, Shrunk, Fit, Mode}

-- the latest finding of each page
abbrev pub Last : Type 0
Last = ℕ → Option (Finding × Row)

pub written_here : {A : Type 0} (k : ℕ) (a : A) (f : ℕ → A) → written k a f k ≡ a
written_here k a f = rw (eq-eqb k k refl)

pub written_there : {A : Type 0} (k j : ℕ) (a : A) (f : ℕ → A) → (k ≡ j → ⊥) → written k a f j ≡ f j
written_there k j a f ne = rw (ne_eqb k j ne)

-- what is there already, written again
pub written_again : {A : Type 0} (k j : ℕ) (a : A) (f : ℕ → A) → f k ≡ a → written k a f j ≡ f j
written_again k j a f e = elim (cases_eq k j) [ inl y ↦ rw (eq-eqb k j y) (sym e ∙ ap f y) | inr ne ↦ written_there k j a f ne ]

members_most : (s : GroupState) (n m : ℕ) → m ≤ n → member_count_of s n m ≤ n + 1
members_most Free n m l = omega arith
members_most Open n m l = omega arith
members_most Closed n m l = omega arith

-- from one moment to the next a group keeps its members and what they ought to hold, and stays without two of them
pub record Carries (n : ℕ) (c : ℕ → List ℕ) (h : ℕ → Held) (n' : ℕ) (c' : ℕ → List ℕ) (h' : ℕ → Held) : Type 0 where
  pub more : n ≤ n'
  pub same : (k : ℕ) → k < n → c' k ≡ c k
  pub two : (i : ℕ) → TwoMissing n h i → TwoMissing n' h' i

pub carried : (v w : Tables) (b e : Row) (c d : ℕ → ℕ → List ℕ) (n : Entry) (o : Option (Finding × Row)) (q : PageState)
    → ((g i : ℕ) → q ≡ Out g i → Carries (members_on v g) (c g) (slots b g) (members_on w g) (d g) (slots e g)) → PageOk v b c n o q → PageOk w e d n o q
carried v w b e c d n o NotOut h ok = ok
carried v w b e c d n o (Out g i) h (l, inl y) = let z = h g i refl in (omega (arith, z.more), inl (y ∙ ap has (sym (z.same i l))))
carried v w b e c d n o (Out g i) h (l, inr y) = let z = h g i refl in (omega (arith, z.more), inr (y.0, z.two i y.1))
carried v w b e c d n o (Lost g s) h ok = ok

pub carries_shrunk : (L : ℕ → Type 0) (n m : ℕ) (c : ℕ → List ℕ) (h h' : ℕ → Held) → n ≤ m → ((k : ℕ) → k < n → Still (L k) (h k) (h' k)) → Carries n c h m c h'
carries_shrunk L n m c h h' le sh = record { more = le; same = λ k l. refl; two = λ i. still_two L n m h h' i le sh }

-- one member more
pub carries_put : (L : ℕ → Type 0) (n : ℕ) (x : List ℕ) (c : ℕ → List ℕ) (h h' : ℕ → Held) → ((k : ℕ) → (k ≡ n → ⊥) → Still (L k) (h k) (h' k)) → Carries n c h (n + 1) (written n x c) h'
carries_put L n x c h h' beside = record {
  more = omega arith;
  same = λ j m. written_there n j x c (λ y. omega arith);
  two = λ i. still_two L n (n + 1) h h' i (omega arith) (λ j m. beside j (λ y. omega arith));
}

-- a page that is out, and of which not two members are missing, is as booked
pub page_booked : (v : Tables) (e : Row) (c : ℕ → ℕ → List ℕ) (g i : ℕ) (n : Entry) (o : Option (Finding × Row)) → PageOk v e c n o (Out g i) → (TwoMissing (members_on v g) (slots e g) i → ⊥) → n ≡ has (c g i)
page_booked v e c g i n o (lt, inl y) f = y
page_booked v e c g i n o (lt, inr y) f = absurd (f y.1)

module _ (M : Mode) where
  -- the servers suffice for the tables and are fit, and each group's members hold what they ought to, c
  pub record Holds (v : LogState) (b : Row) (c : ℕ → ℕ → List ℕ) : Type 0 where
    pub servers : v.tables.shape.servers < M.servers
    pub groups : v.tables.shape.groups ≤ M.groups
    pub fit : Fit M.servers M.good b
    pub group : (g : ℕ) → Group M v g (c g) b

  pub record Inv (v : LogState) (b : Row) (k : Book) (l : Last) (c : ℕ → ℕ → List ℕ) : Type 0 where
    pub holds : Holds v b c
    pub pages : (p : ℕ) → PageOk v.tables b c (k p) (l p) (page_state v.tables p)

  pub members_on_lem : (v : LogState) (b : Row) (c : ℕ → ℕ → List ℕ) (g : ℕ) → Sound v.tables → Holds v b c → members_on v.tables g ≤ M.servers
  members_on_lem v b c g s h = omega (arith, members_most (state_of v.tables g) v.tables.shape.servers v.tables.filled s.filled, h.servers)

  pub shrunk_inv : (v : LogState) (b e : Row) (k : Book) (l : Last) (c : ℕ → ℕ → List ℕ) → Shrunk M.lose b e → Fit M.servers M.good e → Inv v b k l c → Inv v e k l c
  shrunk_inv v b e k l c sh fi inv = record {
    holds = record { servers = inv.holds.servers; groups = inv.holds.groups; fit = fi; group = λ g. shrunk_keeps M v g (c g) b e sh (inv.holds.group g) };
    pages = λ p. carried v.tables v.tables b e c c (k p) (l p) (page_state v.tables p) (λ g i _. carries_shrunk M.lose _ _ _ _ _ (omega arith) (λ j _. sh j g)) (inv.pages p);
  }

  -- a book that says the same
  pub same_book : (v : LogState) (b : Row) (k k' : Book) (l : Last) (c : ℕ → ℕ → List ℕ) → ((p : ℕ) → k' p ≡ k p) → Inv v b k l c → Inv v b k' l c
  same_book v b k k' l c same inv = record { holds = inv.holds; pages = λ p. rw (same p) (inv.pages p) }

  -- a page that is out found lost, two of its group's members missing
  pub found_inv : (v : LogState) (e : Row) (k : Book) (l : Last) (c : ℕ → ℕ → List ℕ) (f : Finding) → Inv v e k l c → page_state v.tables f.page ≡ Out f.group f.position → TwoMissing (members_on v.tables f.group) (slots e f.group) f.position
      → Inv v e (written f.page lost k) (λ q. cond (eqb f.page q) (Some (f, e)) (l q)) c
  found_inv v e k l c f inv here two = record {
    holds = inv.holds;
    pages = λ q. elim (cases_eq f.page q) [
      | inl y ↦ rw (eq-eqb f.page q y, ← y, here) (two.own.0, inr (refl, two))
      | inr ne ↦ rw (ne_eqb f.page q ne) (inv.pages q)
    ];
  }
