-- The ways through a cleaning.
use Rattle.std.proofs.Common.{◌≡◌, ℕ, ◌+◌, ◌-◌, ◌<◌, ◌≤◌, Bool, cond, List, Some, None, Option, sym, refl, ap, ◌∙◌, subst, arith, le-ltb, lt-ltb}
use Rattle.std.specs.List.{range_with_len}
use Rattle.bank.specs.Rows.{RowRule}
use Rattle.parity_log.specs.LogState.{LogState, with_tables}
use Rattle.parity_log.specs.declared.records.Tables.{Tables}
use Rattle.parity_log.specs.declared.records.PageState.TheVariants.{Out, Lost}
use Rattle.parity_log.specs.Rule.{give, Ends}
use Rattle.parity_log.specs.declared.records.GroupState.{GroupState}
use Rattle.parity_log.specs.declared.records.GroupState.TheVariants.{Free, Open, Closed}
use Rattle.parity_log.specs.Tables.{with_page, page_at, state_of, is_open}
use Rattle.parity_log.specs.Choices.{when_open, open_group, next_free, free_count, fewest_live}
use Rattle.parity_log.specs.Order.{Cleaning, Settled}
use Rattle.parity_log.specs.Owners.{Changes}
use Rattle.parity_log.specs.Reading.{LogRule, read, found, missed}
use Rattle.parity_log.specs.Paging.{place, moved, move, move_all, clean, release, opened, open_next_rule, with_open, Ready, ready}
use Rattle.parity_log.proofs.ChangesLaws.{changes_place, changes_lose}
use Rattle.parity_log.proofs.CleaningLaws.{clean_page}
use Rattle.parity_log.proofs.OpeningLaws.{open_last}
use Rattle.parity_log.proofs.RuleLaws.{Leads, leads_bind, leads_give, ends_bind, ends_give, ends_note}
use Rattle.pager.specs.Places.{placed_as}
use Rattle.pager.proofs.AskingLaws.{span_more, span_none}

module _ {B : Type 0} (steps : RowRule B) (l : LogState) (g c i : ℕ) (o : Option ℕ) (b e : B) where
  pub nobody_moves : o ≡ None → Ends steps (move l g c i o) b l b
  unfolding move
  nobody_moves q = rw q (ends_give steps l b)

  pub one_moves : (p : ℕ) (x : List ℕ) (m : B) (done : Bool) (k : LogState) → o ≡ Some p → Ends steps (read l c i) b (found x) m → Ends steps (place l g p x) m (placed_as done k) e → Ends steps (move l g c i o) b k e
  unfolding move
  one_moves p x m done k q got put = rw q (ends_bind steps (read l c i) (λ r. moved l g c i p r) b m e (found x) k got (ends_bind steps (place l g p x) (λ r. give r.log) m e e (placed_as done k) k put (ends_give steps k e)))

  pub one_is_lost : (p s : ℕ) (k : LogState) → o ≡ Some p → Ends steps (read l c i) b (missed s) e → k ≡ with_tables l (with_page l.tables p (Lost c s)) → Ends steps (move l g c i o) b k e
  unfolding move
  one_is_lost p s k q lost same =
      let gone = with_tables l (with_page l.tables p (Lost c s)) in
      rw (q, same) (ends_bind steps (read l c i) (λ r. moved l g c i p r) b e e (missed s) _ lost (ends_note steps _ (give gone) e e _ (ends_give steps gone e)))

module _ (v : Tables) (g c i p : ℕ) (h : Cleaning v g c i) (lt : i < v.shape.servers) (at : page_at v.pages c i ≡ Some p) where
  pub place_fits : (v.filled < v.shape.servers) × Changes v p (Out g v.filled)
  place_fits =
      let q = clean_page v g c i p h lt at in
      let room : v.filled < v.shape.servers = omega (arith, q.2) in
      (room, changes_place v g p h.sound h.open_now room q.0)

  pub lose_fits : (m : ℕ) → Changes v p (Lost c m)
  lose_fits m = changes_lose v p c m h.sound (clean_page v g c i p h lt at).0

module _ {B : Type 0} (steps : RowRule B) (whole : LogRule LogState) (b₀ b : B) (g c i n : ℕ) (l : LogState) (inv : Leads steps whole b₀ (move_all (range_with_len i (n - i)) g c l) b) where
  pub move_more : (b' : B) (k : LogState) → i < n → Ends steps (move l g c i (page_at l.tables.pages c i)) b k b' → Leads steps whole b₀ (move_all (range_with_len (i + 1) (n - (i + 1))) g c k) b'
  unfolding move_all
  move_more b' k h run = leads_bind steps whole b₀ b b' (move l g c i (page_at l.tables.pages c i)) (λ x. move_all (range_with_len (i + 1) (n - (i + 1))) g c x) k (rw (span_more i n h) at inv) run

  pub move_end : n ≤ i → Ends steps whole b₀ l b
  unfolding move_all
  move_end h = leads_give steps whole b₀ b l (rw (span_none i n h) at inv)

pub cleans : {B : Type 0} (steps : RowRule B) (l k x : LogState) (g c : ℕ) (b m e : B) → Ends steps (move_all (range_with_len 0 l.tables.shape.servers) g c l) b k m → Ends steps (release k c) m x e → Ends steps (clean l g (Some c)) b x e
unfolding clean
cleans steps l k x g c b m e moves frees = ends_bind steps (move_all (range_with_len 0 l.tables.shape.servers) g c l) (λ y. release y c) b m e k x moves frees

module _ {B : Type 0} (steps : RowRule B) (l : LogState) (g : ℕ) (b e : B) (next : next_free l.tables ≡ Some g) where
  abbrev after : LogState
  after = with_tables l (opened l.tables g)

  pub opens_next : (k : LogState) → 1 < free_count l.tables → k ≡ after → Ends steps (open_next_rule l (next_free l.tables)) b (ready g k) b
  unfolding open_next_rule
  opens_next k h same = rw (next, lt-ltb 1 (free_count l.tables) h, same) (ends_give steps (ready g after) b)

  pub opens_last : (c : ℕ) (k : LogState) → free_count l.tables ≤ 1 → fewest_live l.tables ≡ Some c → Ends steps (clean after g (Some c)) b k e → Ends steps (open_next_rule l (next_free l.tables)) b (ready g k) e
  unfolding open_next_rule
  opens_last c k h few run = rw (next, le-ltb 1 (free_count l.tables) h, few) (ends_bind steps (clean after g (Some c)) (λ x. give (ready g x)) b e e k (ready g k) run (ends_give steps (ready g k) e))

module _ {B : Type 0} (steps : RowRule B) (l : LogState) (o : Option ℕ) (b e : B) where
  pub open_already : (g : ℕ) → o ≡ Some g → Ends steps (with_open l o) b (ready g l) b
  unfolding with_open
  open_already g q = rw q (ends_give steps (ready g l) b)

  pub none_open : (r : Ready) → o ≡ None → Ends steps (open_next_rule l (next_free l.tables)) b r e → Ends steps (with_open l o) b r e
  unfolding with_open
  none_open r q run = rw q run

-- the fewest live, where the last free group is opened
pub last_opened : (v : Tables) (g c : ℕ) (o : Option ℕ) → Settled v → open_group v ≡ None → next_free v ≡ Some g → free_count v ≤ 1 → o ≡ fewest_live v → o ≡ Some c → (fewest_live v ≡ Some c) × Cleaning (opened v g) g c 0
last_opened v g c o s none next one e is =
    let r = open_last v g s none next one in
    let f = r.1 in
    let same : r.0 ≡ c = cc in
    (sym e ∙ is, subst (λ (k : ℕ). Cleaning (opened v g) g k 0) same r.2)

pub some_fewest : {P : Type 0} (v : Tables) (g : ℕ) (o : Option ℕ) → Settled v → open_group v ≡ None → next_free v ≡ Some g → free_count v ≤ 1 → o ≡ fewest_live v → o ≡ None → P
some_fewest v g o s none next one e is = let r = open_last v g s none next one in let f = r.1 in let z : ◌≡◌ {A = ℕ} 0 1 = cc in absurd (omega arith)

open_from : (s : GroupState) (g h : ℕ) → cond (is_open s) (Some h) None ≡ Some g → (s ≡ Open) × (h ≡ g)
open_from Free g h e = let z : ◌≡◌ {A = ℕ} 0 1 = cc in absurd (omega arith)
open_from Open g h e = (refl, cc)
open_from Closed g h e = let z : ◌≡◌ {A = ℕ} 0 1 = cc in absurd (omega arith)

-- the open group is open
pub open_state : (v : Tables) (o : Option ℕ) (g : ℕ) → when_open v o ≡ Some g → state_of v g ≡ Open
open_state v None g e = let z : ◌≡◌ {A = ℕ} 0 1 = cc in absurd (omega arith)
open_state v (Some h) g e = let r = open_from (state_of v h) g h e in ap (state_of v) (sym r.1) ∙ r.0
