-- The ways through a pageout, and what it leaves.
use Rattle.std.proofs.Common.{◌≡◌, ℕ, ◌+◌, ◌-◌, ◌<◌, Bool, true, false, cond, eqb, List, length, get_or, set, Some, None, Ok, Err, Option, sym, refl, ap, ◌∙◌, subst, arith, get_or-set_same, eq-eqb, ne_eqb}
use Rattle.page.specs.declared.pages.Page.{Page}
use Rattle.bank.specs.Rows.{RowRule}
use Rattle.parity_log.specs.declared.records.PageState.{PageState}
use Rattle.parity_log.specs.declared.records.PageState.TheVariants.{NotOut, Out, Lost}
use Rattle.parity_log.specs.declared.records.GroupState.TheVariants.{Open}
use Rattle.parity_log.specs.declared.records.Tables.{Tables}
use Rattle.parity_log.specs.LogState.{LogState, with_tables}
use Rattle.parity_log.specs.Rule.{give, Ends}
use Rattle.parity_log.specs.Choices.{open_group}
use Rattle.parity_log.specs.Faults.{lost_page}
use Rattle.parity_log.specs.Tables.{capacity, weight, page_state, state_of, with_page, group_of}
use Rattle.parity_log.specs.Order.{Sound, Settled, SettledLog, Leaving}
use Rattle.parity_log.specs.Reading.{Gathered, gather, restored}
use Rattle.parity_log.specs.Paging.{Told, told, ready, with_open, place, placed, placed_log, release_old, released_old, close_full, closed_full, closed_log, shut, judged, ending, steps}
use Rattle.parity_log.proofs.Bounds.{shape_bounds, capacity_fits}
use Rattle.parity_log.proofs.Keeping.{lose_leaves, place_leaves, release_settles, release_open, release_same, close_settles}
use Rattle.parity_log.proofs.RuleLaws.{ends_bind, ends_give, ends_note}
use Rattle.parity_log.proofs.SoundLaws.{positions_within}
use Rattle.pager.specs.Reads.{Gathers}
use Rattle.pager.specs.Places.{Fit, placed_as}

-- a page that is out is out at a place in the tables
pub out_places : (v : Tables) (p g i : ℕ) → Sound v → page_state v p ≡ Out g i → (g < 32) × (i < 8)
out_places v p g i s e =
    let b = shape_bounds v.shape s.shape in
    let q = s.placed p g i e in
    (omega (arith, b.1, q.0), omega (arith, b.5, q.1, positions_within (state_of v g) v.shape.servers v.filled s.filled))

module _ {B : Type 0} (steps' : RowRule B) (l : LogState) (p g i : ℕ) (b e : B) where
  pub done_ends : Ends steps' (ending l p g i true) b (told (Ok tt) l) b
  unfolding ending
  done_ends = ends_give steps' (told (Ok tt) l) b

  module _ (q : Gathered) where
    pub kept_ends : (x : Page) → Gathers q (Ok x) → Ends steps' (gather l g i) b q e → Ends steps' (ending l p g i false) b (told (Ok tt) l) e
    unfolding ending judged
    kept_ends x h run = ends_bind steps' (gather l g i) (λ r. judged l p g i (restored l.tables i r)) b e e q (told (Ok tt) l) run (rw (eq-eqb q.missing 0 h.0) (ends_give steps' (told (Ok tt) l) e))

    pub lost_ends : (m : B) (k : LogState) (others s : ℕ) → Gathers q (Err others) → s ≡ others + weight l.tables.shape.servers i → Ends steps' (gather l g i) b q m
        → Ends steps' (release_old (Some g) (with_tables l (with_page l.tables p (Lost g s)))) m k e → Ends steps' (ending l p g i false) b (told (Err (lost_page p g s)) k) e
    unfolding ending judged
    lost_ends m k others s h is run rel =
        ends_bind steps' (gather l g i) (λ r. judged l p g i (restored l.tables i r)) b m e q (told (Err (lost_page p g s)) k) run
        (rw (ne_eqb q.missing 0 (λ z. h.1 (sym h.0 ∙ z)), h.0, sym is) (ends_note steps' _ _ m e _ (ends_bind steps' (release_old (Some g) (with_tables l (with_page l.tables p (Lost g s)))) (λ x. give (told (Err (lost_page p g s)) x)) m e e k _ rel (ends_give steps' _ e))))

-- the five parts of a pageout
pub paged : {B : Type 0} (steps' : RowRule B) (l o t w u : LogState) (p g : ℕ) (x : List ℕ) (done : Bool) (r : Told) (b b₁ b₂ b₃ b₄ e : B) → Ends steps' (with_open l (open_group l.tables)) b (ready g o) b₁ → Ends steps' (place o g p x) b₁ (placed_as done t) b₂
    → Ends steps' (release_old (group_of (page_state o.tables p)) t) b₂ w b₃ → Ends steps' (close_full w g) b₃ u b₄ → Ends steps' (ending u p g o.tables.filled done) b₄ r e → Ends steps' (steps l p x) b r e
unfolding steps
paged steps' l o t w u p g x done r b b₁ b₂ b₃ b₄ e opens puts frees closes ends =
    ends_bind steps' (with_open l (open_group l.tables)) _ b b₁ e (ready g o) r opens
    (ends_bind steps' (place o g p x) _ b₁ b₂ e (placed_as done t) r puts
    (ends_bind steps' (release_old (group_of (page_state o.tables p)) t) _ b₂ b₃ e w r frees
    (ends_bind steps' (close_full w g) _ b₃ b₄ e u r closes ends)))

closed_same : (v : Tables) (g : ℕ) → ((closed_full v g).pages ≡ v.pages) × ((closed_full v g).shape ≡ v.shape)
closed_same v g = go (eqb v.filled v.shape.servers)
  where
    go : (t : Bool) → ((cond t (shut v g) v).pages ≡ v.pages) × ((cond t (shut v g) v).shape ≡ v.shape)
    go true = (refl, refl)
    go false = (refl, refl)

-- what the placing, the releasing and the closing leave
module _ (o t w u : LogState) (g p : ℕ) (x : List ℕ) (settled : Settled o.tables) (open_now : state_of o.tables g ≡ Open) (below : p < capacity o.tables.shape) (is-t : t ≡ placed_log o g p x)
    (is-w : w ≡ with_tables t (released_old (group_of (page_state o.tables p)) t.tables)) (is-u : u ≡ closed_log w g) where
  -- the group that the page leaves
  abbrev left : Option ℕ
  left = group_of (page_state o.tables p)

  -- the tables after the placing, and after the releasing
  t-is : t.tables ≡ placed o.tables g p
  t-is = ap (λ (k : LogState). k.tables) is-t

  w-is : w.tables ≡ released_old left t.tables
  w-is = ap (λ (k : LogState). k.tables) is-w

  after_release : (w.tables.shape ≡ o.tables.shape) × (w.tables.pages ≡ set o.tables.pages p (Out g o.tables.filled)) × (w.tables.filled ≡ o.tables.filled + 1)
  after_release = let s = release_same t.tables left in
      (ap (λ (y : Tables). y.shape) w-is ∙ s.0 ∙ ap (λ (y : Tables). y.shape) t-is, ap (λ (y : Tables). y.pages) w-is ∙ s.1 ∙ ap (λ (y : Tables). y.pages) t-is, ap (λ (y : Tables). y.filled) w-is ∙ s.3 ∙ ap (λ (y : Tables). y.filled) t-is)

  named_there : page_state w.tables p ≡ Out g o.tables.filled
  named_there =
      let in_range : p < length o.tables.pages = omega (arith, settled.sound.pages, capacity_fits o.tables.shape settled.sound.shape) in
      ap (λ l. get_or l p NotOut) after_release.1 ∙ rw get_or-set_same

  out_shape : u.tables.shape ≡ o.tables.shape
  out_shape = ap (λ (k : LogState). k.tables.shape) is-u ∙ (closed_same w.tables g).1 ∙ after_release.0

  out_there : page_state u.tables p ≡ Out g o.tables.filled
  out_there = ap (λ l. get_or l p NotOut) (ap (λ (k : LogState). k.tables.pages) is-u ∙ (closed_same w.tables g).0) ∙ named_there

  -- a settled log of the same shape, in which the page is out at the next position
  pub out_leaves : SettledLog u × (u.tables.shape ≡ o.tables.shape) × (page_state u.tables p ≡ Out g o.tables.filled)
  out_leaves =
      let leaving = release_settles t.tables left (subst (λ (y : Tables). Leaving y left) (sym t-is) (place_leaves o.tables g p settled open_now below)) in
      let gone = subst (λ (y : Tables). Leaving y None) (sym w-is) leaving in
      let opened = subst (λ (y : Tables). state_of y g ≡ Open) (sym w-is) (release_open t.tables left g (subst (λ (y : Tables). state_of y g ≡ Open) (sym t-is) open_now)) in
      let grew = after_release.2 in
      let top : w.tables.filled - 1 ≡ o.tables.filled = omega arith in
      (subst SettledLog (sym is-u) (close_settles w g p gone opened (omega arith) (named_there ∙ ap (Out g) (sym top))), out_shape, out_there)

-- what a page found lost leaves
pub lost_settles : (l m : LogState) (t : Tables) (p g i s : ℕ) → SettledLog l → p < capacity l.tables.shape → page_state l.tables p ≡ Out g i → t ≡ with_page l.tables p (Lost g s) → m ≡ with_tables l (released_old (Some g) t)
    → SettledLog m × (m.tables.shape ≡ l.tables.shape)
lost_settles l m t p g i s settled below at is-t is-m = (
  subst SettledLog (sym (is-m ∙ ap (λ (y : Tables). with_tables l (released_old (Some g) y)) is-t)) (lose_leaves l p g i s settled below at),
  ap (λ (k : LogState). k.tables.shape) is-m ∙ (release_same t (Some g)).0 ∙ ap (λ (y : Tables). y.shape) is-t,
)

-- a page that is out, or not, leaves a group that has a place in the tables
pub left_fits : (v : Tables) (p : ℕ) (s : PageState) → Sound v → page_state v p ≡ s → Fit (group_of s)
left_fits v p NotOut sound e = tt
left_fits v p (Out g i) sound e = (out_places v p g i sound e).0
left_fits v p (Lost g m) sound e = tt
