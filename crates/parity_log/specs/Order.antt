-- What the log's tables keep: within a call, and between calls.
use Rattle.std.specs.Prelude.{◌≡◌, ℕ, ◌+◌, ◌-◌, ◌<◌, ◌≤◌, true, false, List, length, is_some, Some, None, count_by, Option, slice_index_or}
use Rattle.std.specs.List.{range_with_len}
use Rattle.page.specs.Pages.{zeros}
use Rattle.parity_log.specs.declared.records.PageState.{PageState}
use Rattle.parity_log.specs.declared.records.PageState.TheVariants.{NotOut, Out}
use Rattle.parity_log.specs.declared.records.GroupState.{GroupState}
use Rattle.parity_log.specs.declared.records.GroupState.TheVariants.{Free, Open, Closed}
use Rattle.parity_log.specs.declared.records.Tables.{Tables}
use Rattle.parity_log.specs.Tables.{within, capacity, state_of, page_state, page_at, live}
use Rattle.parity_log.specs.LogState.{LogState, unmade_log}
use Rattle.parity_log.specs.Choices.{open_group, free_count}

-- how many positions of a group are filled
abbrev pub positions : GroupState → ℕ → ℕ → ℕ
positions Free servers filled = 0
positions Open servers filled = filled
positions Closed servers filled = servers

-- tables whose counts are within their limits
pub record Limited (v : Tables) : Type 0 where
  pub servers : v.shape.servers ≤ 8
  pub filled : v.filled ≤ v.shape.servers

-- no two pages are out at one position
abbrev pub Once : List PageState → Type 0
Once pages = (p q g i : ℕ) → slice_index_or pages p NotOut ≡ Out g i → slice_index_or pages q NotOut ≡ Out g i → p ≡ q

-- at any moment
pub record Sound (v : Tables) : Type 0 where
  pub shape : within v.shape ≡ true
  pub pages : length v.pages ≡ 240
  pub states : length v.states ≡ 32
  -- no page past the capacity is out
  pub numbered : (p : ℕ) → capacity v.shape ≤ p → page_state v p ≡ NotOut
  -- a page is out at a filled position
  pub placed : (p g i : ℕ) → page_state v p ≡ Out g i → (g < v.shape.groups) × (i < positions (state_of v g) v.shape.servers v.filled)
  pub once : Once v.pages
  -- no group but the one opened last is open
  pub only_open : (g : ℕ) → state_of v g ≡ Open → v.last ≡ Some g
  pub last : (g : ℕ) → v.last ≡ Some g → g < v.shape.groups
  pub beyond : (g : ℕ) → v.shape.groups ≤ g → state_of v g ≡ Free
  pub filled : v.filled ≤ v.shape.servers

-- all closed groups but these have a live position
abbrev pub UsedBut : Tables → (ℕ → Type 0) → Type 0
UsedBut v But = (g : ℕ) → state_of v g ≡ Closed → (But g → ⊥) → 1 ≤ live v g

-- between calls
pub record Settled (v : Tables) : Type 0 where
  pub sound : Sound v
  pub room : v.filled < v.shape.servers
  pub none_open : open_group v ≡ None → v.filled ≡ 0
  pub spare : 1 ≤ free_count v
  pub used : (g : ℕ) → state_of v g ≡ Closed → 1 ≤ live v g

-- the same of a log: while no group is open its running parity is zero
pub record SettledLog (l : LogState) : Type 0 where
  pub tables : Settled l.tables
  pub cleared : open_group l.tables ≡ None → l.running ≡ zeros

-- within a call, once a page has left its group: that group may be unused
pub record Leaving (v : Tables) (left : Option ℕ) : Type 0 where
  pub sound : Sound v
  pub spare : 1 ≤ free_count v
  pub used : UsedBut v (λ h. left ≡ Some h)

-- within a cleaning of the group c into the open group g, before its position i
pub record Cleaning (v : Tables) (g c i : ℕ) : Type 0 where
  pub sound : Sound v
  pub open_now : state_of v g ≡ Open
  pub closed : state_of v c ≡ Closed
  pub moved : (j : ℕ) → j < i → page_at v.pages c j ≡ None
  -- what is still live fits into the open group, with a position left over
  pub room : v.filled + count_by (λ j. is_some (page_at v.pages c j)) (range_with_len i (v.shape.servers - i)) < v.shape.servers
  pub used : UsedBut v (λ h. h ≡ c)

-- of a pager that was made, and of one that was not
pub record Order (l : LogState) : Type 0 where
  pub made : within l.tables.shape ≡ true → SettledLog l
  pub not_made : within l.tables.shape ≡ false → l ≡ unmade_log
