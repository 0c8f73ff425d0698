-- Who is named at each position: the page table read the other way, kept beside it so that no search goes over all pages.
use Rattle.std.specs.Prelude.{◌≡◌, ℕ, ◌<◌, true, false, cond, List, [], length, None, Option, ◌≢◌, slice_index_or}
use Rattle.parity_log.specs.declared.records.PageState.{PageState}
use Rattle.parity_log.specs.declared.records.PageState.TheVariants.{NotOut, Out, Lost}
use Rattle.parity_log.specs.declared.records.Tables.{Tables}
use Rattle.parity_log.specs.Tables.{names, page_at, page_state}
use Rattle.parity_log.specs.Order.{Once}

-- each group has eight places
abbrev pub Rows : List (List (Option ℕ)) → Type 0
Rows owners = (g : ℕ) → g < 32 → length (slice_index_or owners g []) ≡ 8

-- who is named at a position of a group
abbrev pub owner_at : List (List (Option ℕ)) → ℕ → ℕ → Option ℕ
owner_at owners g i = slice_index_or (slice_index_or owners g []) i None

-- it says what the page table says
abbrev pub Tied : List PageState → List (List (Option ℕ)) → Type 0
Tied pages owners = (g i : ℕ) → g < 32 → i < 8 → owner_at owners g i ≡ page_at pages g i

-- the position of a page that is out, given to another; every other position keeps its owner
abbrev pub Renamed : List (List (Option ℕ)) → PageState → Option ℕ → List (List (Option ℕ)) → Type 0
Renamed old s owner new = (g i : ℕ) → g < 32 → i < 8 → owner_at new g i ≡ cond (names s g i) owner (owner_at old g i)

-- a state whose position, if it has one, has a place in the table
abbrev pub Fits : PageState → Type 0
Fits NotOut = Unit {0}
Fits (Out g i) = (g < 32) × (i < 8)
Fits (Lost g m) = Unit {0}

-- nobody else is out where this state puts the page
abbrev pub Unnamed : List PageState → ℕ → PageState → Type 0
Unnamed pages p s = (q g i : ℕ) → (q ≢ p) → names s g i ≡ true → names (slice_index_or pages q NotOut) g i ≡ false

-- when a page's entry may be changed to s
pub record Changes (v : Tables) (p : ℕ) (s : PageState) : Type 0 where
  pub within : p < 240
  pub was : Fits (page_state v p)
  pub fits : Fits s
  pub once : Once v.pages
  pub unnamed : Unnamed v.pages p s
