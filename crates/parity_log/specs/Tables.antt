-- The log's shape and tables, and what they say of groups, members and live positions.
use Rattle.std.specs.Prelude.{ℕ, ◌+◌, ◌-◌, ◌*◌, ◌^◌, Bool, true, false, cond, not, ◌&&◌, leb, List, [], ◌∷◌, replicate, is_some, Some, None, count_by, filter, Option, ◌==◌, nat_le, nat_lt, slice_index_or, slice_set}
use Rattle.std.specs.List.{range_with_len, list_all}
use Rattle.parity_log.specs.declared.records.Shape.{Shape}
use Rattle.parity_log.specs.declared.records.PageState.{PageState}
use Rattle.parity_log.specs.declared.records.PageState.TheVariants.{NotOut, Out, Lost}
use Rattle.parity_log.specs.declared.records.GroupState.{GroupState}
use Rattle.parity_log.specs.declared.records.GroupState.TheVariants.{Free, Open, Closed}
use Rattle.parity_log.specs.declared.records.Tables.{Tables}

abbrev pub shaped : ℕ → ℕ → ℕ → Shape
shaped s g q = record { servers = s; groups = g; spares = q }

-- 3 to 32 groups, 2 spare groups or more, and fewer than all, and 2 to 8 data servers
abbrev pub within : Shape → Bool
within s = nat_le 3 s.groups && nat_le s.groups 32 && nat_le 2 s.spares && nat_lt s.spares s.groups && nat_le 2 s.servers && nat_le s.servers 8

-- whether a pager can be made over servers of these sizes, the parity server's last
abbrev pub accepts : Shape → List ℕ → Bool
accepts s sizes = within s && list_all (leb s.groups) sizes

-- pages are numbered from 0 up to this, which is excluded
abbrev pub capacity : Shape → ℕ
capacity s = (s.groups - s.spares) * s.servers

-- the tables of a pager just made
abbrev pub initial : Shape → Tables
initial s = record { shape = s; pages = replicate 240 NotOut; states = replicate 32 Free; last = None; filled = 0 }

-- a pager that was not made has a shape that no pager has
abbrev pub unmade : Tables
unmade = initial (shaped 0 0 0)

abbrev pub state_of : Tables → ℕ → GroupState
state_of v g = slice_index_or v.states g Free

abbrev pub page_state : Tables → ℕ → PageState
page_state v p = slice_index_or v.pages p NotOut

-- the same tables but for one entry
abbrev pub with_page : Tables → ℕ → PageState → Tables
with_page v p s = record { shape = v.shape; pages = slice_set v.pages p s; states = v.states; last = v.last; filled = v.filled }

abbrev pub with_state : Tables → ℕ → GroupState → Tables
with_state v g s = record { shape = v.shape; pages = v.pages; states = slice_set v.states g s; last = v.last; filled = v.filled }

abbrev pub is_free : GroupState → Bool
is_free Free = true
is_free Open = false
is_free Closed = false

abbrev pub is_open : GroupState → Bool
is_open Free = false
is_open Open = true
is_open Closed = false

abbrev pub is_closed : GroupState → Bool
is_closed Free = false
is_closed Open = false
is_closed Closed = true

-- A group's members on servers are on the first so many of them: the filled positions of an open group; all positions and the parity of a closed one.
abbrev pub member_count_of : GroupState → ℕ → ℕ → ℕ
member_count_of Free servers filled = 0
member_count_of Open servers filled = filled
member_count_of Closed servers filled = servers + 1

abbrev pub members : Tables → ℕ → List ℕ
members v g = range_with_len 0 (member_count_of (state_of v g) v.shape.servers v.filled)

abbrev pub others : Tables → ℕ → ℕ → List ℕ
others v g k = filter (λ m. not (m == k)) (members v g)

-- what the member on server k adds to a missing set, where the parity server has number s
abbrev pub weight : ℕ → ℕ → ℕ
weight s k = cond (k == s) 256 (2 ^ k)

-- whether a page is out at a position of a group
abbrev pub names : PageState → ℕ → ℕ → Bool
names NotOut g i = false
names (Out h j) g i = h == g && j == i
names (Lost h m) g i = false

-- the page that the table names at a position, counting pages from n
abbrev pub page_from : ℕ → List PageState → ℕ → ℕ → Option ℕ
page_from n [] g i = None
page_from n (s ∷ ss) g i = cond (names s g i) (Some n) (page_from (n + 1) ss g i)

-- a position is live where the table names it
unfoldable pub page_at : List PageState → ℕ → ℕ → Option ℕ
page_at pages g i = page_from 0 pages g i

-- how many of a group's positions, one on each data server, are live
unfoldable pub live_count : List PageState → ℕ → ℕ → ℕ
live_count pages servers g = count_by (λ i. is_some (page_at pages g i)) (range_with_len 0 servers)

abbrev pub live : Tables → ℕ → ℕ
live v g = live_count v.pages v.shape.servers g

-- the group that a page is out at
abbrev pub group_of : PageState → Option ℕ
group_of NotOut = None
group_of (Out g i) = Some g
group_of (Lost g m) = None
