-- Pageout, with its cleaning, and free: what is asked, what is answered, and the log after.
use Rattle.std.specs.Prelude.{ℕ, ◌+◌, Bool, true, false, cond, ◌&&◌, List, [], ◌∷◌, length, set, is_ok, Some, None, Ok, Err, Option, Result, ◌==◌, nat_lt}
use Rattle.std.specs.List.{range_with_len}
use Rattle.page.specs.declared.faults.Fault.{Fault}
use Rattle.page.specs.Pages.{page_size, zeros, xor_page}
use Rattle.server.specs.Calls.{to_put, to_free}
use Rattle.parity_log.specs.declared.records.PageState.TheVariants.{NotOut, Out, Lost}
use Rattle.parity_log.specs.declared.records.GroupState.TheVariants.{Free, Open, Closed}
use Rattle.parity_log.specs.declared.records.Tables.{Tables}
use Rattle.parity_log.specs.LogState.{LogState, log_of, with_tables}
use Rattle.parity_log.specs.Tables.{state_of, page_state, with_page, with_state, is_closed, page_at, live, group_of}
use Rattle.parity_log.specs.Choices.{open_group, next_free, free_count, fewest_live}
use Rattle.parity_log.specs.Faults.{lost_page, objection}
use Rattle.parity_log.specs.Reading.{LogRule, gather, Reading, found, missed, restored, read}
use Rattle.parity_log.specs.Rule.{give, ask, note, ◌>>=◌}

-- an answer, and the log after it
pub record Told : Type 0 where
  pub said : Result (Unit {0}) Fault
  pub log : LogState

abbrev pub told : Result (Unit {0}) Fault → LogState → Told
told a l = record { said = a; log = l }

-- Step 1. A group is opened.
abbrev pub opened : Tables → ℕ → Tables
opened v g = record { shape = v.shape; pages = v.pages; states = set v.states g Open; last = Some g; filled = v.filled }

-- Step 2. A page is put at the next position of the open group, named in the table, and added to the running parity.
abbrev pub grown : Tables → Tables
grown v = record { shape = v.shape; pages = v.pages; states = v.states; last = v.last; filled = v.filled + 1 }

abbrev pub placed : Tables → ℕ → ℕ → Tables
placed v g p = grown (with_page v p (Out g v.filled))

abbrev pub placed_log : LogState → ℕ → ℕ → List ℕ → LogState
placed_log l g p x = log_of (placed l.tables g p) (xor_page l.running x)

-- whether the put was done, and the log
pub record Placed : Type 0 where
  pub done : Bool
  pub log : LogState

unfoldable pub place : LogState → ℕ → ℕ → List ℕ → LogRule Placed
place l g p x = ask l.tables.filled (to_put g x) (λ a. give (record { done = is_ok a; log = placed_log l g p x }))

-- Step 3. A closed group without a live position becomes free, and its slot is freed on every server, parity last.
unfoldable pub free_on : List ℕ → ℕ → LogState → LogRule LogState
free_on [] g l = give l
free_on (k ∷ ks) g l = ask k (to_free g) (λ _. free_on ks g l)

unfoldable pub release : LogState → ℕ → LogRule LogState
release l g = free_on (range_with_len 0 (l.tables.shape.servers + 1)) g (with_tables l (with_state l.tables g Free))

abbrev pub unused : Tables → ℕ → Bool
unused v g = is_closed (state_of v g) && live v g == 0

-- of the group in which a position became old: every other closed group has a live position
unfoldable pub release_old : Option ℕ → LogState → LogRule LogState
release_old None l = give l
release_old (Some g) l = cond (unused l.tables g) (release l g) (give l)

-- the tables after that
abbrev pub released_old : Option ℕ → Tables → Tables
released_old None v = v
released_old (Some g) v = cond (unused v g) (with_state v g Free) v

-- Step 4. A full group's parity is put, whether or not that is done, and cleared, and the group is closed.
abbrev pub shut : Tables → ℕ → Tables
shut v g = record { shape = v.shape; pages = v.pages; states = set v.states g Closed; last = v.last; filled = 0 }

unfoldable pub close_full : LogState → ℕ → LogRule LogState
close_full l g = cond (l.tables.filled == l.tables.shape.servers)
    (ask l.tables.shape.servers (to_put g l.running) (λ _. give (log_of (shut l.tables g) zeros)))
    (give l)

-- the tables after that
abbrev pub closed_full : Tables → ℕ → Tables
closed_full v g = cond (v.filled == v.shape.servers) (shut v g) v

-- and the log
abbrev pub closed_log : LogState → ℕ → LogState
closed_log l g = log_of (closed_full l.tables g) (cond (l.tables.filled == l.tables.shape.servers) zeros l.running)

-- Cleaning, of the group c into the open group g, position by position.
abbrev pub moved : LogState → ℕ → ℕ → ℕ → ℕ → Reading → LogRule LogState
moved l g c i p (found x) = place l g p x >>= λ r. give r.log
moved l g c i p (missed s) =
    note (record { page = p; group = c; position = i; set = s; tables = l.tables })
    (give (with_tables l (with_page l.tables p (Lost c s))))

unfoldable pub move : LogState → ℕ → ℕ → ℕ → Option ℕ → LogRule LogState
move l g c i None = give l
move l g c i (Some p) = read l c i >>= λ r. moved l g c i p r

unfoldable pub move_all : List ℕ → ℕ → ℕ → LogState → LogRule LogState
move_all [] g c l = give l
move_all (i ∷ is) g c l = move l g c i (page_at l.tables.pages c i) >>= λ m. move_all is g c m

unfoldable pub clean : LogState → ℕ → Option ℕ → LogRule LogState
clean l g None = give l
clean l g (Some c) = move_all (range_with_len 0 l.tables.shape.servers) g c l >>= λ m. release m c

-- Step 1 as a whole: the open group and the log. The last free group is opened only for a cleaning.
pub record Ready : Type 0 where
  pub group : ℕ
  pub log : LogState

abbrev pub ready : ℕ → LogState → Ready
ready g l = record { group = g; log = l }

unfoldable pub open_next_rule : LogState → Option ℕ → LogRule Ready
open_next_rule l None = give (ready 0 l)
open_next_rule l (Some g) =
    let o = with_tables l (opened l.tables g) in
    cond (nat_lt 1 (free_count l.tables)) (give o) (clean o g (fewest_live l.tables)) >>= λ m. give (ready g m)

unfoldable pub with_open : LogState → Option ℕ → LogRule Ready
with_open l (Some g) = give (ready g l)
with_open l None = open_next_rule l (next_free l.tables)

-- Step 5. After a refused put, the page stays out only if all other members deliver.
unfoldable pub judged : LogState → ℕ → ℕ → ℕ → Reading → LogRule Told
judged l p g i (found x) = give (told (Ok tt) l)
judged l p g i (missed s) =
    note (record { page = p; group = g; position = i; set = s; tables = l.tables })
    (release_old (Some g) (with_tables l (with_page l.tables p (Lost g s))) >>= λ m. give (told (Err (lost_page p g s)) m))

unfoldable pub ending : LogState → ℕ → ℕ → ℕ → Bool → LogRule Told
ending l p g i true = give (told (Ok tt) l)
ending l p g i false = gather l g i >>= λ r. judged l p g i (restored l.tables i r)

-- Pageout.
unfoldable pub steps : LogState → ℕ → List ℕ → LogRule Told
steps l p x = do
  o ← with_open l (open_group l.tables)
  t ← place o.log o.group p x
  w ← release_old (group_of (page_state o.log.tables p)) t.log
  u ← close_full w o.group
  ending u p o.group o.log.tables.filled t.done

abbrev pub pageout_unless : Option Fault → LogState → ℕ → List ℕ → LogRule Told
pageout_unless (Some f) l p x = give (told (Err f) l)
pageout_unless None l p x = steps l p x

unfoldable pub pageout : LogState → ℕ → List ℕ → LogRule Told
pageout l p x = pageout_unless (objection l.tables p (length x)) l p x

-- Free.
abbrev pub free_unless : Option Fault → LogState → ℕ → LogRule Told
free_unless (Some f) l p = give (told (Err f) l)
free_unless None l p =
    release_old (group_of (page_state l.tables p)) (with_tables l (with_page l.tables p NotOut))
    >>= λ m. give (told (Ok tt) m)

unfoldable pub free : LogState → ℕ → LogRule Told
free l p = free_unless (objection l.tables p page_size) l p
