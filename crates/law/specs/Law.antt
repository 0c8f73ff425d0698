-- The law: what no run of a pager does, whatever its servers lose and whenever.
use Rattle.std.specs.Prelude.{◌≡◌, ℕ, ◌<◌, true, ◌⊎◌, List, [], ◌∷◌, ◌++◌, Ok, Err, Result, ◌≢◌}
use Rattle.page.specs.declared.faults.Fault.{Fault}
use Rattle.page.specs.declared.faults.Refusal.TheVariants.{None, Lost}
use Rattle.parity_log.specs.declared.records.Counts.{Counts}
use Rattle.parity_log.specs.declared.records.Progress.{Progress}
use Rattle.parity_log.specs.Faults.{lost_page}
use Rattle.parity_log.specs.Reading.{Finding}
use Rattle.law.specs.Rows.{Row}
use Rattle.law.specs.Missing.{Missing}
use Rattle.law.specs.Book.{has, nothing}
use Rattle.law.specs.Invariant.{FoundAt}
use Rattle.law.specs.Runs.{Moment, Turn, pages_out, pages_in, begins, steps, closes, Happens, Run, book, last_found}

abbrev pub NothingMissing : Moment → Type 0
NothingMissing m = (g k : ℕ) → Missing m.log.tables m.row g k → ⊥

-- every server is up, and no member of a group is missing
pub record Healthy (m : Moment) : Type 0 where
  pub up : (k : ℕ) → k < m.servers → (m.row k).up ≡ true
  pub whole : NothingMissing m

-- no server but x has another era at the second moment. An era never falls, and a server that falls or loses anything raises its own:
-- so where all were up at the first, none but x fell, lost anything or came back between the two.
abbrev pub OnlyAt : ℕ → Moment → Moment → Type 0
OnlyAt x m n = (k : ℕ) → k < m.servers → (k ≢ x) → (n.row k).era ≡ (m.row k).era

-- no server has another era at the second moment: none fell, lost anything or came back between the two
abbrev pub SameEras : Moment → Moment → Type 0
SameEras m n = (k : ℕ) → k < m.servers → (n.row k).era ≡ (m.row k).era

-- the fault of a page that is lost, by its latest finding, which was right
abbrev pub LostRightly : ℕ → Fault → List Turn → Type 0
LostRightly p f ts = (g : ℕ) × (s : ℕ) × (f ≡ lost_page p g s) × FoundAt g s (last_found p ts)

-- among these turns the page was paged out, and that was done
abbrev pub PagedOut : ℕ → List Turn → Type 0
PagedOut p ts = (before : List Turn) × (x : List ℕ) × (fs : List (Finding × Row)) × (after : List Turn) × (ts ≡ before ++ (pages_out p x (Ok tt) fs ∷ after))

-- The steps of one job among the turns of a run: each takes the job that the last one gave back, and other turns may stand between them.
pub data Thread : Progress → List Turn → Progress → Type 0 where
  ended : {j : Progress} → Thread j [] j
  between : {j k : Progress} {t : Turn} {ts : List Turn} → Thread j ts k → Thread j (t ∷ ts) k
  stepping : {j k l : Progress} {a : Result (Unit {0}) Fault} {fs : List (Finding × Row)} {ts : List Turn} → Thread k ts l → Thread j (steps j a k fs ∷ ts) l

-- of a job that was begun at the moment m for the server x, which was up, and closed at the moment n
pub record Rebuilt (x : ℕ) (m n : Moment) : Type 0 where
  pub job : Progress
  pub last : Progress
  pub turns : List Turn
  pub sums : Counts
  pub began : Happens m (begins x (Ok job)) m
  pub up : (m.row x).up ≡ true
  pub run : Run m turns n
  pub thread : Thread job turns last
  pub ended : Happens n (closes last sums) n
  -- nothing is unvisited, and the server kept its era
  pub visited : sums.unvisited ≡ 0
  pub era : (n.row x).era ≡ (m.row x).era

-- of every run from the moment m
pub record Lawful (m : Moment) : Type 0 where
  -- what a pagein delivers is what the book has for the page
  pub delivered_as_booked : (ts : List Turn) (n o : Moment) (p len : ℕ) (x : List ℕ) (fs : List (Finding × Row))
      → Run m ts n → Happens n (pages_in p len (Ok x) fs) o
      → book ts p ≡ has x
  -- a pagein is refused as none only if the book has nothing
  pub none_only_where_nothing_is_booked : (ts : List Turn) (n o : Moment) (p len : ℕ) (f : Fault) (fs : List (Finding × Row))
      → Run m ts n → Happens n (pages_in p len (Err f) fs) o → f.refusal ≡ None
      → book ts p ≡ nothing
  -- a pagein is refused as lost only if at the finding its own member and another were missing, and names exactly the missing ones
  pub lost_only_with_two_missing : (ts : List Turn) (n o : Moment) (p len : ℕ) (f : Fault) (fs : List (Finding × Row))
      → Run m ts n → Happens n (pages_in p len (Err f) fs) o → f.refusal ≡ Lost
      → LostRightly p f (ts ++ (pages_in p len (Err f) fs ∷ []))
  -- and so is a pageout
  pub pageout_lost_only_with_two_missing : (ts : List Turn) (n o : Moment) (p : ℕ) (x : List ℕ) (f : Fault) (fs : List (Finding × Row))
      → Run m ts n → Happens n (pages_out p x (Err f) fs) o → f.refusal ≡ Lost
      → LostRightly p f (ts ++ (pages_out p x (Err f) fs ∷ []))
  -- While one server fails, from a moment at which all was well: no pageout is refused as lost,
  pub one_failing_server_loses_no_pageout : (ts us : List Turn) (n o r : Moment) (x p : ℕ) (y : List ℕ) (f : Fault) (fs : List (Finding × Row))
      → Run m ts n → Healthy n → Run n us o → Happens o (pages_out p y (Err f) fs) r → OnlyAt x n r
      → f.refusal ≢ Lost
  -- nor a pagein of a page that had bytes then, or was paged out since;
  pub one_failing_server_loses_no_page : (ts us : List Turn) (n o r : Moment) (x p len : ℕ) (y : List ℕ) (f : Fault) (fs : List (Finding × Row))
      → Run m ts n → Healthy n → Run n us o → Happens o (pages_in p len (Err f) fs) r → OnlyAt x n r
      → (book ts p ≡ has y) ⊎ PagedOut p us
      → f.refusal ≢ Lost
  -- as long as no server at all has another era, nothing is missing;
  pub nothing_is_missing_while_eras_stay : (ts us : List Turn) (n o : Moment)
      → Run m ts n → Healthy n → Run n us o → SameEras n o
      → NothingMissing o
  -- and once the one server that failed has been rebuilt, nothing is missing
  pub a_rebuild_restores_all : (ts us : List Turn) (n o r : Moment) (x : ℕ)
      → Run m ts n → Healthy n → Run n us o → Rebuilt x o r → OnlyAt x n r
      → NothingMissing r
