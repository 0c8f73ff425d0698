-- Runs of a pager: calls with what they answered, losses and returns of servers, one turn after another; and the book that is kept of one.
use Rattle.std.specs.Prelude.{◌≡◌, ℕ, ◌<◌, List, [], ◌∷◌, None, Option, Result, ◌≢◌}
use Rattle.page.specs.declared.faults.Fault.{Fault}
use Rattle.server.specs.Meaning.{Loss, Return}
use Rattle.parity_log.specs.declared.records.Counts.{Counts}
use Rattle.parity_log.specs.declared.records.Progress.{Progress}
use Rattle.parity_log.specs.LogState.{LogState}
use Rattle.parity_log.specs.Making.{made_as, making}
use Rattle.parity_log.specs.Paging.{told, pageout, free}
use Rattle.parity_log.specs.Reading.{Finding, pagein}
use Rattle.parity_log.specs.Rebuilding.{begin, stepped, step, counts}
use Rattle.parity_log.specs.Rule.{Runs}
use Rattle.law.specs.Rows.{Row, RowStep}
use Rattle.law.specs.Book.{has, nothing, Book, found, heard, heard_page, latest}

-- a pager between two calls: its log, how many servers it has, the parity server with them, and what each of them means
pub record Moment : Type 0 where
  pub log : LogState
  pub servers : ℕ
  pub row : Row

-- A call with its arguments, its answer and, where it asks servers, its findings, each with the row at its moment. Or a loss or a return of a server.
pub data Turn : Type 0 where
  makes : ℕ → ℕ → Result ℕ Fault → Turn
  pages_out : ℕ → List ℕ → Result (Unit {0}) Fault → List (Finding × Row) → Turn
  pages_in : ℕ → ℕ → Result (List ℕ) Fault → List (Finding × Row) → Turn
  frees : ℕ → Result (Unit {0}) Fault → List (Finding × Row) → Turn
  begins : ℕ → Result Progress Fault → Turn
  steps : Progress → Result (Unit {0}) Fault → Progress → List (Finding × Row) → Turn
  closes : Progress → Counts → Turn
  loses : ℕ → Turn
  returns : ℕ → Turn

abbrev pub Beside : ℕ → Row → Row → Type 0
Beside s b e = (k : ℕ) → (k ≢ s) → e k ≡ b k

-- what a turn does to log and servers: a call goes by its rule, over servers that may lose in each call on them
abbrev pub Goes : Moment → Turn → LogState → Row → Type 0
Goes m (makes g q a) s e =
    (making m.log.tables m.servers m.row g q ≡ made_as a s.tables) × (s.running ≡ m.log.running) × (e ≡ m.row)
Goes m (pages_out p x a fs) s e = Runs (RowStep m.servers) (pageout m.log p x) m.row fs (told a s) e
Goes m (pages_in p n a fs) s e = Runs (RowStep m.servers) (pagein m.log p n) m.row fs a e × (s ≡ m.log)
Goes m (frees p a fs) s e = Runs (RowStep m.servers) (free m.log p) m.row fs (told a s) e
Goes m (begins k a) s e = (a ≡ begin m.log.tables k) × (s ≡ m.log) × (e ≡ m.row)
Goes m (steps j a k fs) s e = Runs (RowStep m.servers) (step m.log j) m.row fs (stepped a k) e × (s ≡ m.log)
Goes m (closes j c) s e = (c ≡ counts j) × (s ≡ m.log) × (e ≡ m.row)
Goes m (loses k) s e = (k < m.servers) × Loss (m.row k) (e k) × Beside k m.row e × (s ≡ m.log)
Goes m (returns k) s e = (k < m.servers) × Return (m.row k) (e k) × Beside k m.row e × (s ≡ m.log)

-- from one moment to the next
pub record Happens (m : Moment) (t : Turn) (n : Moment) : Type 0 where
  pub servers : n.servers ≡ m.servers
  pub goes : Goes m t n.log n.row

abbrev pub Run : Moment → List Turn → Moment → Type 0
Run m [] o = o ≡ m
Run m (t ∷ ts) o = (n : Moment) × Happens m t n × Run n ts o

-- The book: a done pageout writes its bytes and a done free nothing; a page found lost, or refused as lost, is written lost; all else leaves it.
abbrev pub noted : Book → Turn → Book
noted b (makes g q a) = b
noted b (pages_out p x a fs) = heard p (has x) a (found fs b)
noted b (pages_in p n a fs) = heard_page p a (found fs b)
noted b (frees p a fs) = heard p nothing a (found fs b)
noted b (begins s a) = b
noted b (steps j a k fs) = found fs b
noted b (closes j c) = b
noted b (loses s) = b
noted b (returns s) = b

abbrev pub book_from : Book → List Turn → Book
book_from b [] = b
book_from b (t ∷ ts) = book_from (noted b t) ts

-- of a run from a pager just made
abbrev pub book : List Turn → Book
book ts = book_from (λ _. nothing) ts

abbrev pub findings : Turn → List (Finding × Row)
findings (makes g q a) = []
findings (pages_out p x a fs) = fs
findings (pages_in p n a fs) = fs
findings (frees p a fs) = fs
findings (begins s a) = []
findings (steps j a k fs) = fs
findings (closes j c) = []
findings (loses s) = []
findings (returns s) = []

abbrev pub last_from : ℕ → Option (Finding × Row) → List Turn → Option (Finding × Row)
last_from p o [] = o
last_from p o (t ∷ ts) = last_from p (latest p (findings t) o) ts

-- the finding by which a page was last found lost
abbrev pub last_found : ℕ → List Turn → Option (Finding × Row)
last_found p ts = last_from p None ts
