-- Reading a page: its own member first, and all others where that refuses.
use Rattle.std.specs.Prelude.{ℕ, ◌+◌, cond, List, [], ◌∷◌, Some, None as Nowhere, Ok, Err, Option, Result, ◌==◌}
use Rattle.page.specs.declared.faults.Fault.{Fault}
use Rattle.page.specs.declared.faults.Refusal.TheVariants.{None}
use Rattle.page.specs.Pages.{page_size, zeros, xor_page}
use Rattle.server.specs.Calls.{to_get}
use Rattle.parity_log.specs.declared.records.PageState.{PageState}
use Rattle.parity_log.specs.declared.records.PageState.TheVariants.{NotOut, Out, Lost}
use Rattle.parity_log.specs.declared.records.Tables.{Tables}
use Rattle.parity_log.specs.LogState.{LogState}
use Rattle.parity_log.specs.Tables.{state_of, page_state, is_open, others, weight}
use Rattle.parity_log.specs.Faults.{on_page, lost_page, objection}
use Rattle.parity_log.specs.Rule.{Rule, give, ask, note, ◌>>=◌}

-- a page found lost: which, in which group, at which position, with which set, under which tables
pub record Finding : Type 0 where
  pub page : ℕ
  pub group : ℕ
  pub position : ℕ
  pub set : ℕ
  pub tables : Tables

-- a rule that notes each finding, right after the finding's last get
abbrev pub LogRule : Type 0 → Type 0
LogRule A = Rule Finding A

-- what was delivered, added up, and the set of those that refused
pub record Gathered : Type 0 where
  pub sum : List ℕ
  pub missing : ℕ

abbrev pub added : List ℕ → Result (List ℕ) Fault → List ℕ
added sum (Ok x) = xor_page sum x
added sum (Err f) = sum

abbrev pub refusers : ℕ → ℕ → Result (List ℕ) Fault → ℕ
refusers missing w (Ok x) = missing
refusers missing w (Err f) = missing + w

-- these members of a group are asked in turn, whatever the others answered
unfoldable pub asking : ℕ → ℕ → List ℕ → List ℕ → ℕ → LogRule Gathered
asking s g [] sum missing = give (record { sum = sum; missing = missing })
asking s g (k ∷ ks) sum missing = ask k (to_get g page_size) (λ a. asking s g ks (added sum a) (refusers missing (weight s k) a))

-- the running parity of an open group is a member that always delivers, and nobody is asked for it
abbrev pub kept : LogState → ℕ → List ℕ
kept l g = cond (is_open (state_of l.tables g)) l.running zeros

-- every member of the group but k
unfoldable pub gather : LogState → ℕ → ℕ → LogRule Gathered
gather l g k = asking l.tables.shape.servers g (others l.tables g k) (kept l g) 0

-- what a reading of a position came to: the page, or the set of the members that refused
pub data Reading : Type 0 where
  found : List ℕ → Reading
  missed : ℕ → Reading

-- of the position i, which itself refused
abbrev pub restored : Tables → ℕ → Gathered → Reading
restored v i r = cond (r.missing == 0) (found r.sum) (missed (r.missing + weight v.shape.servers i))

abbrev pub or_restored : LogState → ℕ → ℕ → Result (List ℕ) Fault → LogRule Reading
or_restored l g i (Ok x) = give (found x)
or_restored l g i (Err f) = gather l g i >>= λ r. give (restored l.tables i r)

unfoldable pub read : LogState → ℕ → ℕ → LogRule Reading
read l g i = ask i (to_get g page_size) (λ a. or_restored l g i a)

-- Pagein.
abbrev pub delivered : Tables → ℕ → ℕ → ℕ → Reading → LogRule (Result (List ℕ) Fault)
delivered v p g i (found x) = give (Ok x)
delivered v p g i (missed s) = note (record { page = p; group = g; position = i; set = s; tables = v }) (give (Err (lost_page p g s)))

unfoldable pub pagein_from : LogState → ℕ → PageState → LogRule (Result (List ℕ) Fault)
pagein_from l p NotOut = give (Err (on_page None p))
pagein_from l p (Out g i) = read l g i >>= λ r. delivered l.tables p g i r
pagein_from l p (Lost g s) = give (Err (lost_page p g s))

abbrev pub pagein_unless : Option Fault → LogState → ℕ → LogRule (Result (List ℕ) Fault)
pagein_unless (Some f) l p = give (Err f)
pagein_unless Nowhere l p = pagein_from l p (page_state l.tables p)

-- the page p into a buffer of n bytes
unfoldable pub pagein : LogState → ℕ → ℕ → LogRule (Result (List ℕ) Fault)
pagein l p n = pagein_unless (objection l.tables p n) l p
