-- What the log keeps: its tables, and beside them the running parity of the open group.
use Rattle.std.specs.Prelude.{List, ℕ}
use Rattle.page.specs.Pages.{zeros}
use Rattle.parity_log.specs.declared.records.Tables.{Tables}
use Rattle.parity_log.specs.Tables.{unmade}

pub record LogState : Type 0 where
  pub tables : Tables
  pub running : List ℕ

abbrev pub log_of : Tables → List ℕ → LogState
log_of v y = record { tables = v; running = y }

-- the same log with other tables
abbrev pub with_tables : LogState → Tables → LogState
with_tables s v = log_of v s.running

-- the log of a pager that was not made
abbrev pub unmade_log : LogState
unmade_log = log_of unmade zeros
