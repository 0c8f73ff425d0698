-- Rebuild jobs: the members on one server put back, a group at each step.
use Rattle.std.specs.Prelude.{ℕ, ◌+◌, ◌-◌, cond, ◌&&◌, List, is_ok, Some, None as Nowhere, Ok, Err, Option, Result, ◌==◌, nat_le, nat_lt}
use Rattle.page.specs.declared.faults.Fault.{Fault}
use Rattle.page.specs.declared.faults.Layer.TheVariants.{Log}
use Rattle.page.specs.declared.faults.Refusal.TheVariants.{Range, Shape as BadShape}
use Rattle.page.specs.Pages.{page_size}
use Rattle.page.specs.Refusals.{fault_of}
use Rattle.server.specs.Calls.{to_put, to_get}
use Rattle.parity_log.specs.declared.records.Shape.{Shape}
use Rattle.parity_log.specs.declared.records.Tables.{Tables}
use Rattle.parity_log.specs.LogState.{LogState}
use Rattle.parity_log.specs.declared.records.Progress.{Progress}
use Rattle.parity_log.specs.declared.records.Counts.{Counts}
use Rattle.parity_log.specs.declared.records.Visit.{Visit}
use Rattle.parity_log.specs.declared.records.Visit.TheVariants.{Intact, Rebuilt, Failed}
use Rattle.parity_log.specs.Tables.{within, state_of, member_count_of}
use Rattle.parity_log.specs.Reading.{LogRule, Gathered, gather}
use Rattle.parity_log.specs.Rule.{give, ask, ◌>>=◌}

-- Begin: a job at group 0, for a data server or, by the number after theirs, the parity server.
abbrev pub begun : Shape → ℕ → Progress
begun s k = record { server = k; group = 0; rebuilt = 0; failed = 0; servers = s.servers; groups = s.groups }

abbrev pub begin : Tables → ℕ → Result Progress Fault
begin v k = cond (within v.shape) (cond (nat_le k v.shape.servers) (Ok (begun v.shape k)) (Err (fault_of Log Range))) (Err (fault_of Log BadShape))

-- Visiting a group for the server k. A member that refuses is put back if all others deliver.
unfoldable pub put_back : ℕ → ℕ → Gathered → LogRule Visit
put_back k g r = cond (r.missing == 0) (ask k (to_put g r.sum) (λ a. give (cond (is_ok a) Rebuilt Failed))) (give Failed)

unfoldable pub mend : LogState → ℕ → ℕ → Result (List ℕ) Fault → LogRule Visit
mend l k g (Ok x) = give Intact
mend l k g (Err f) = gather l g k >>= λ r. put_back k g r

unfoldable pub visit : LogState → ℕ → ℕ → LogRule Visit
visit l k g =
    let v = l.tables in
    cond (nat_lt k (member_count_of (state_of v g) v.shape.servers v.filled)) (ask k (to_get g page_size) (λ a. mend l k g a)) (give Intact)

-- Step: one group further, with so many more rebuilt and failed.
abbrev pub further : Progress → ℕ → ℕ → Progress
further j r f = record { server = j.server; group = j.group + 1; rebuilt = j.rebuilt + r; failed = j.failed + f; servers = j.servers; groups = j.groups }

abbrev pub counted : Progress → Visit → Progress
counted j Intact = further j 0 0
counted j Rebuilt = further j 1 0
counted j Failed = further j 0 1

-- an answer, and the job that is given back
pub record Stepped : Type 0 where
  pub said : Result (Unit {0}) Fault
  pub job : Progress

abbrev pub stepped : Result (Unit {0}) Fault → Progress → Stepped
stepped a j = record { said = a; job = j }

-- what a step is refused for, if for anything: a pager that is not made, and then one with other numbers of servers or groups than the job's
abbrev pub misfit : Tables → Progress → Option Fault
misfit v j = cond (within v.shape) (cond (j.servers == v.shape.servers && j.groups == v.shape.groups) Nowhere (Some (fault_of Log Range))) (Some (fault_of Log BadShape))

-- past the last group a step is done and changes nothing
abbrev pub step_unless : Option Fault → LogState → Progress → LogRule Stepped
step_unless (Some f) l j = give (stepped (Err f) j)
step_unless Nowhere l j = cond (nat_lt j.group j.groups) (visit l j.server j.group >>= λ r. give (stepped (Ok tt) (counted j r))) (give (stepped (Ok tt) j))

unfoldable pub step : LogState → Progress → LogRule Stepped
step l j = step_unless (misfit l.tables j) l j

-- Close.
abbrev pub counts : Progress → Counts
counts j = record { rebuilt = j.rebuilt; failed = j.failed; unvisited = j.groups - j.group }
