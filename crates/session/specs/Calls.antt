-- What the calls of a script do to a pager, by the pager's rules, and what they do at the values of its servers.
use Rattle.std.specs.Prelude.{◌≡◌, ℕ, zero, suc, cond, List, length, slice_index, Result, Ok, Err}
use Rattle.page.specs.Pages.{page_of, page_size}
use Rattle.page.specs.Refusals.{fault_of}
use Rattle.page.specs.declared.faults.Fault.{Fault}
use Rattle.page.specs.declared.faults.Layer.TheVariants.{Log}
use Rattle.page.specs.declared.faults.Refusal.TheVariants.{Shape as BadShape}
use Rattle.server.specs.Meaning.{Meaning}
use Rattle.bank.specs.Rows.{RowRule}
use Rattle.parity_log.specs.declared.records.Counts.{Counts}
use Rattle.parity_log.specs.declared.records.Progress.{Progress}
use Rattle.parity_log.specs.declared.records.Shape.{Shape}
use Rattle.parity_log.specs.LogState.{LogState, with_tables}
use Rattle.parity_log.specs.Making.{Made, made_as, making}
use Rattle.parity_log.specs.Paging.{Told, told, pageout, free}
use Rattle.parity_log.specs.Reading.{LogRule, pagein}
use Rattle.parity_log.specs.Rebuilding.{begin, counts, step}
use Rattle.parity_log.specs.Rule.{Ends, give, ◌>>=◌}
use Rattle.parity_log.specs.Tables.{within}
use Rattle.pager.specs.declared.log.Log.{Log as PagerLog}
use Rattle.pager.specs.Moments.{log_state}
use Rattle.pager.specs.Pulls.{HandsOn}
use Rattle.replay.specs.declared.listing.Detail.{Detail}
use Rattle.replay.specs.declared.listing.Detail.TheVariants.{Nothing, Pages, Byte, Groups}
use Rattle.replay.specs.declared.script.Call.{Call}
use Rattle.replay.specs.declared.script.Call.TheVariants.{Out, In, Free, Make, Fall, Back, Rebuild}
use Rattle.session.specs.Model.{Row, meanings, felled, brought_back, exec}

-- an answer with what it has to show
abbrev pub shown : {T : Type 0} → (T → Detail) → Result T Fault → Result Detail Fault
shown detail (Ok x) = Ok (detail x)
shown detail (Err fault) = Err fault

abbrev pub done : Result (Unit {0}) Fault → Result Detail Fault
done answer = shown (λ _. Nothing) answer

-- byte 0 of the page that was read
abbrev pub first_byte : Result (List ℕ) Fault → Result Detail Fault
first_byte answer = shown (λ page. Byte (slice_index page 0)) answer

abbrev pub groups_of : Counts → Detail
groups_of c = Groups c.rebuilt c.failed

-- so many steps of a job
abbrev pub stepping : ℕ → LogState → Progress → LogRule Progress
stepping zero l j = give j
stepping (suc n) l j = step l j >>= λ s. stepping n l s.job

-- a rebuild once it is begun: the steps, and the close
abbrev pub rebuild_begun : ℕ → LogState → Result Progress Fault → LogRule (Result Detail Fault)
rebuild_begun groups l (Ok j) = stepping groups l j >>= λ k. give (Ok (groups_of (counts k)))
rebuild_begun groups l (Err fault) = give (Err fault)

-- a rebuild from its begin to its close, with a step for each group
abbrev pub rebuild : LogState → ℕ → LogRule (Result Detail Fault)
rebuild l server = rebuild_begun l.tables.shape.groups l (begin l.tables server)

-- A call on a pager by its log p, and the log that it leaves.
module _ {B : Type 0} (count : B → ℕ) (means : B → ℕ → Meaning) (steps : RowRule B) (falls backs : B → ℕ → Result (Unit {0}) Fault → B → Type 0) where
  abbrev pub CallRuns : PagerLog B → Call → Result Detail Fault → PagerLog B → Type 0
  CallRuns p (Out page value) a q =
      (r : Result (Unit {0}) Fault) × Ends steps (pageout (log_state p) page (page_of value)) p.bank (told r (log_state q)) q.bank × (a ≡ done r)
  CallRuns p (In page) a q =
      (r : Result (List ℕ) Fault) × Ends steps (pagein (log_state p) page page_size) p.bank r q.bank × (a ≡ first_byte r) × (log_state q ≡ log_state p)
  CallRuns p (Free page) a q =
      (r : Result (Unit {0}) Fault) × Ends steps (free (log_state p) page) p.bank (told r (log_state q)) q.bank × (a ≡ done r)
  CallRuns p (Make groups spares) a q =
      (r : Result ℕ Fault) × (making p.ledger.tables (count p.bank) (means p.bank) groups spares ≡ made_as r q.ledger.tables) × (q.running ≡ p.running) × (q.bank ≡ p.bank) × (a ≡ shown Pages r)
  CallRuns p (Fall server) a q =
      (r : Result (Unit {0}) Fault) × HandsOn falls p.ledger.tables.shape p.bank server r q.bank × (a ≡ done r) × (log_state q ≡ log_state p)
  CallRuns p (Back server) a q =
      (r : Result (Unit {0}) Fault) × HandsOn backs p.ledger.tables.shape p.bank server r q.bank × (a ≡ done r) × (log_state q ≡ log_state p)
  CallRuns p (Rebuild server) a q =
      Ends steps (rebuild (log_state p) server) p.bank a q.bank × (log_state q ≡ log_state p)

-- a pager over memory servers, as values
pub record Model : Type 0 where
  pub log : LogState
  pub row : Row

abbrev pub model : LogState → Row → Model
model log row = record { log = log; row = row }

-- what a made pager hands on; any other refuses
abbrev pub handed : Shape → Row → Result (Unit {0}) Fault × Row → Result (Unit {0}) Fault × Row
handed shape row moved = cond (within shape) moved (Err (fault_of Log BadShape), row)

abbrev pub after_told : Told × Row → Result Detail Fault × Model
after_told r = (done r.0.said, model r.0.log r.1)

abbrev pub after_made : Model → Made → Result Detail Fault × Model
after_made m made = (shown Pages made.said, model (with_tables m.log made.tables) m.row)

-- an answer that leaves the log
abbrev pub after_moved : LogState → Result Detail Fault × Row → Result Detail Fault × Model
after_moved log r = (r.0, model log r.1)

-- a call on it: the answer, and what is left
abbrev pub run_model : Model → Call → Result Detail Fault × Model
run_model m (Out page value) = after_told (exec (pageout m.log page (page_of value)) m.row)
run_model m (In page) = let r = exec (pagein m.log page page_size) m.row in after_moved m.log (first_byte r.0, r.1)
run_model m (Free page) = after_told (exec (free m.log page) m.row)
run_model m (Make groups spares) = after_made m (making m.log.tables (length m.row) (meanings m.row) groups spares)
run_model m (Fall server) = let r = handed m.log.tables.shape m.row (felled m.row server) in after_moved m.log (done r.0, r.1)
run_model m (Back server) = let r = handed m.log.tables.shape m.row (brought_back m.row server) in after_moved m.log (done r.0, r.1)
run_model m (Rebuild server) = after_moved m.log (exec (rebuild m.log server) m.row)
