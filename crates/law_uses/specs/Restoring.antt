-- A server that is brought back and rebuilt, with pageouts between the steps.
use Rattle.std.specs.Prelude.{◌≡◌, ℕ, ◌+◌, ◌<◌, true, List, slice_get, Some, None, Ok, Option, Result}
use Rattle.std.specs.Result.{result_and}
use Rattle.page.specs.declared.faults.Fault.{Fault}
use Rattle.parity_log.specs.declared.records.Counts.{Counts}
use Rattle.parity_log.specs.declared.records.Progress.{Progress}
use Rattle.law.specs.Law.{Healthy, Lawful, NothingMissing, OnlyAt, Rebuilt}
use Rattle.law.specs.Runs.{Moment, Turn, Happens, Run, begins, closes, pages_out, returns, steps}
use Rattle.pager.specs.Moments.{AtMost, Turns}
use Rattle.law_uses.specs.declared.restoring.Pageout.{Pageout}
use Rattle.law_uses.specs.declared.restoring.Restoration.{Restoration}

-- a pageout with its answer; where there is none, nothing happens
abbrev pub PagesOut : Moment → Option Pageout → Result (Unit {0}) Fault → Moment → Type 0
PagesOut m None a n = (a ≡ Ok tt) × (n ≡ m)
PagesOut m (Some p) a n = Turns m (λ fs. pages_out p.page p.bytes.0 a fs) n

-- a step of a job, and then such a pageout
pub record AdvancesOnce (m : Moment) (j : Progress) (p : Option Pageout) (n : Moment) (k : Progress) (a : Result (Unit {0}) Fault) : Type 0 where
  pub between : Moment
  pub said : Result (Unit {0}) Fault
  pub step : Turns m (λ fs. steps j said k fs) between
  pub pageout : PagesOut between p a n

-- so many such steps, with these pageouts in their order, and the first refusal among their answers
pub data Advances : Moment → Progress → List Pageout → ℕ → Moment → Progress → Result (Unit {0}) Fault → Type 0 where
  no_steps : {m : Moment} {j : Progress} {ps : List Pageout} → Advances m j ps 0 m j (Ok tt)
  one_more : {m n o : Moment} {j k l : Progress} {ps : List Pageout} {i : ℕ} {a b : Result (Unit {0}) Fault}
      → Advances m j ps i n k a → AdvancesOnce n k (slice_get ps i) o l b
      → Advances m j ps (i + 1) o l (result_and a b)

-- server x came back, or was up, and nothing else happened; then it was rebuilt, by so many steps with these pageouts between them
pub record Restored (x groups : ℕ) (ps : List Pageout) (m n : Moment) (r : Restoration) : Type 0 where
  pub begun : Moment
  pub there : x < m.servers
  pub came_back : AtMost m (returns x) begun
  -- it was up when its rebuild began, and had kept its era
  pub up : (begun.row x).up ≡ true
  pub era : (begun.row x).era ≡ (m.row x).era
  pub job : Progress
  pub last : Progress
  pub began : Happens begun (begins x (Ok job)) begun
  pub advances : Advances begun job ps groups n last r.pageouts
  pub closed : Happens n (closes last r.counts) n
  -- where nothing is unvisited and it kept its era to the end, it is rebuilt as the law has it
  pub rebuilt : r.counts.unvisited ≡ 0 → (n.row x).era ≡ (m.row x).era → Rebuilt x begun n

-- what this brings: where all was well at some moment of a lawful run, and no server but x has another era since, nothing is missing now
abbrev pub Repaired : ℕ → Moment → Moment → Counts → Type 0
Repaired x m n counts =
    (start well : Moment) (ts us : List Turn) → Lawful start → Run start ts well → Healthy well → Run well us m → OnlyAt x well n
    → counts.unvisited ≡ 0 → (n.row x).era ≡ (m.row x).era → NothingMissing n
