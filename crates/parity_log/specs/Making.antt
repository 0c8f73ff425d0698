-- The making of a pager: its answer, and the tables after.
use Rattle.std.specs.Prelude.{ℕ, ◌-◌, cond, List, map, Some, None, Ok, Err, Option, Result}
use Rattle.std.specs.List.{range_with_len}
use Rattle.page.specs.declared.faults.Fault.{Fault}
use Rattle.page.specs.declared.faults.Layer.TheVariants.{Log}
use Rattle.page.specs.declared.faults.Refusal.TheVariants.{Shape as BadShape}
use Rattle.page.specs.Refusals.{fault_of}
use Rattle.server.specs.Meaning.{Meaning}
use Rattle.parity_log.specs.declared.records.Shape.{Shape}
use Rattle.parity_log.specs.declared.records.Tables.{Tables}
use Rattle.parity_log.specs.Tables.{shaped, within, accepts, capacity, initial}

abbrev pub sizes : ℕ → (ℕ → Meaning) → List ℕ
sizes count means = map (λ k. (means k).size) (range_with_len 0 count)

-- over all servers, the last for the parity
abbrev pub over_all : ℕ → ℕ → ℕ → Shape
over_all count g q = shaped (count - 1) g q

-- the shape that a making decides: none where there is one already, or these servers can't have it
abbrev pub decided : Tables → ℕ → (ℕ → Meaning) → ℕ → ℕ → Option Shape
decided v count means g q = cond (within v.shape) None (cond (accepts (over_all count g q) (sizes count means)) (Some (over_all count g q)) None)

pub record Made : Type 0 where
  pub said : Result ℕ Fault
  pub tables : Tables

abbrev pub made_as : Result ℕ Fault → Tables → Made
made_as r v = record { said = r; tables = v }

abbrev pub made_with : Tables → Option Shape → Made
made_with v None = made_as (Err (fault_of Log BadShape)) v
made_with v (Some s) = made_as (Ok (capacity s)) (initial s)

abbrev pub making : Tables → ℕ → (ℕ → Meaning) → ℕ → ℕ → Made
making v count means g q = made_with v (decided v count means g q)
