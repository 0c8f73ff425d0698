-- What the log refuses, and with which places.
use Rattle.std.specs.Prelude.{ℕ, cond, Some, None as Nowhere, Ok, Err, Option, Result, ◌==◌, nat_lt}
use Rattle.page.specs.declared.faults.Fault.{Fault}
use Rattle.page.specs.declared.faults.Layer.TheVariants.{Log}
use Rattle.page.specs.declared.faults.Refusal.{Refusal}
use Rattle.page.specs.declared.faults.Refusal.TheVariants.{Range, Length, Lost, Shape as BadShape}
use Rattle.page.specs.Refusals.{fault_of, of_page, in_group}
use Rattle.parity_log.specs.declared.records.Shape.{Shape}
use Rattle.parity_log.specs.declared.records.Tables.{Tables}
use Rattle.parity_log.specs.Tables.{within, capacity}

-- the shape of a pager that was made
abbrev pub made_shape : Tables → Result Shape Fault
made_shape v = cond (within v.shape) (Ok v.shape) (Err (fault_of Log BadShape))

-- a refusal that names the page
abbrev pub on_page : Refusal → ℕ → Fault
on_page why p = of_page p (fault_of Log why)

-- a lost page, with its group and the members that were missing there
abbrev pub lost_page : ℕ → ℕ → ℕ → Fault
lost_page p g m = in_group g m (on_page Lost p)

-- What a caller is refused for before any server is asked, if for anything: the pager's shape, then the page's number, then the length of its bytes.
abbrev pub objection : Tables → ℕ → ℕ → Option Fault
objection v p n = cond (within v.shape) (cond (nat_lt p (capacity v.shape)) (cond (n == 512) Nowhere (Some (on_page Length p))) (Some (on_page Range p))) (Some (fault_of Log BadShape))

abbrev pub refused_by : Option Fault → Result (Unit {0}) Fault
refused_by Nowhere = Ok tt
refused_by (Some f) = Err f
