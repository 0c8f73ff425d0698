-- When a call is refused for the pager's shape: any other call before an accepted make, and every make after one.
use Rattle.std.specs.Prelude.{◌≡◌, ℕ, Bool, true, false, Result, Err}
use Rattle.page.specs.Refusals.{fault_of}
use Rattle.page.specs.declared.faults.Fault.{Fault}
use Rattle.page.specs.declared.faults.Layer.TheVariants.{Log}
use Rattle.page.specs.declared.faults.Refusal.TheVariants.{Shape as BadShape}
use Rattle.parity_log.specs.Tables.{within}
use Rattle.replay.specs.declared.listing.Detail.{Detail}
use Rattle.replay.specs.declared.script.Call.{Call}
use Rattle.replay.specs.declared.script.Call.TheVariants.{Out, In, Free, Make, Fall, Back, Rebuild}
use Rattle.session.specs.Calls.{Model, run_model}

abbrev pub is_make : Call → Bool
is_make (Out page value) = false
is_make (In page) = false
is_make (Free page) = false
is_make (Make groups spares) = true
is_make (Fall server) = false
is_make (Back server) = false
is_make (Rebuild server) = false

-- refused, with nothing changed
abbrev pub refused : Model → Result Detail Fault × Model
refused m = (Err (fault_of Log BadShape), m)

pub record ShapeLaws : Type 0 where
  pub made_first : (m : Model) (call : Call) → within m.log.tables.shape ≡ false → is_make call ≡ false → run_model m call ≡ refused m
  pub made_once : (m : Model) (groups spares : ℕ) → within m.log.tables.shape ≡ true → run_model m (Make groups spares) ≡ refused m
