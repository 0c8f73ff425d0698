-- Calls that nothing is objected to.
use Rattle.std.specs.Prelude.{◌≡◌, ℕ, Ok}
use Rattle.parity_log.specs.declared.records.Progress.{Progress}
use Rattle.parity_log.specs.declared.records.Tables.{Tables}
use Rattle.parity_log.specs.Faults.{objection, refused_by}
use Rattle.parity_log.specs.Rebuilding.{misfit}

-- on a page, with so many bytes
abbrev pub Admitted : Tables → ℕ → ℕ → Type 0
Admitted v p n = Ok tt ≡ refused_by (objection v p n)

-- a step of a job
abbrev pub AdmittedJob : Tables → Progress → Type 0
AdmittedJob v j = Ok tt ≡ refused_by (misfit v j)
