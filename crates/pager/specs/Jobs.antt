-- What a rebuild job comes to.
use Rattle.std.specs.Prelude.{Ok, Err, Result}
use Rattle.page.specs.declared.faults.Fault.{Fault}
use Rattle.parity_log.specs.declared.records.Progress.{Progress}
use Rattle.pager.specs.declared.job.RebuildJob.{RebuildJob}

-- the answer to a begin, by how far its job has come
abbrev pub progress_of : Result RebuildJob Fault → Result Progress Fault
progress_of (Ok j) = Ok j.progress
progress_of (Err f) = Err f
