use Rattle.pager.specs.Moments.{moment_of}
use Rattle.law_uses.specs.Restoring.{Advances}
use Rattle.law_uses.proofs.restoring.restore.Given as goal

abbrev pub invariant-loop-group : goal.invariant-loop-group
invariant-loop-group g l =
    let at = moment_of g.B.Bank.count g.B.Bank.means in
    Advances (at l.initial.pager.log) l.initial.job.progress l.pageouts l.group (at l.pager.log) l.job.progress l.answer
