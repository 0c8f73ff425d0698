use Rattle.std.proofs.Common.{Ok, ap, ◌∙◌, arith, refl}
use Rattle.pager.specs.Moments.{log_state}
use Rattle.parity_log.specs.LogState.{log_of}
use Rattle.session.specs.Calls.{groups_of}
use Rattle.session.proofs.RebuildLaws.{closed, none_come, one_more}
use Rattle.session.proofs.running.Session.rebuild.Goals as goal

pub loop-init : goal.loop-init
loop-init g c =
    let before = c.args.self.now.pager.log in
    record { log = refl; come = none_come g.B.Bank.steps (log_state before) c.in_ok-job.job.progress before.bank }

pub loop-preserved : goal.loop-preserved
loop-preserved g c =
    let before = c.args.self.now.pager.log in
    let now = c.loop.self.pager.log in
    record {
      log = (λ i. log_of (c.step.ensures.tables i).tables (c.step.ensures.running i).0) ∙ c.loop.invariant.log;
      come = one_more g.B.Bank.steps (log_state before) c.in_ok-job.job.progress before.bank c.loop.counter c.loop.job.progress now.bank (log_state now) c.step.result.1 c.step.result.0.progress c.step.new.self.log.bank (omega (arith, c.loop-test.true)) c.loop.invariant.log c.loop.invariant.come c.step.ensures.ran;
    }

pub returns-clause-ran : goal.returns-clause-ran
returns-clause-ran g c =
    let before = c.args.self.now.pager.log in
    closed g.B.Bank.steps (log_state before) c.in_ok-job.job.progress before.bank c.args.server c.loop.counter c.loop.job.progress c.loop.self.pager.log.bank _ c.in_ok-job.ensures.begun (omega (arith, c.loop-test.false)) c.loop.invariant.come (ap (λ s. Ok (groups_of s)) c.close-counts.ensures.counts)
