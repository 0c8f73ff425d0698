use Rattle.std.proofs.Common.{◌≡◌, sym, ◌∙◌, subst, ℕ, arith}
use Rattle.pager.specs.Moments.{moment_of}
use Rattle.law_uses.specs.Restoring.{Advances, no_steps, Restored}
use Rattle.law_uses.proofs.Rebuilds.{advanced, copied-get, threaded, done_back, repaired}
use Rattle.law_uses.proofs.restoring.restore.Goals as goal

pub loop-group-init : goal.loop-group-init
loop-group-init g c = no_steps

pub loop-group-preserved : goal.loop-group-preserved
loop-group-preserved g c =
    let looked_up = c.get.ensures.lookup in
    let next = copied-get c.args.pageouts.now c.loop-group.group _ c.get.result looked_up.3 looked_up.1 in
    advanced c.loop-group.invariant c.advance-paged_out.ensures next c.and-answer.ensures

pub returns : goal.returns
returns g c =
    let bank = g.B.Bank in
    let back = done_back bank.count bank.means c.args.pager.now.log.bank c.back.new.self.log.bank c.args.server c.args.pager.now.log.ledger.tables.shape c.in_ok-back.field-0 c.in_ok-back.ensures.meets in
    let at = moment_of bank.count bank.means in
    let all_steps : c.loop-group.group ≡ c.args.groups = omega arith in
    let advances = subst (λ (i : ℕ). Advances (at c.back.new.self.log) c.in_ok-job.job.progress c.args.pageouts.now i (at c.loop-group.pager.log) c.loop-group.job.progress c.loop-group.answer) all_steps c.loop-group.invariant in
    let steps = threaded advances in
    let restored : Restored _ _ _ _ _ _ =
    record {
      begun = at c.back.new.self.log;
      there = back.there;
      came_back = c.back.ensures.turn;
      up = back.up;
      era = back.era;
      job = c.in_ok-job.job.progress;
      last = c.loop-group.job.progress;
      began = c.in_ok-job.ensures.turn;
      advances = advances;
      closed = c.close-counts.ensures.turn _;
      rebuilt = λ visited kept. record {
        job = c.in_ok-job.job.progress;
        last = c.loop-group.job.progress;
        turns = steps.turns;
        sums = c.close-counts.result;
        began = c.in_ok-job.ensures.turn;
        up = back.up;
        run = steps.run;
        thread = steps.thread;
        ended = c.close-counts.ensures.turn _;
        visited = visited;
        era = kept ∙ sym back.era;
      };
    } in
    record { restored = restored; repaired = repaired _ _ _ _ _ _ restored; refused = tt; tables = tt; running = tt; turn = tt }
