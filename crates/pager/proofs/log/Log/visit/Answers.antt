use Rattle.std.proofs.Common.{length, refl, ap}
use Rattle.pager.specs.Moments.{log_state}
use Rattle.pager.proofs.VisitLaws.{no_member, visits, delivers}
use Rattle.pager.proofs.log.Log.visit.Goals as goal

pub returns-then-server-member_count : goal.returns-then-server-member_count
returns-then-server-member_count g c =
    let b = c.args.self.now.bank in
    record { tables = refl; running = refl; ran = no_member g.B.Bank.steps (log_state c.args.self.now) c.args.server c.args.group b b b c.member_count.result c.member_count.ensures c.if-server-member_count.true }

pub returns-in-Ok : goal.returns-in-Ok
returns-in-Ok g c =
    let steps = g.B.Bank.steps in
    let l = log_state c.args.self.now in
    let m = c.get.new.self in
    record {
      tables = refl;
      running = refl;
      ran = visits steps l c.args.server c.args.group c.args.self.now.bank m m c.member_count.result _ _ _ c.member_count.ensures c.if-server-member_count.false (ap length c.zero-page.ensures) c.in-Ok.ensures.steps (delivers steps l c.args.server c.args.group m m m _);
    }

pub returns-in-Err : goal.returns-in-Err
returns-in-Err g c = record {
  tables = c.mend.ensures.tables;
  running = c.mend.ensures.running;
  ran = visits g.B.Bank.steps (log_state c.args.self.now) c.args.server c.args.group c.args.self.now.bank c.get.new.self c.mend.new.self.bank c.member_count.result _ _ _ c.member_count.ensures c.if-server-member_count.false (ap length c.zero-page.ensures) c.in-Err.ensures.steps (c.mend.ensures.ran _);
}
