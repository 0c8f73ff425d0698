use Rattle.std.proofs.Common.{◌<◌, ◌≤◌, Some, sym, ap, ◌∙◌, subst, arith}
use Rattle.parity_log.specs.declared.records.Tables.{Tables}
use Rattle.parity_log.specs.LogState.{with_tables}
use Rattle.parity_log.specs.Order.{Cleaning}
use Rattle.parity_log.specs.Rule.{Ends}
use Rattle.parity_log.specs.Choices.{free_count}
use Rattle.parity_log.specs.Paging.{clean}
use Rattle.parity_log.proofs.Bounds.{shape_bounds}
use Rattle.parity_log.proofs.OpeningLaws.{next_free_lem, open_next}
use Rattle.pager.specs.Moments.{log_state}
use Rattle.pager.specs.Places.{Ready}
use Rattle.pager.proofs.CleaningWays.{opens_next, opens_last, last_opened, some_fewest}
use Rattle.pager.proofs.log.Log.open_next.Goals as goal

pub open-requires : goal.open-requires
open-requires g c =
    let v = c.args.self.now.ledger.tables in
    let s = c.requires.settled.tables.sound in
    omega (arith, (shape_bounds v.shape s.shape).1, (next_free_lem v c.next_free-group.result s c.next_free-group.ensures).0)

pub returns-then-free_count-gt1 : goal.returns-then-free_count-gt1
returns-then-free_count-gt1 g c =
    let l = log_state c.args.self.now in
    let v = l.tables in
    let n = c.next_free-group.result in
    let more : 1 < free_count v = subst (λ k. 1 < k) c.free_count.ensures c.if-free_count-gt1.true in
    let r = open_next v n c.requires.settled.tables c.requires.none_open c.next_free-group.ensures more in
    let now = c.open.ensures.tables in
    record {
      ready = subst (λ (w : Tables). Ready w n) (sym now) (record { settled = r.0; open_now = r.1 });
      shape = ap (λ (w : Tables). w.shape) now;
      ran = opens_next g.B.Bank.steps l n c.args.self.now.bank c.args.self.now.bank c.next_free-group.ensures _ more (ap (with_tables l) now);
    }

pub open-requires-2 : goal.open-requires-2
open-requires-2 g c =
    let v = c.args.self.now.ledger.tables in
    let s = c.requires.settled.tables.sound in
    omega (arith, (shape_bounds v.shape s.shape).1, (next_free_lem v c.next_free-group.result s c.next_free-group.ensures).0)

pub clean-requires : goal.clean-requires
clean-requires g c =
    let v = c.args.self.now.ledger.tables in
    let n = c.next_free-group.result in
    let one : free_count v ≤ 1 = subst (λ k. k ≤ 1) c.free_count.ensures c.if-free_count-gt1.false in
    let r = last_opened v n c.in-Some.from c.fewest_live-fewest.result c.requires.settled.tables c.requires.none_open c.next_free-group.ensures one c.fewest_live-fewest.ensures c.in-Some.is in
    subst (λ (w : Tables). Cleaning w n c.in-Some.from 0) (sym c.open-2.ensures.tables) r.1

pub returns-in-Some : goal.returns-in-Some
returns-in-Some g c =
    let l = log_state c.args.self.now in
    let v = l.tables in
    let n = c.next_free-group.result in
    let b = c.args.self.now.bank in
    let steps = g.B.Bank.steps in
    let one : free_count v ≤ 1 = subst (λ k. k ≤ 1) c.free_count.ensures c.if-free_count-gt1.false in
    let out = c.clean.ensures in
    let now = c.open-2.ensures.tables in
    let few = sym c.fewest_live-fewest.ensures ∙ c.in-Some.is in
    let run = subst (λ (w : Tables). Ends steps (clean (with_tables l w) n (Some c.in-Some.from)) b (log_state c.clean.new.self) c.clean.new.self.bank) now out.ran in
    record {
      ready = out.ready;
      shape = out.shape ∙ ap (λ (w : Tables). w.shape) now;
      ran = opens_last steps l n b c.clean.new.self.bank c.next_free-group.ensures c.in-Some.from (log_state c.clean.new.self) one few run;
    }

pub returns-in_default : goal.returns-in_default
returns-in_default g c =
    let v = c.args.self.now.ledger.tables in
    let one : free_count v ≤ 1 = subst (λ k. k ≤ 1) c.free_count.ensures c.if-free_count-gt1.false in
    some_fewest v c.next_free-group.result c.fewest_live-fewest.result c.requires.settled.tables c.requires.none_open c.next_free-group.ensures one c.fewest_live-fewest.ensures c.in_default.is
