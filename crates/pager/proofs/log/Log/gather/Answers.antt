use Rattle.std.proofs.Common.{ℕ, ◌+◌, ◌≤◌, refl, ap, ◌∙◌, arith}
use mir.Facts.{Fits-of_lt}
use Rattle.std.proofs.lemmas.Nat.{pow-add}
use Rattle.parity_log.specs.declared.records.GroupState.{GroupState}
use Rattle.parity_log.specs.declared.records.GroupState.TheVariants.{Free, Open, Closed}
use Rattle.parity_log.specs.Tables.{member_count_of, state_of}
use Rattle.pager.specs.Moments.{log_state}
use Rattle.pager.proofs.AskingLaws.{gather_begins, turn_skip, turn_ask, turns_end, weight_bound}
use Rattle.pager.proofs.log.Log.gather.Goals as goal
use Rattle.pager.proofs.log.Log.gather.Goals.{then-server-but, else-server-but}

members_few : (state : GroupState) (s f : ℕ) → f ≤ s → member_count_of state s f ≤ s + 1
members_few Free s f h = omega arith
members_few Open s f h = omega arith
members_few Closed s f h = omega arith

pub loop-server-init : goal.loop-server-init
loop-server-init g c = (refl, refl, omega arith, (λ _. omega arith), gather_begins g.B.Bank.steps c.args.self.now.bank (log_state c.args.self.now) c.args.group c.args.but _ _ c.member_count-count.ensures c.kept_page-sum.ensures)

pub overflow_add-missing : goal.overflow_add-missing
overflow_add-missing g c =
    let v = c.args.self.now.ledger.tables in
    let k = c.loop-server.server in
    let one = c.ask_member-missing.ensures in
    let few : k ≤ v.shape.servers = omega (arith, members_few (state_of v c.args.group) v.shape.servers v.filled c.args.self.now.limited.filled, c.member_count-count.ensures, c.loop-server-test.true) in
    let bound = weight_bound v.shape.servers k c.loop-server.missing one.0 c.args.self.now.limited.servers few (c.loop-server.invariant.3 few) in
    Fits-of_lt (omega (arith, one.3, bound.0))

pub loop-server-preserved : goal.loop-server-preserved
loop-server-preserved g c =
    let s = c.args.self.now.ledger.tables.shape.servers in
    let k = c.loop-server.server in
    let inv = c.loop-server.invariant in
    let in_range = c.loop-server-test.true in
    let few : k ≤ s = omega (arith, members_few (state_of c.args.self.now.ledger.tables c.args.group) s c.args.self.now.ledger.tables.filled c.args.self.now.limited.filled, c.member_count-count.ensures) in
    elim c.if-server-but.branch [
      | then-server-but w ↦
          let one = w.ask_member-missing.ensures in
          let bound = weight_bound s k c.loop-server.missing one.0 c.args.self.now.limited.servers few (inv.3 few) in
          let e = w.missing-is ∙ ap (λ n. c.loop-server.missing + n) one.3 in
          simp (w.self-is, w.sum-is) (inv.0, inv.1, omega (arith, e, bound.0), (λ lt. omega (arith, e, bound.1 (omega arith))), simp w.missing-is (turn_ask g.B.Bank.steps _ _ _ s c.args.group c.args.but k _ _ _ inv.4 _ _ _ in_range w.if-server-but.true one))
      | else-server-but w ↦
          simp (w.self-is, w.sum-is, w.missing-is) (inv.0, inv.1, inv.2, (λ lt. omega (arith, inv.3 few, pow-add 2 k 1)), turn_skip g.B.Bank.steps _ _ _ s c.args.group c.args.but k _ _ _ inv.4 in_range w.if-server-but.false)
    ]

pub returns-then-missing-eq0 : goal.returns-then-missing-eq0
returns-then-missing-eq0 g c =
    let inv = c.loop-server.invariant in
    record {
      tables = inv.0;
      running = inv.1;
      few = tt;
      ran = (_, turns_end g.B.Bank.steps _ _ _ c.args.self.now.ledger.tables.shape.servers c.args.group c.args.but c.loop-server.server _ _ _ inv.4 c.loop-server-test.false, (c.if-missing-eq0.true, refl));
    }

pub returns-else-missing-eq0 : goal.returns-else-missing-eq0
returns-else-missing-eq0 g c =
    let inv = c.loop-server.invariant in
    record {
      tables = inv.0;
      running = inv.1;
      few = inv.2;
      ran = (_, turns_end g.B.Bank.steps _ _ _ c.args.self.now.ledger.tables.shape.servers c.args.group c.args.but c.loop-server.server _ _ _ inv.4 c.loop-server-test.false, (refl, c.if-missing-eq0.false));
    }
