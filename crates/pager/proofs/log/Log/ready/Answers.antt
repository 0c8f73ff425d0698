use Rattle.std.proofs.Common.{sym, refl, ◌∙◌}
use Rattle.parity_log.specs.Choices.{open_group}
use Rattle.pager.specs.Moments.{log_state}
use Rattle.pager.proofs.CleaningWays.{open_state, open_already, none_open}
use Rattle.pager.proofs.log.Log.ready.Goals as goal

pub returns-in-Some : goal.returns-in-Some
returns-in-Some g c =
    let l = log_state c.args.self.now in
    let v = l.tables in
    let b = c.args.self.now.bank in
    let is = sym c.open_group.ensures ∙ c.in-Some.is in
    record {
      ready = record { settled = c.requires.tables; open_now = open_state v v.last c.in-Some.group is };
      shape = refl;
      ran = open_already g.B.Bank.steps l (open_group v) b b c.in-Some.group is;
    }

pub returns-in-None : goal.returns-in-None
returns-in-None g c =
    let l = log_state c.args.self.now in
    let v = l.tables in
    let out = c.open_next.ensures in
    record {
      ready = out.ready;
      shape = out.shape;
      ran = none_open g.B.Bank.steps l (open_group v) c.args.self.now.bank c.open_next.new.self.bank _ (sym c.open_group.ensures ∙ c.in-None.is) out.ran;
    }
