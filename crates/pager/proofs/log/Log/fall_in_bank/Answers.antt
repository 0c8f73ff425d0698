use Rattle.std.proofs.Common.{refl}
use Rattle.pager.specs.Moments.{log_state}
use Rattle.pager.proofs.PullLaws.{falls_ordered, falls_turn}
use Rattle.pager.proofs.log.Log.fall_in_bank.Goals as goal

pub returns : goal.returns
returns g c =
    let bank = g.B.Bank in
    let old = c.args.self.now in
    let e = c.fall.new.self in
    let out = c.fall.ensures in
    record {
      order = falls_ordered bank.count bank.means old _ refl c.args.server _ c.requires out.meets;
      tables = refl;
      running = refl;
      falls = out.falls;
      meets = out.meets;
      turn = falls_turn bank.count bank.means bank.steps bank.laws old.bank e (log_state old) c.args.server _ out.meets;
    }
