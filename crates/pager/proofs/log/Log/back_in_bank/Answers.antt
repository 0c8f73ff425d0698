use Rattle.std.proofs.Common.{refl}
use Rattle.pager.specs.Moments.{log_state}
use Rattle.pager.proofs.PullLaws.{backs_ordered, backs_turn}
use Rattle.pager.proofs.log.Log.back_in_bank.Goals as goal

pub returns : goal.returns
returns g c =
    let bank = g.B.Bank in
    let old = c.args.self.now in
    let e = c.back.new.self in
    let out = c.back.ensures in
    record {
      order = backs_ordered bank.count bank.means old _ refl c.args.server _ c.requires out.meets;
      tables = refl;
      running = refl;
      backs = out.backs;
      meets = out.meets;
      turn = backs_turn bank.count bank.means bank.steps bank.laws old.bank e (log_state old) c.args.server _ out.meets;
    }
