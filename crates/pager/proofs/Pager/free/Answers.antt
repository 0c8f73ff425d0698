use Rattle.std.proofs.lemmas.Result.{err_from_is_err_and}
use Rattle.pager.specs.Moments.{log_state}
use Rattle.pager.proofs.CallWays.{free_refused}
use Rattle.pager.proofs.Seen.{free_turn}
use Rattle.pager.proofs.Pager.free.Goals as goal

pub returns-in_err-admit : goal.returns-in_err-admit
returns-in_err-admit g c =
    let bank = g.B.Bank in
    let old = c.args.self.now.log in
    let r = c.from_residual.result in
    let p = err_from_is_err_and r c.from_residual.ensures.1 in
    let run = free_refused bank.steps (log_state old) c.args.page old.bank r _ p.0 p.1 p.2 c.in_err-admit.ensures in
    record { ran = run; turn = free_turn bank.count bank.means bank.steps bank.laws old old c.args.page r run }
