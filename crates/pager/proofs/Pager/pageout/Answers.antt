use Rattle.std.proofs.lemmas.Result.{err_from_is_err_and}
use Rattle.pager.specs.Moments.{log_state}
use Rattle.pager.proofs.CallWays.{pageout_refused}
use Rattle.pager.proofs.Seen.{pageout_turn}
use Rattle.pager.proofs.Pager.pageout.Goals as goal

pub returns-in_err-admit : goal.returns-in_err-admit
returns-in_err-admit g c =
    let bank = g.B.Bank in
    let old = c.args.self.now.log in
    let r = c.from_residual.result in
    let p = err_from_is_err_and r c.from_residual.ensures.1 in
    let run = pageout_refused bank.steps (log_state old) c.args.page old.bank c.args.bytes.now r _ p.0 p.1 p.2 c.in_err-admit.ensures in
    record { ran = run; turn = pageout_turn bank.count bank.means bank.steps bank.laws old old c.args.page c.args.bytes.now r run }

-- and otherwise what the call let in did
pub returns-clause-ran : goal.returns-clause-ran
returns-clause-ran g c = c.pageout_admitted.ensures.ran

pub returns-clause-turn : goal.returns-clause-turn
returns-clause-turn g c = c.pageout_admitted.ensures.turn
