use Rattle.std.proofs.Common.{refl}
use Rattle.std.proofs.lemmas.Result.{err_from_is_err_and}
use Rattle.pager.specs.Moments.{log_state}
use Rattle.pager.proofs.PageinLaws.{pagein_refused}
use Rattle.pager.proofs.Seen.{pagein_turn}
use Rattle.pager.proofs.Pager.pagein.Goals as goal

pub returns-in_err-admit : goal.returns-in_err-admit
returns-in_err-admit g c =
    let bank = g.B.Bank in
    let old = c.args.self.now.log in
    let x = c.args.buffer.now in
    let r = c.from_residual.result in
    let p = err_from_is_err_and r c.from_residual.ensures.1 in
    let out = pagein_refused bank.steps (log_state old) c.args.page _ old.bank old.bank x r _ p.0 p.1 p.2 c.in_err-admit.ensures in
    record { ran = out.0; tables = refl; running = refl; left = out.1; turn = pagein_turn bank.count bank.means bank.steps bank.laws old old refl c.args.page _ _ out.0 }

-- and otherwise what the call let in did
pub returns-clause-ran : goal.returns-clause-ran
returns-clause-ran g c = c.pagein_admitted.ensures.ran

pub returns-clause-turn : goal.returns-clause-turn
returns-clause-turn g c = c.pagein_admitted.ensures.turn
