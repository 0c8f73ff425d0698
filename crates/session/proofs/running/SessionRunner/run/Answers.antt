use Rattle.std.proofs.Common.{◌≡◌, ℕ, List, rules, subst}
use Rattle.pager.specs.Moments.{log_state}
use Rattle.parity_log.specs.Paging.{pageout, told}
use Rattle.parity_log.specs.Rule.{Ends}
use Rattle.session.specs.Calls.{done}
use Rattle.session.proofs.running.SessionRunner.run.Goals as goal

pub returns-in-Out : goal.returns-in-Out
returns-in-Out g c =
    let old = c.args.self.now.pager.log in
    let new = c.pageout.new.self.log in
    let P : List ℕ → Type 0 = λ x. Ends g.B.Bank.steps (pageout (log_state old) c.in-Out.page x) old.bank (told c.pageout.result (log_state new)) new.bank in
    let said : c.map.result ≡ done c.pageout.result = search rules in
    rw c.in-Out.is (c.pageout.result, subst P c.of_value.ensures c.pageout.ensures.ran, said)

pub returns-in-Fall : goal.returns-in-Fall
returns-in-Fall g c = rw c.in-Fall.is search rules
