use Rattle.std.proofs.Common.{Ok, refl, rules}
use Rattle.page.specs.Pages.{page_size}
use Rattle.pager.specs.Moments.{log_state}
use Rattle.parity_log.specs.LogState.{log_of}
use Rattle.parity_log.specs.Reading.{pagein}
use Rattle.parity_log.specs.Rule.{Ends}
use Rattle.session.proofs.running.Session.read_first.Goals as goal

pub returns : goal.returns
returns g c =
    let old = c.args.self.now.pager.log in
    let new = c.pagein.new.self.log in
    let ran : Ends g.B.Bank.steps (pagein (log_state old) c.args.page page_size) old.bank (Ok c.pagein.new.buffer) new.bank = search rules in
    (Ok c.pagein.new.buffer, ran, refl, λ i. log_of (c.in_ok-pagein.ensures.tables i).tables (c.in_ok-pagein.ensures.running i).0)
