use Rattle.session.proofs.running.Session.into_bank.Goals as goal

pub returns : goal.returns
returns g c = c.into_bank.ensures
