use Rattle.session.proofs.running.Session.new.Goals as goal

pub returns-clause-log : goal.returns-clause-log
returns-clause-log g c = c.new-pager.ensures.log
