use Rattle.std.proofs.Common.{sym}
use Rattle.replay.proofs.AlongLaws.{replay_along}
use Rattle.session.proofs.memories.replay_bank.Goals as goal

pub returns-clause-replayed : goal.returns-clause-replayed
returns-clause-replayed g c = (
  c.new-session.result.pager.log,
  c.replay-outcome.new.runner.pager.log,
  c.new-session.ensures.log,
  c.new-session.ensures.bank,
  sym c.into_bank.ensures,
  replay_along _ _ (λ s. s.pager.log) (λ x call a y ran. ran) c.args.script.now c.new-session.result c.args.listing.now c.replay-outcome.result c.replay-outcome.new.runner c.replay-outcome.new.listing c.replay-outcome.ensures.replayed,
)
