use Rattle.std.proofs.Common.{rules}
use borrow.Author.Tests.{tests}
use Rattle.parity_log.specs.Tables.{is_closed, live, state_of}
use Rattle.parity_log.specs.Choices.{fewest_live}
use Rattle.parity_log.proofs.FewestLaws.{fewest_from_picks}
use Rattle.parity_log.proofs.SearchLaws.{passing_below}
use Rattle.parity_log.proofs.ledger.Ledger.fewest_live.Goals as goal

pub returns : goal.returns
unfolding fewest_live
returns c =
    let v = c.args.self.now.tables in
    fewest_from_picks _ (live v) _ (λ x k q e. search (rules, tests)) c.filter.result _ c.min_by_key.ensures.ran
    (passing_below (λ g. is_closed (state_of v g)) v.shape.groups c.filter.ensures.source c.filter.ensures.closure (λ k b q e. search (rules, tests)))
