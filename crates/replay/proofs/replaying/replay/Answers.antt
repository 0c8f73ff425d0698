use Rattle.std.proofs.Common.{Result, ℕ, length, Ok, Err, sym, subst}
use Rattle.replay.specs.Listing.{EndsWithin}
use Rattle.replay.specs.declared.listing.Halt.{Halt}
use Rattle.replay.proofs.ReplayingLaws.{replay_within}
use Rattle.replay.proofs.replaying.replay.Goals as goal

pub returns-in-Ok-clause-within : goal.returns-in-Ok-clause-within
returns-in-Ok-clause-within g c =
    replay_within g.R.Runner.runs c.args.script.now c.args.runner.now c.args.listing.now (Ok c.in-Ok.count) _ _ c.in-Ok.ensures

pub returns-in-Err-clause-within : goal.returns-in-Err-clause-within
returns-in-Err-clause-within g c =
    let P : Result ℕ Halt → Type 0 = λ r. EndsWithin (length c.args.listing.now) r in
    subst P (sym c.end_halted.ensures.outcome) (replay_within g.R.Runner.runs c.args.script.now c.args.runner.now c.args.listing.now (Err c.in-Err.halt) _ _ c.in-Err.ensures)
