use Rattle.std.proofs.Common.{◌≡◌, Some, rules}
use Rattle.replay.specs.Script.{plain_call}
use Rattle.replay.specs.declared.script.Call.TheVariants.{Back}
use Rattle.replay.proofs.script.plain_call.Goals as goal

pub returns-then-eq-4 : goal.returns-then-eq-4
returns-then-eq-4 c =
    let back : Some (Back c.args.number) ≡ plain_call c.args.word.now c.args.number = search rules in
    back
