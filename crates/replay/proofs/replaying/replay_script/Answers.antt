use Rattle.std.proofs.Common.{◌≡◌, Ok, rules, arith}
use Rattle.replay.specs.Script.{below_names, lines_of, parts_left}
use Rattle.replay.proofs.ScriptLaws.{lines_few}
use Rattle.replay.proofs.replaying.replay_script.Goals as goal

pub replay_lines-requires : goal.replay_lines-requires
replay_lines-requires g c =
    let named : below_names (lines_of c.args.script.now) ≡ Ok (parts_left c.in_ok-lines.lines) = search rules in
    omega (arith, lines_few c.args.script.now _ named)
