use Rattle.std.proofs.Common.{◌≡◌, ◌∙◌, rules}
use Rattle.replay.proofs.ScriptLaws.{no_text, parsed}
use Rattle.replay.proofs.script.read_number.Goals as goal

pub returns-in_err-ok : goal.returns-in_err-ok
returns-in_err-ok c = c.from_residual.ensures ∙ no_text c.args.digits.now (search rules)

pub returns-in_ok-ok : goal.returns-in_ok-ok
returns-in_ok-ok c =
    let text : c.in_ok-ok.field-0.now ≡ c.args.digits.now = search rules in
    c.ok-then-is_plain.ensures.value ∙ parsed c.args.digits.now c.parse.result (search rules) (rw text at c.parse.ensures.value.0)
