use Rattle.std.proofs.Common.{◌≡◌, ◌+◌, ◌-◌, [], ◌∷◌, length, take, drop, rules, arith, ap, ◌∙◌}
use Rattle.std.proofs.lemmas.List.{take_rest}
use Rattle.replay.specs.Script.{parts, parts_left, parts_of_rest}
use Rattle.replay.proofs.ScriptLaws.{parts_at, parts_whole}
use Rattle.replay.proofs.parts.PartsIterator.next.Goals.{In-Some, In-None}
use Rattle.replay.proofs.parts.PartsIterator.next.Goals as goal

at_separator : (c : In-Some) → parts_left c.args.self.now ≡ take c.in-Some.end c.in_ok-rest.rest.now ∷ parts c.args.self.now.separator (take (length c.in_ok-rest.rest.now - (c.in-Some.end + 1)) (drop (c.in-Some.end + 1) c.in_ok-rest.rest.now))
at_separator c =
    let split = parts_at c.args.self.now.separator c.in_ok-rest.rest.now c.in-Some.end (search rules) (search rules) (search rules) in
    ap (parts_of_rest c.args.self.now.separator) c.in_ok-rest.was ∙ split ∙ simp take_rest

at_end : (c : In-None) → parts_left c.args.self.now ≡ c.in_ok-rest.rest.now ∷ []
at_end c =
    ap (parts_of_rest c.args.self.now.separator) c.in_ok-rest.was ∙ parts_whole c.args.self.now.separator c.in_ok-rest.rest.now (search rules)

pub returns-in-Some-clause-steps : goal.returns-in-Some-clause-steps
returns-in-Some-clause-steps c = at_separator (goal.at.returns-in-Some-clause-steps c).In-Some

pub returns-in-Some-clause-goes : goal.returns-in-Some-clause-goes
returns-in-Some-clause-goes c =
    record { on = λ _. (tt, tt, omega (arith, ap length (at_separator (goal.at.returns-in-Some-clause-goes c).In-Some))); keeps = tt; rests = λ _. tt }

pub returns-in-None-clause-steps : goal.returns-in-None-clause-steps
returns-in-None-clause-steps c = at_end (goal.at.returns-in-None-clause-steps c).In-None

pub returns-in-None-clause-goes : goal.returns-in-None-clause-goes
returns-in-None-clause-goes c =
    record { on = λ _. (tt, tt, omega (arith, ap length (at_end (goal.at.returns-in-None-clause-goes c).In-None))); keeps = tt; rests = λ _. tt }
