use Rattle.std.proofs.Common.{◌≡◌, ℕ, count_by, refl, ap, ◌∙◌, arith}
use Rattle.std.specs.List.{range_with_len}
use mir.Val.{bool_byte}
use Rattle.parity_log.specs.Tables.{is_free, state_of}
use Rattle.parity_log.specs.Choices.{free_count}
use Rattle.parity_log.proofs.CountLaws.{count_more, as_cond, at_most_one}
use Rattle.parity_log.proofs.records.Tables.free_count.Goals as goal

pub loop-group-init : goal.loop-group-init
unfolding free_count
loop-group-init c = (refl, omega arith)

pub loop-group-preserved : goal.loop-group-preserved
loop-group-preserved c =
    let p = λ (g : ℕ). is_free (state_of c.args.self.now g) in
    let g = c.loop-group.group in
    let one = c.from-free.ensures ∙ ap bool_byte c.is_free.ensures ∙ as_cond (p g) in (
      omega (arith, c.loop-group.invariant.0, count_more p g, one),
      omega (arith, c.loop-group.invariant.1, one, at_most_one (p g)),
    )

pub returns : goal.returns
unfolding free_count
returns c =
    let v = c.args.self.now in
    let last : c.loop-group.group ≡ v.shape.groups = omega arith in
    c.loop-group.invariant.0 ∙ ap (λ n. count_by (λ g. is_free (state_of v g)) (range_with_len 0 n)) last
