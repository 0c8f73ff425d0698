use Rattle.std.proofs.Common.{◌≡◌, ℕ, ◌+◌, ◌%◌, ◌<◌, ◌≤◌, true, false, Some, sym, ap, ◌∙◌, subst, arith, below_more}
use Rattle.parity_log.specs.declared.records.Tables.{Tables}
use Rattle.parity_log.specs.Tables.{is_free, state_of}
use Rattle.parity_log.specs.Choices.{start, round, first_in, free_count, next_free}
use Rattle.parity_log.proofs.RoundLaws.{count_some, start_below, not_round, first_round}
use Rattle.parity_log.proofs.records.Tables.next_free.Goals as goal

some_free : (v : Tables) → 1 ≤ free_count v → (g : ℕ) × (g < v.shape.groups) × (is_free (state_of v g) ≡ true)
unfolding free_count
some_free v h = count_some (λ g. is_free (state_of v g)) v.shape.groups h

next_is : (v : Tables) (s far : ℕ) → s ≡ start v.last v.shape.groups → far < v.shape.groups → is_free (state_of v ((s + far) % v.shape.groups)) ≡ true
    → ((k : ℕ) → k < far → is_free (state_of v ((s + k) % v.shape.groups)) ≡ false) → next_free v ≡ Some ((s + far) % v.shape.groups)
unfolding next_free
next_is v s far e l t none = ap (λ b. first_in (λ g. is_free (state_of v g)) (round b v.shape.groups)) (sym e) ∙ first_round (λ g. is_free (state_of v g)) s v.shape.groups far l t none

pub start-start-requires : goal.start-start-requires
start-start-requires c = let s = some_free c.args.self.now c.requires.spare in record { groups = omega (arith, s.1); last = c.requires.last }

pub loop-group-init : goal.loop-group-init
loop-group-init c = let s = some_free c.args.self.now c.requires.spare in (omega (arith, s.1), λ k h. absurd (omega arith))

pub loop-group-preserved : goal.loop-group-preserved
loop-group-preserved c =
    let v = c.args.self.now in
    let s = some_free v c.requires.spare in
    let here = c.start-start.result in
    let below : here < v.shape.groups = subst (λ n. n < v.shape.groups) (sym c.start-start.ensures) (start_below v.last v.shape.groups (omega (arith, s.1))) in
    let none = below_more (λ k. is_free (state_of v ((here + k) % v.shape.groups)) ≡ false) c.loop-group.far c.loop-group.invariant.1 (ap (λ g. is_free (state_of v g)) (sym c.round-group.ensures) ∙ sym c.if-is_free.ensures) in
    (not_round (λ g. is_free (state_of v g)) here v.shape.groups (c.loop-group.far + 1) below s none, none)

pub returns : goal.returns
returns c =
    let v = c.args.self.now in
    let free = ap (λ g. is_free (state_of v g)) (sym c.round-group.ensures) ∙ sym c.if-is_free.ensures in
    next_is v c.start-start.result c.loop-group.far c.start-start.ensures c.loop-group.invariant.0 free c.loop-group.invariant.1 ∙ ap Some (sym c.round-group.ensures)
