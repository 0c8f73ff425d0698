-- What the numbers of an accepted shape are bounded by.
use Rattle.std.proofs.Common.{◌≡◌, ◌-◌, ◌<◌, ◌≤◌, true, mul-le-mul, arith}
use Rattle.std.proofs.lemmas.Bool.Decides.{nat_tests}
use Rattle.parity_log.specs.declared.records.Shape.{Shape}
use Rattle.parity_log.specs.Tables.{within, capacity}

pub shape_bounds : (s : Shape) → within s ≡ true → (3 ≤ s.groups) × (s.groups ≤ 32) × (2 ≤ s.spares) × (s.spares < s.groups) × (2 ≤ s.servers) × (s.servers ≤ 8)
shape_bounds s h = grind (arith, nat_tests)

pub capacity_fits : (s : Shape) → within s ≡ true → capacity s ≤ 240
capacity_fits s h = let b = shape_bounds s h in let few : s.groups - s.spares ≤ 30 = omega arith in mul-le-mul few b.5
