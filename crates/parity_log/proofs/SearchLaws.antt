-- Searches over the tables, by chains over a range.
use denote.Param.Members.{Mut}
use denote.Ref.{Bor}
use Rattle.std.proofs.Common.{◌≡◌, ℕ, Bool, filter, arith}
use Rattle.std.specs.declared.iter.Filter.{Filter}
use Rattle.std.specs.declared.ops.Range.{Range}
use Rattle.std.specs.Fn.{CalledAt}
use Rattle.std.specs.Iterator.Adapters.{filter_source, filter_callee, filter_steps}
use Rattle.std.specs.List.{range_with_len}
use Rattle.std.proofs.iter.Yields.{nat_range_steps}
use Rattle.std.proofs.lemmas.Iterator.{YieldsList, YieldsList-from_range}
use Rattle.std.proofs.lemmas.Iterator.Consumers.{YieldsList-from_filter}

-- the numbers below n that pass a test, of a chain over a range that calls the test
module _ {F : Type 0} {g : Mut F (Bor ℕ × Unit {0}) Bool} (test : ℕ → Bool) (n : ℕ) {f : F} {s : Filter (Range ℕ) F} (from : filter_source s ≡ record { start = 0; end = n }) (by : filter_callee s ≡ f)
    (tests : (k : ℕ) (b : Bool) (q : F) → CalledAt g f k b q → (q ≡ f) × (b ≡ test k)) where
  pub passing_below : YieldsList (filter_steps nat_range_steps g) (λ k. k) s (filter test (range_with_len 0 n))
  passing_below = YieldsList-from_filter g test (YieldsList-from_range 0 n n from (omega arith)) by tests
