-- The worked facts, by computation.
use Rattle.std.proofs.Common.{◌≡◌, ℕ, zero, suc, ◌+◌, ◌<◌, ◌≤◌, Bool, true, false, cond, leb, map, Some, None, refl, ap, arith}
use Rattle.std.specs.List.{list_all, range_with_len}
use Rattle.std.proofs.lemmas.Bool.{le-leb}
use Rattle.server.specs.Meaning.{Meaning}
use Rattle.parity_log.specs.declared.records.Shape.{Shape}
use Rattle.parity_log.specs.declared.records.Tables.{Tables}
use Rattle.parity_log.specs.Choices.{fewest_live}
use Rattle.parity_log.specs.Making.{sizes, over_all, made_with}
use Rattle.parity_log.specs.Tables.{within, unmade, page_at, live_count}
use Rattle.parity_log.specs.Worked.{HaveSlots, WorkedFacts}

-- numbers in a row that are all as large as this pass the test for it
all_pass : (size : ℕ → ℕ) (least from n : ℕ) → ((k : ℕ) → k < from + n → least ≤ size k) → list_all (leb least) (map size (range_with_len from n)) ≡ true
all_pass size least from zero h = refl
all_pass size least from (suc n) h = rw (le-leb least (size from) (h from (omega arith))) (all_pass size least (from + 1) n (λ k l. h k (omega arith)))

enough : (means : ℕ → Meaning) (count slots : ℕ) → HaveSlots count means slots → list_all (leb slots) (sizes count means) ≡ true
enough means count slots have = all_pass (λ k. (means k).size) slots 0 count (λ k l. have k (omega (arith, l)))

-- a shape that is not within the numbers is not decided, whatever there is already
not_decided : (v : Tables) (s : Shape) (t : Bool) → made_with v (cond t None (cond false (Some s) None)) ≡ made_with v None
not_decided v s true = refl
not_decided v s false = refl

pub worked_facts : WorkedFacts
unfolding page_at live_count fewest_live
worked_facts = record {
  small_is_made = λ means have. ap (λ t. made_with unmade (cond t (Some (over_all 5 3 2)) None)) (enough means 5 3 have);
  great_is_made = λ means have. ap (λ t. made_with unmade (cond t (Some (over_all 9 32 2)) None)) (enough means 9 32 have);
  two_groups_are_refused = λ v count q means. not_decided v (over_all count 2 q) (within v.shape);
  all_spare_is_refused = λ v count means. not_decided v (over_all count 3 3) (within v.shape);
  bytes_added = refl;
  page_of_17_ends = refl;
  set_of_0_and_parity = refl;
  live_counts = (refl, refl, refl);
  group_1_cleaned = refl;
}
