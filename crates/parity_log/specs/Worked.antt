-- Facts of the rules that were worked out by hand.
use Rattle.std.specs.Prelude.{◌≡◌, ℕ, ◌+◌, ◌<◌, ◌≤◌, [], ◌∷◌, replicate, Some, Ok, Err, slice_index_or}
use Rattle.page.specs.Pages.{xor_page, page_of}
use Rattle.page.specs.declared.faults.Layer.TheVariants.{Log}
use Rattle.page.specs.declared.faults.Refusal.TheVariants.{Shape as BadShape}
use Rattle.page.specs.Refusals.{fault_of}
use Rattle.server.specs.Meaning.{Meaning}
use Rattle.parity_log.specs.declared.records.PageState.TheVariants.{NotOut, Out}
use Rattle.parity_log.specs.declared.records.GroupState.TheVariants.{Free, Closed}
use Rattle.parity_log.specs.declared.records.Tables.{Tables}
use Rattle.parity_log.specs.Tables.{shaped, initial, unmade, weight, live}
use Rattle.parity_log.specs.Choices.{fewest_live}
use Rattle.parity_log.specs.Making.{Made, made_as, making}

-- closed groups 0, 1 and 2 with 3, 1 and 1 live positions
abbrev pub three_closed : Tables
three_closed = record {
  shape = shaped 4 5 2;
  pages = Out 0 0 ∷ Out 0 1 ∷ Out 0 3 ∷ Out 1 2 ∷ Out 2 0 ∷ replicate 235 NotOut;
  states = Closed ∷ Closed ∷ Closed ∷ replicate 29 Free;
  last = Some 2;
  filled = 0;
}

-- these servers have so many slots or more
abbrev pub HaveSlots : ℕ → (ℕ → Meaning) → ℕ → Type 0
HaveSlots count means slots = (k : ℕ) → k < count → slots ≤ (means k).size

abbrev pub refusal_of_shape : Tables → Made
refusal_of_shape v = made_as (Err (fault_of Log BadShape)) v

pub record WorkedFacts : Type 0 where
  -- over four data servers and one for the parity, and over eight and one
  pub small_is_made : (means : ℕ → Meaning) → HaveSlots 5 means 3
      → making unmade 5 means 3 2 ≡ made_as (Ok 4) (initial (shaped 4 3 2))
  pub great_is_made : (means : ℕ → Meaning) → HaveSlots 9 means 32
      → making unmade 9 means 32 2 ≡ made_as (Ok 240) (initial (shaped 8 32 2))
  -- over any servers
  pub two_groups_are_refused : (v : Tables) (count q : ℕ) (means : ℕ → Meaning)
      → making v count means 2 q ≡ refusal_of_shape v
  pub all_spare_is_refused : (v : Tables) (count : ℕ) (means : ℕ → Meaning)
      → making v count means 3 3 ≡ refusal_of_shape v
  pub bytes_added : xor_page (10 ∷ []) (20 ∷ []) ≡ (30 ∷ [])
  pub page_of_17_ends : slice_index_or (page_of 17) 511 0 ≡ 16
  pub set_of_0_and_parity : weight 4 0 + weight 4 4 ≡ 257
  pub live_counts : (live three_closed 0 ≡ 3) × (live three_closed 1 ≡ 1) × (live three_closed 2 ≡ 1)
  pub group_1_cleaned : fewest_live three_closed ≡ Some 1
