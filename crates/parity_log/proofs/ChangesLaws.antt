-- When the tables' entry for a page may be changed: a page is placed, lost or dropped.
use Rattle.std.proofs.Common.{◌≡◌, ℕ, ◌+◌, ◌<◌, ◌≤◌, refl, arith}
use Rattle.std.proofs.lemmas.Bool.{false_from_ne_true}
use Rattle.parity_log.specs.declared.records.PageState.{PageState}
use Rattle.parity_log.specs.declared.records.PageState.TheVariants.{NotOut, Out, Lost}
use Rattle.parity_log.specs.declared.records.GroupState.TheVariants.{Open}
use Rattle.parity_log.specs.declared.records.Tables.{Tables}
use Rattle.parity_log.specs.Tables.{capacity, names, state_of, page_state}
use Rattle.parity_log.specs.Order.{positions, Sound}
use Rattle.parity_log.specs.Owners.{Fits, Changes}
use Rattle.parity_log.proofs.Bounds.{shape_bounds, capacity_fits}
use Rattle.parity_log.proofs.NamesLaws.{names_out}
use Rattle.parity_log.proofs.SoundLaws.{Puts, puts_next, puts_nowhere, positions_within}

fits_from : (s : PageState) → ((g i : ℕ) → s ≡ Out g i → (g < 32) × (i < 8)) → Fits s
fits_from NotOut h = tt
fits_from (Out g i) h = h g i refl
fits_from (Lost g m) h = tt

-- a filled position has a place
placed_fits : (v : Tables) (g i n : ℕ) → Sound v → n ≤ v.shape.servers → (g < v.shape.groups) × (i < positions (state_of v g) v.shape.servers n) → (g < 32) × (i < 8)
placed_fits v g i n sound l at = let b = shape_bounds v.shape sound.shape in (omega (arith, at.0), omega (arith, at.1, positions_within (state_of v g) v.shape.servers n l))

changes_puts : (v : Tables) (p : ℕ) (s : PageState) (n : ℕ) → Sound v → n ≤ v.shape.servers → p < capacity v.shape → Puts v p s n → Changes v p s
changes_puts v p s n sound most below puts = record {
  within = omega (arith, capacity_fits v.shape sound.shape);
  was = fits_from (page_state v p) (λ g i e. placed_fits v g i v.filled sound sound.filled (sound.placed p g i e));
  fits = fits_from s (λ g i e. placed_fits v g i n sound most (puts.in_filled g i e));
  once = sound.once;
  unnamed = λ q g i ne t. false_from_ne_true (names (page_state v q) g i) (λ e. ne (puts.alone q g i (names_out s g i t) (names_out (page_state v q) g i e)));
}

pub changes_place : (v : Tables) (g p : ℕ) → Sound v → state_of v g ≡ Open → v.filled < v.shape.servers → p < capacity v.shape → Changes v p (Out g v.filled)
changes_place v g p sound o room below = changes_puts v p (Out g v.filled) (v.filled + 1) sound (omega arith) below (puts_next v g p sound o)

pub changes_lose : (v : Tables) (p g m : ℕ) → Sound v → p < capacity v.shape → Changes v p (Lost g m)
changes_lose v p g m sound below = changes_puts v p (Lost g m) 0 sound (omega arith) below (puts_nowhere v p (Lost g m) 0 (λ h i e. cc))

pub changes_drop : (v : Tables) (p : ℕ) → Sound v → p < capacity v.shape → Changes v p NotOut
changes_drop v p sound below = changes_puts v p NotOut 0 sound (omega arith) below (puts_nowhere v p NotOut 0 (λ h i e. cc))
