-- What the tables keep when a pager is made, and when a group is opened.
use Rattle.std.proofs.Common.{◌≡◌, ℕ, ◌+◌, ◌-◌, ◌%◌, ◌<◌, ◌≤◌, Bool, true, List, [], ◌∷◌, is_some, Some, None, count_by, sym, refl, ap, ◌∙◌, subst, ⊎_elim, mod-lt, arith}
use lib.ListN.{length-replicate}
use Rattle.std.specs.List.{range_with_len, AllByRecursion as All}
use Rattle.std.proofs.ByRecursion.{All-map}
use Rattle.std.proofs.lemmas.Bool.{cond_both}
use Rattle.parity_log.specs.declared.records.Shape.{Shape}
use Rattle.parity_log.specs.declared.records.PageState.TheVariants.{NotOut}
use Rattle.parity_log.specs.declared.records.GroupState.TheVariants.{Free, Open, Closed}
use Rattle.parity_log.specs.declared.records.Tables.{Tables}
use Rattle.parity_log.specs.Tables.{within, initial, state_of, is_free, page_at, live_count, live}
use Rattle.parity_log.specs.Choices.{open_group, start, round, first_in, next_free, free_count, fewest_live}
use Rattle.page.specs.Pages.{zeros}
use Rattle.parity_log.specs.LogState.{LogState, log_of}
use Rattle.parity_log.specs.Order.{Sound, Settled, SettledLog, Cleaning}
use Rattle.parity_log.specs.Paging.{opened}
use Rattle.parity_log.specs.Pigeonhole.{AllButOne}
use Rattle.parity_log.proofs.Bounds.{shape_bounds}
use Rattle.parity_log.proofs.Counting.{all_counting}
use Rattle.parity_log.proofs.CountLaws.{count_one}
use Rattle.parity_log.proofs.EntryLaws.{alike, entry_now, entry_other, entry_cases}
use Rattle.parity_log.proofs.Pigeonhole.{pigeonhole}
use Rattle.parity_log.proofs.SoundLaws.{free_from, not_none, state_room, sound_restated, free_two, free_but_one}

all_free : (s : Shape) → within s ≡ true → 1 ≤ free_count (initial s)
unfolding free_count
all_free s h = let b = shape_bounds s h in count_one (λ g. is_free (state_of (initial s) g)) s.groups 0 (omega arith) refl

initial_settled : (s : Shape) → within s ≡ true → Settled (initial s)
initial_settled s h =
    let b = shape_bounds s h in
    record {
      sound = record {
        shape = h;
        pages = length-replicate 240 NotOut;
        states = length-replicate 32 Free;
        numbered = λ p _. alike NotOut 240 p;
        placed = λ p g i e. let a = alike NotOut 240 p in absurd (cc);
        once = λ p q g i e f. let a = alike NotOut 240 p in absurd (cc);
        only_open = λ g e. let a = alike Free 32 g in absurd (cc);
        last = λ g e. absurd (cc);
        beyond = λ g _. alike Free 32 g;
        filled = omega arith;
      };
      room = omega arith;
      none_open = λ _. refl;
      spare = all_free s h;
      used = λ g e. let a = alike Free 32 g in absurd (cc);
    }

-- the log of a pager just made
abbrev pub initial_log : Shape → LogState
initial_log s = log_of (initial s) zeros

pub initial_log_settled : (s : Shape) → within s ≡ true → SettledLog (initial_log s)
initial_log_settled s h = record { tables = initial_settled s h; cleared = λ _. refl }

-- the first that passes does pass, and has what all have
first_passes : (test : ℕ → Bool) (P : ℕ → Type 0) (xs : List ℕ) (x : ℕ) → All P xs → first_in test xs ≡ Some x → P x × (test x ≡ true)
first_passes test P [] x h e = absurd (cc)
first_passes test P (y ∷ ys) x h e = cond_both (test y) (Some y) (first_in test ys) (λ o. o ≡ Some x → P x × (test x ≡ true))
    (λ t z. let same : y ≡ x = cc in (subst P same h.0, ap test (sym same) ∙ t))
    (λ _ z. first_passes test P ys x h.1 z) e

round_below : (from n : ℕ) → 0 < n → All (λ g. g < n) (round from n)
round_below from n l = All-map (λ g. g < n) (λ k. (from + k) % n) (range_with_len 0 n) (all_counting (λ k. (from + k) % n < n) 0 n (λ k _. mod-lt (from + k) l))

-- the group that is opened next is free
pub next_free_lem : (v : Tables) (g : ℕ) → Sound v → next_free v ≡ Some g → (g < v.shape.groups) × (state_of v g ≡ Free)
unfolding next_free
next_free_lem v g sound e =
    let n = v.shape.groups in
    let b = shape_bounds v.shape sound.shape in
    let r = first_passes (λ k. is_free (state_of v k)) (λ k. k < n) (round (start v.last n) n) g (round_below (start v.last n) n (omega arith)) e in
    (r.0, free_from (state_of v g) r.1)

module _ (v : Tables) (g : ℕ) (settled : Settled v) (none : open_group v ≡ None) (next : next_free v ≡ Some g) where
  below : g < v.shape.groups
  below = (next_free_lem v g settled.sound next).0

  was_free : state_of v g ≡ Free
  was_free = (next_free_lem v g settled.sound next).1

  sound_opened : Sound (opened v g)
  sound_opened =
      let sound = settled.sound in
      sound_restated v g Open (Some g) v.filled sound below (record {
        own = λ p i e. absurd (omega (arith, rw was_free at (sound.placed p g i e).1));
        others = λ h _. omega arith;
        own_open = λ _. refl;
        others_open = λ h _ e. absurd (not_none v sound h e none);
        last = λ h e. let same : g ≡ h = cc in omega (arith, below);
        filled = sound.filled;
      })

  open_now : state_of (opened v g) g ≡ Open
  open_now = entry_now Free v.states g Open (state_room v settled.sound g below)

  used_opened : (h : ℕ) → state_of (opened v g) h ≡ Closed → 1 ≤ live v h
  used_opened h e = ⊎_elim
      (λ own. let f = own.1 in absurd (cc))
      (λ old. settled.used h old.1) (entry_cases Free v.states g Open (state_room v settled.sound g below) h Closed e)

  -- where it is the only free group
  closed_others : free_count v ≤ 1 → AllButOne v g
  closed_others few h l ne = elim (state_of v h) as (λ s. state_of v h ≡ s → s ≡ Closed)
      [ Free ↦ λ e. absurd (omega (arith, free_two v g h below l ne was_free e)) | Open ↦ λ e. absurd (not_none v settled.sound h e none) | Closed ↦ λ _. refl ] refl

-- live positions, counted from the first
live_from : (v : Tables) (g : ℕ) → count_by (λ j. is_some (page_at v.pages g j)) (range_with_len 0 (v.shape.servers - 0)) ≡ live v g
unfolding live_count
live_from v g = let all : v.shape.servers - 0 ≡ v.shape.servers = omega arith in ap (λ n. count_by (λ j. is_some (page_at v.pages g j)) (range_with_len 0 n)) all

pub open_next : (v : Tables) (g : ℕ) → Settled v → open_group v ≡ None → next_free v ≡ Some g → 1 < free_count v → Settled (opened v g) × (state_of (opened v g) g ≡ Open)
open_next v g settled none next many =
    let sound = sound_opened v g settled none next in
    let now = open_now v g settled none next in (
      record {
        sound = sound;
        room = settled.room;
        none_open = λ n. absurd (not_none (opened v g) sound g now n);
        spare = omega (arith, free_but_one v g Open (Some g) v.filled);
        used = used_opened v g settled none next;
      },
      now,
    )

pub open_last : (v : Tables) (g : ℕ) → Settled v → open_group v ≡ None → next_free v ≡ Some g → free_count v ≤ 1 → (c : ℕ) × (fewest_live v ≡ Some c) × Cleaning (opened v g) g c 0
open_last v g settled none next few =
    let free = was_free v g settled none next in
    let hole = pigeonhole v g settled.sound (below v g settled none next) (λ e. cc) (closed_others v g settled none next few) in
    let c = hole.0 in
    let shut = hole.3 in (
      c,
      hole.1,
      record {
        sound = sound_opened v g settled none next;
        open_now = open_now v g settled none next;
        closed = entry_other Free v.states g Open c (λ e. let f = ap (state_of v) e ∙ free in cc) ∙ shut;
        moved = λ j l. absurd (omega arith);
        room = rw (live_from v c) (omega (arith, settled.none_open none, hole.4, hole.5));
        used = λ h e _. used_opened v g settled none next h e;
      },
    )
