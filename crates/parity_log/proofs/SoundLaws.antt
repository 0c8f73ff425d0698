-- What sound tables say, and that they stay sound when one entry changes.
use Rattle.std.proofs.Common.{◌≡◌, ℕ, ◌+◌, ◌<◌, ◌≤◌, true, cond, ◌⊎◌, length, get_or, set, Some, None, Option, sym, refl, ap, ◌∙◌, subst, inl, inr, ⊎_elim, arith, length-set}
use Rattle.std.proofs.lemmas.Bool.{cond_both, cases_eq, cases_lt, false≢true}
use Rattle.parity_log.specs.declared.records.PageState.{PageState}
use Rattle.parity_log.specs.declared.records.PageState.TheVariants.{NotOut, Out}
use Rattle.parity_log.specs.declared.records.GroupState.{GroupState}
use Rattle.parity_log.specs.declared.records.GroupState.TheVariants.{Free, Open, Closed}
use Rattle.parity_log.specs.declared.records.Tables.{Tables}
use Rattle.parity_log.specs.Tables.{capacity, state_of, page_state, is_free, is_open, with_state}
use Rattle.parity_log.specs.Choices.{when_open, open_group, free_count}
use Rattle.parity_log.specs.Order.{positions, Sound}
use Rattle.parity_log.proofs.Bounds.{shape_bounds, capacity_fits}
use Rattle.parity_log.proofs.CountLaws.{count_kept, count_but_one, count_one, count_two}
use Rattle.parity_log.proofs.EntryLaws.{entry_now, entry_other, entry_cases}

open_from : (s : GroupState) → is_open s ≡ true → s ≡ Open
open_from Free e = absurd (false≢true e)
open_from Open e = refl
open_from Closed e = absurd (false≢true e)

pub free_from : (s : GroupState) → is_free s ≡ true → s ≡ Free
free_from Free e = refl
free_from Open e = absurd (false≢true e)
free_from Closed e = absurd (false≢true e)

positions_more : (s : GroupState) (n m k : ℕ) → m ≤ k → positions s n m ≤ positions s n k
positions_more Free n m k l = omega arith
positions_more Open n m k l = l
positions_more Closed n m k l = omega arith

pub positions_within : (s : GroupState) (n m : ℕ) → m ≤ n → positions s n m ≤ n
positions_within Free n m l = omega arith
positions_within Open n m l = l
positions_within Closed n m l = omega arith

when_open_lem : (v : Tables) (o : Option ℕ) → (when_open v o ≡ None) ⊎ ((g : ℕ) × (state_of v g ≡ Open))
when_open_lem v None = inl refl
when_open_lem v (Some g) = cond_both (is_open (state_of v g)) (Some g) None (λ o. (o ≡ None) ⊎ ((g : ℕ) × (state_of v g ≡ Open))) (λ t. inr (g, open_from (state_of v g) t)) (λ _. inl refl)

-- no group is open, or some group is
pub open_cases : (v : Tables) → (open_group v ≡ None) ⊎ ((g : ℕ) × (state_of v g ≡ Open))
open_cases v = when_open_lem v v.last

module _ (v : Tables) (sound : Sound v) where
  pub page_room : (p : ℕ) → p < capacity v.shape → p < length v.pages
  page_room p l = omega (arith, capacity_fits v.shape sound.shape)

  pub state_room : (g : ℕ) → g < v.shape.groups → g < length v.states
  state_room g l = let b = shape_bounds v.shape sound.shape in omega arith

  pub page_below : (p g i : ℕ) → page_state v p ≡ Out g i → p < capacity v.shape
  page_below p g i e = ⊎_elim (λ l. l) (λ l. let n = sound.numbered p l in absurd (cc)) (cases_lt p (capacity v.shape))

  pub group_below : (g : ℕ) → (state_of v g ≡ Free → ⊥) → g < v.shape.groups
  group_below g n = ⊎_elim (λ l. l) (λ l. absurd (n (sound.beyond g l))) (cases_lt g v.shape.groups)

  pub open_below : (g : ℕ) → state_of v g ≡ Open → g < v.shape.groups
  open_below g e = sound.last g (sound.only_open g e)

  pub closed_below : (g : ℕ) → state_of v g ≡ Closed → g < v.shape.groups
  closed_below g e = group_below g (λ f. cc)

  pub open_is : (g : ℕ) → state_of v g ≡ Open → open_group v ≡ Some g
  open_is g e = ap (when_open v) (sound.only_open g e) ∙ ap (λ s. cond (is_open s) (Some g) None) e

  pub not_none : (g : ℕ) → state_of v g ≡ Open → open_group v ≡ None → ⊥
  not_none g e n = let s = open_is g e in cc

  -- the position that is filled next is nobody's
  pub next_alone : (p g : ℕ) → state_of v g ≡ Open → page_state v p ≡ Out g v.filled → ⊥
  next_alone p g o e = omega (arith, rw o at (sound.placed p g v.filled e).1)

-- a state that puts the page, if anywhere, at a filled position where no other page is
pub record Puts (v : Tables) (p : ℕ) (s : PageState) (n : ℕ) : Type 0 where
  pub in_filled : (g i : ℕ) → s ≡ Out g i → (g < v.shape.groups) × (i < positions (state_of v g) v.shape.servers n)
  pub alone : (q g i : ℕ) → s ≡ Out g i → page_state v q ≡ Out g i → q ≡ p

pub puts_next : (v : Tables) (g p : ℕ) → Sound v → state_of v g ≡ Open → Puts v p (Out g v.filled) (v.filled + 1)
puts_next v g p sound o = record {
  in_filled = λ h i e. let same : g ≡ h = cc in let at : v.filled ≡ i = cc in let now : state_of v h ≡ Open = ap (state_of v) (sym same) ∙ o in (open_below v sound h now, rw now (omega arith));
  alone = λ q h i e f. absurd (next_alone v sound q g o (f ∙ sym e));
}

pub puts_nowhere : (v : Tables) (p : ℕ) (s : PageState) (n : ℕ) → ((g i : ℕ) → s ≡ Out g i → ⊥) → Puts v p s n
puts_nowhere v p s n h = record { in_filled = λ g i e. absurd (h g i e); alone = λ q g i e f. absurd (h g i e) }

-- the tables with another entry for one page, and so many positions of the open group filled
abbrev pub entered : Tables → ℕ → PageState → ℕ → Tables
entered v p s n = record { shape = v.shape; pages = set v.pages p s; states = v.states; last = v.last; filled = n }

pub sound_entered : (v : Tables) (p : ℕ) (s : PageState) (n : ℕ) → Sound v → p < capacity v.shape → v.filled ≤ n → n ≤ v.shape.servers → Puts v p s n → Sound (entered v p s n)
sound_entered v p s n sound l more most puts =
    let cases = λ (q g i : ℕ). entry_cases NotOut v.pages p s (page_room v sound p l) q (Out g i) in
    record {
      shape = sound.shape;
      pages = length-set v.pages p s ∙ sound.pages;
      states = sound.states;
      numbered = λ q h. entry_other NotOut v.pages p s q (λ e. omega arith) ∙ sound.numbered q h;
      placed = λ q g i e. ⊎_elim
          (λ own. puts.in_filled g i own.1)
          (λ old. let a = sound.placed q g i old.1 in (a.0, omega (arith, a.1, positions_more (state_of v g) v.shape.servers v.filled n more))) (cases q g i e);
      once = λ q r g i e f. ⊎_elim
          (λ own. ⊎_elim (λ too. own.0 ∙ sym too.0) (λ old. absurd (old.0 (puts.alone r g i own.1 old.1))) (cases r g i f))
          (λ was. ⊎_elim (λ own. absurd (was.0 (puts.alone q g i own.1 was.1))) (λ old. sound.once q r g i was.1 old.1) (cases r g i f)) (cases q g i e);
      only_open = sound.only_open;
      last = sound.last;
      beyond = sound.beyond;
      filled = most;
    }

-- the tables with another state for one group, which may become the one opened last
abbrev pub restated : Tables → ℕ → GroupState → Option ℕ → ℕ → Tables
restated v g s o n = record { shape = v.shape; pages = v.pages; states = set v.states g s; last = o; filled = n }

-- when a group may become s
pub record Restates (v : Tables) (g : ℕ) (s : GroupState) (o : Option ℕ) (n : ℕ) : Type 0 where
  pub own : (p i : ℕ) → page_state v p ≡ Out g i → i < positions s v.shape.servers n
  pub others : (h : ℕ) → (h ≡ g → ⊥) → positions (state_of v h) v.shape.servers v.filled ≤ positions (state_of v h) v.shape.servers n
  pub own_open : s ≡ Open → o ≡ Some g
  pub others_open : (h : ℕ) → (h ≡ g → ⊥) → state_of v h ≡ Open → o ≡ Some h
  pub last : (h : ℕ) → o ≡ Some h → h < v.shape.groups
  pub filled : n ≤ v.shape.servers

pub sound_restated : (v : Tables) (g : ℕ) (s : GroupState) (o : Option ℕ) (n : ℕ) → Sound v → g < v.shape.groups → Restates v g s o n → Sound (restated v g s o n)
sound_restated v g s o n sound l restates =
    let room = state_room v sound g l in
    record {
      shape = sound.shape;
      pages = sound.pages;
      states = length-set v.states g s ∙ sound.states;
      numbered = sound.numbered;
      placed = λ p h i e.
          let a = sound.placed p h i e in
          let P : GroupState → Type 0 = λ t. i < positions t v.shape.servers n in (
            a.0,
            ⊎_elim
                (λ same. subst P (sym (ap (λ k. get_or (set v.states g s) k Free) same ∙ entry_now Free v.states g s room)) (restates.own p i (e ∙ ap (λ k. Out k i) same)))
                (λ ne. subst P (sym (entry_other Free v.states g s h ne)) (omega (arith, a.1, restates.others h ne))) (cases_eq h g),
          );
      once = sound.once;
      only_open = λ h e. ⊎_elim (λ now. restates.own_open now.1 ∙ ap Some (sym now.0)) (λ old. restates.others_open h old.0 old.1) (entry_cases Free v.states g s room h Open e);
      last = restates.last;
      beyond = λ h m. entry_other Free v.states g s h (λ e. omega arith) ∙ sound.beyond h m;
      filled = restates.filled;
    }

-- a closed group without a live position becomes free
pub sound_freed : (v : Tables) (g : ℕ) → Sound v → state_of v g ≡ Closed → ((p i : ℕ) → page_state v p ≡ Out g i → ⊥) → Sound (with_state v g Free)
sound_freed v g sound e none = sound_restated v g Free v.last v.filled sound (closed_below v sound g e) (record {
  own = λ p i f. absurd (none p i f);
  others = λ h _. omega arith;
  own_open = λ z. absurd (cc);
  others_open = λ h _ o. sound.only_open h o;
  last = sound.last;
  filled = sound.filled;
})

-- the free groups, counted
module _ (v : Tables) where
  pub free_entered : (p : ℕ) (s : PageState) (n : ℕ) → free_count (entered v p s n) ≡ free_count v
  unfolding free_count
  free_entered p s n = refl

  pub free_two : (g h : ℕ) → g < v.shape.groups → h < v.shape.groups → (h ≡ g → ⊥) → state_of v g ≡ Free → state_of v h ≡ Free → 2 ≤ free_count v
  unfolding free_count
  free_two g h l m ne e f = count_two (λ k. is_free (state_of v k)) v.shape.groups g h l m ne (ap is_free e) (ap is_free f)

  module _ (g : ℕ) (s : GroupState) (o : Option ℕ) (n : ℕ) where
    still_free : (k : ℕ) → (k ≡ g → ⊥) → is_free (state_of v k) ≡ true → is_free (state_of (restated v g s o n) k) ≡ true
    still_free k ne t = ap is_free (entry_other Free v.states g s k ne) ∙ t

    pub free_but_one : free_count v ≤ free_count (restated v g s o n) + 1
    unfolding free_count
    free_but_one = count_but_one (λ k. is_free (state_of v k)) (λ k. is_free (state_of (restated v g s o n) k)) g v.shape.groups still_free

    pub free_kept : (state_of v g ≡ Free → ⊥) → free_count v ≤ free_count (restated v g s o n)
    unfolding free_count
    free_kept was = count_kept (λ k. is_free (state_of v k)) (λ k. is_free (state_of (restated v g s o n) k)) 0 v.shape.groups
        (λ k _ _ t. still_free k (λ e. was (ap (state_of v) (sym e) ∙ free_from (state_of v k) t)) t)

  pub free_freed : (g : ℕ) → Sound v → g < v.shape.groups → 1 ≤ free_count (with_state v g Free)
  unfolding free_count
  free_freed g sound l = count_one (λ k. is_free (state_of (with_state v g Free) k)) v.shape.groups g l (ap is_free (entry_now Free v.states g Free (state_room v sound g l)))
