-- What the tables keep from a page's leaving of its group on: placing, releasing, closing, losing and freeing.
use Rattle.std.proofs.Common.{◌≡◌, ℕ, ◌+◌, ◌-◌, ◌<◌, ◌≤◌, Bool, true, false, cond, eqb, Some, None, Option, sym, refl, ap, ◌∙◌, subst, ⊎_elim, arith}
use Rattle.std.proofs.lemmas.Bool.{cond_both, cases_eq, eqb-true, eqb-false, and_parts, and_cases, both_ways}
use Rattle.page.specs.Pages.{zeros}
use Rattle.parity_log.specs.declared.records.PageState.{PageState}
use Rattle.parity_log.specs.declared.records.PageState.TheVariants.{NotOut, Out, Lost}
use Rattle.parity_log.specs.declared.records.GroupState.TheVariants.{Free, Open, Closed}
use Rattle.parity_log.specs.declared.records.Tables.{Tables}
use Rattle.parity_log.specs.Tables.{capacity, state_of, page_state, is_closed, live, group_of, with_page, with_state}
use Rattle.parity_log.specs.LogState.{LogState, with_tables}
use Rattle.parity_log.specs.Choices.{open_group}
use Rattle.parity_log.specs.Order.{positions, Sound, Settled, SettledLog, Leaving}
use Rattle.parity_log.specs.Paging.{placed, unused, released_old, shut, closed_full, closed_log}
use Rattle.parity_log.proofs.Bounds.{shape_bounds}
use Rattle.parity_log.proofs.EntryLaws.{entry_other, entry_cases, live_kept, live_out}
use Rattle.parity_log.proofs.Fewest.{closed_from}
use Rattle.parity_log.proofs.SoundLaws.{open_cases, open_below, not_none, closed_below, state_room, Puts, puts_next, puts_nowhere, entered, sound_entered, sound_restated, sound_freed, free_entered, free_kept, free_freed}

leaves_entered : (v : Tables) (p : ℕ) (s : PageState) (n : ℕ) → Settled v → p < capacity v.shape → v.filled ≤ n → n ≤ v.shape.servers → Puts v p s n → Leaving (entered v p s n) (group_of (page_state v p))
leaves_entered v p s n settled l more most puts = record {
  sound = sound_entered v p s n settled.sound l more most puts;
  spare = rw (free_entered v p s n) settled.spare;
  used = λ h e ne. omega (arith, settled.used h e, live_kept v.pages p s v.shape.servers h ne);
}

pub place_leaves : (v : Tables) (g p : ℕ) → Settled v → state_of v g ≡ Open → p < capacity v.shape → Leaving (placed v g p) (group_of (page_state v p))
place_leaves v g p settled o l =
    leaves_entered v p (Out g v.filled) (v.filled + 1) settled l (omega arith) (omega (arith, settled.room)) (puts_next v g p settled.sound o)

-- a closed group without a live position, released
module _ (v : Tables) (g : ℕ) (leaving : Leaving v (Some g)) where
  released : unused v g ≡ true → Leaving (with_state v g Free) None
  released t =
      let sound = leaving.sound in
      let both = and_parts (is_closed (state_of v g)) (eqb (live v g) 0) t in
      let closed = closed_from (state_of v g) both.0 in
      let none = eqb-true (live v g) 0 both.1 in
      let below = closed_below v sound g closed in
      record {
        sound = sound_freed v g sound closed (λ p i e. omega (arith, none, live_out v.pages g i v.shape.servers p (rw closed at (sound.placed p g i e).1) e));
        spare = free_freed v g sound below;
        used = λ h e _. ⊎_elim
            (λ own. let f = own.1 in absurd (cc))
            (λ old. leaving.used h old.1 (λ z. old.0 (cc))) (entry_cases Free v.states g Free (state_room v sound g below) h Closed e);
      }

  kept : unused v g ≡ false → Leaving v None
  kept f = record {
    sound = leaving.sound;
    spare = leaving.spare;
    used = λ h e _. ⊎_elim
        (λ same. ⊎_elim
        (λ c. absurd (both_ways (is_closed (state_of v g)) c (ap (λ k. is_closed (state_of v k)) (sym same) ∙ ap is_closed e)))
        (λ n. let some = eqb-false (live v g) 0 n in rw same (positive (live v g) some)) (and_cases (is_closed (state_of v g)) (eqb (live v g) 0) f))
        (λ ne. leaving.used h e (λ z. ne (cc))) (cases_eq h g);
  }
    where
      positive : (n : ℕ) → (n ≡ 0 → ⊥) → 1 ≤ n
      positive n h = omega arith

pub release_settles : (v : Tables) (left : Option ℕ) → Leaving v left → Leaving (released_old left v) None
release_settles v None leaving = leaving
release_settles v (Some g) leaving = cond_both (unused v g) (with_state v g Free) v (λ w. Leaving w None) (released v g leaving) (kept v g leaving)

pub release_open : (v : Tables) (left : Option ℕ) (g : ℕ) → state_of v g ≡ Open → state_of (released_old left v) g ≡ Open
release_open v None g e = e
release_open v (Some h) g e = cond_both (unused v h) (with_state v h Free) v (λ w. state_of w g ≡ Open)
    (λ t. entry_other Free v.states h Free g (λ same.
    let c = closed_from (state_of v h) (and_parts (is_closed (state_of v h)) (eqb (live v h) 0) t).0 in
    let o = ap (state_of v) (sym same) ∙ e in
    cc) ∙ e)
    (λ _. e)

-- a release changes only a group's state
pub release_same : (v : Tables) (left : Option ℕ) → let w = released_old left v in (w.shape ≡ v.shape) × (w.pages ≡ v.pages) × (w.last ≡ v.last) × (w.filled ≡ v.filled)
release_same v None = (refl, refl, refl, refl)
release_same v (Some g) = cond_both (unused v g) (with_state v g Free) v (λ w. (w.shape ≡ v.shape) × (w.pages ≡ v.pages) × (w.last ≡ v.last) × (w.filled ≡ v.filled))
    (λ _. (refl, refl, refl, refl)) (λ _. (refl, refl, refl, refl))

used_all : (v : Tables) → Leaving v None → (g : ℕ) → state_of v g ≡ Closed → 1 ≤ live v g
used_all v leaving g e = leaving.used g e (λ n. cc)

closed_settles : (v : Tables) (g p : ℕ) → Leaving v None → state_of v g ≡ Open → 1 ≤ v.filled → page_state v p ≡ Out g (v.filled - 1) → Settled (closed_full v g)
closed_settles v g p leaving o some at = cond_both (eqb v.filled v.shape.servers) (shut v g) v Settled full (λ f. record {
  sound = sound;
  room = let ne = eqb-false v.filled v.shape.servers f in omega (arith, sound.filled);
  none_open = λ n. absurd (not_none v sound g o n);
  spare = leaving.spare;
  used = used_all v leaving;
})
  where
    sound : Sound v
    sound = leaving.sound

    only : (h : ℕ) → state_of v h ≡ Open → h ≡ g
    only h e = let a = sound.only_open h e in let b = sound.only_open g o in cc

    same_positions : (h : ℕ) → (h ≡ g → ⊥) → positions (state_of v h) v.shape.servers v.filled ≤ positions (state_of v h) v.shape.servers 0
    same_positions h ne = elim (state_of v h) as (λ s. state_of v h ≡ s → positions s v.shape.servers v.filled ≤ positions s v.shape.servers 0)
        [ Free ↦ λ _. omega arith | Open ↦ λ e. absurd (ne (only h e)) | Closed ↦ λ _. omega arith ] refl

    full : eqb v.filled v.shape.servers ≡ true → Settled (shut v g)
    full t =
        let all = eqb-true v.filled v.shape.servers t in
        let b = shape_bounds v.shape sound.shape in
        let below = open_below v sound g o in
        record {
          sound = sound_restated v g Closed v.last 0 sound below (record {
            own = λ q i e. omega (arith, rw o at (sound.placed q g i e).1);
            others = same_positions;
            own_open = λ z. absurd (cc);
            others_open = λ h _ e. sound.only_open h e;
            last = sound.last;
            filled = omega arith;
          });
          room = omega arith;
          none_open = λ _. refl;
          spare = omega (arith, leaving.spare, free_kept v g Closed v.last 0 (λ f. cc));
          used = λ h e. ⊎_elim
              (λ own. rw own.0 (live_out v.pages g (v.filled - 1) v.shape.servers p (omega arith) at))
              (λ old. used_all v leaving h old.1) (entry_cases Free v.states g Closed (state_room v sound g below) h Closed e);
        }

-- the log then: its running parity is zero where the group was full, and else a group is open
pub close_settles : (l : LogState) (g p : ℕ) → Leaving l.tables None → state_of l.tables g ≡ Open → 1 ≤ l.tables.filled
    → page_state l.tables p ≡ Out g (l.tables.filled - 1) → SettledLog (closed_log l g)
close_settles l g p leaving o some at = record { tables = closed_settles l.tables g p leaving o some at; cleared = cleared (eqb v.filled v.shape.servers) }
  where
    v : Tables
    v = l.tables

    cleared : (t : Bool) → open_group (cond t (shut v g) v) ≡ None → cond t zeros l.running ≡ zeros
    cleared true n = refl
    cleared false n = absurd (not_none v leaving.sound g o n)

-- a page that is out nowhere any more
module _ (v : Tables) (p : ℕ) (s : PageState) (settled : Settled v) (l : p < capacity v.shape) (nowhere : (g i : ℕ) → s ≡ Out g i → ⊥) where
  abbrev left : Option ℕ
  left = group_of (page_state v p)

  abbrev gone : Tables
  gone = released_old left (with_page v p s)

  leaves : Leaving gone None
  leaves = release_settles (with_page v p s) left (leaves_entered v p s v.filled settled l (omega arith) settled.sound.filled (puts_nowhere v p s v.filled nowhere))

  none_before : open_group gone ≡ None → open_group v ≡ None
  none_before n = ⊎_elim (λ was. was) (λ o. absurd (not_none gone leaves.sound o.0 (release_open (with_page v p s) left o.0 o.1) n)) (open_cases v)

  leaves_out : Settled gone
  leaves_out =
      let same = release_same (with_page v p s) left in
      record {
        sound = leaves.sound;
        room = rw same.3 (rw same.0 settled.room);
        none_open = λ n. same.3 ∙ settled.none_open (none_before n);
        spare = leaves.spare;
        used = used_all gone leaves;
      }

-- a log in which a group is open owes nothing of its running parity
pub open_settled : (l : LogState) (g : ℕ) → Settled l.tables → state_of l.tables g ≡ Open → SettledLog l
open_settled l g settled o = record { tables = settled; cleared = λ n. absurd (not_none l.tables settled.sound g o n) }

leaves_out_log : (l : LogState) (p : ℕ) (s : PageState) → SettledLog l → p < capacity l.tables.shape → ((g i : ℕ) → s ≡ Out g i → ⊥)
    → SettledLog (with_tables l (released_old (group_of (page_state l.tables p)) (with_page l.tables p s)))
leaves_out_log l p s settled below nowhere = record {
  tables = leaves_out l.tables p s settled.tables below nowhere;
  cleared = λ n. settled.cleared (none_before l.tables p s settled.tables below nowhere n);
}

pub lose_leaves : (l : LogState) (p g i m : ℕ) → SettledLog l → p < capacity l.tables.shape → page_state l.tables p ≡ Out g i
    → SettledLog (with_tables l (released_old (Some g) (with_page l.tables p (Lost g m))))
lose_leaves l p g i m settled below e =
    let s : PageState = Lost g m in
    subst (λ o. SettledLog (with_tables l (released_old (group_of o) (with_page l.tables p s)))) e (leaves_out_log l p s settled below (λ h j f. cc))

pub free_leaves : (l : LogState) (p : ℕ) → SettledLog l → p < capacity l.tables.shape
    → SettledLog (with_tables l (released_old (group_of (page_state l.tables p)) (with_page l.tables p NotOut)))
free_leaves l p settled below = leaves_out_log l p NotOut settled below (λ h j f. cc)
