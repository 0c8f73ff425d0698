-- What a cleaning keeps, position by position, and what it ends with.
use Rattle.std.proofs.Common.{◌≡◌, ℕ, suc, ◌+◌, ◌-◌, ◌<◌, ◌≤◌, cond, List, get_or, set, is_some, Some, None, count_by, sym, ap, ◌∙◌, ⊎_elim, arith}
use Rattle.std.specs.List.{range_with_len}
use Rattle.std.proofs.lemmas.List.Sums.{sum_by-cons}
use Rattle.std.proofs.lemmas.Bool.{cases_eq}
use Rattle.parity_log.specs.declared.records.PageState.{PageState}
use Rattle.parity_log.specs.declared.records.PageState.TheVariants.{NotOut, Out, Lost}
use Rattle.parity_log.specs.declared.records.GroupState.TheVariants.{Free, Open, Closed}
use Rattle.parity_log.specs.declared.records.Tables.{Tables}
use Rattle.parity_log.specs.Tables.{capacity, state_of, page_state, page_at, group_of, with_page, with_state}
use Rattle.parity_log.specs.Order.{Settled, Cleaning}
use Rattle.parity_log.specs.Paging.{placed}
use Rattle.parity_log.proofs.CountLaws.{count_kept}
use Rattle.parity_log.proofs.EntryLaws.{at_out, out_at, live_at, none_out, none_at, entry_other, entry_cases, live_kept}
use Rattle.parity_log.proofs.SoundLaws.{page_room, page_below, open_below, closed_below, not_none, state_room, Puts, puts_next, puts_nowhere, entered, sound_entered, sound_freed, free_freed}

-- how many live positions of a group are still ahead
abbrev ahead : List PageState → ℕ → ℕ → ℕ → ℕ
ahead pages c i servers = count_by (λ j. is_some (page_at pages c j)) (range_with_len i (servers - i))

-- the position i, and those after it
ahead_more : (pages : List PageState) (c i n : ℕ) → i < n → ahead pages c i n ≡ cond (is_some (page_at pages c i)) 1 0 + ahead pages c (i + 1) n
ahead_more pages c i n l =
    let on : n - i ≡ suc (n - (i + 1)) = omega arith in
    ap (λ k. count_by (λ j. is_some (page_at pages c j)) (range_with_len i k)) on ∙ sum_by-cons (λ j. cond (is_some (page_at pages c j)) 1 0) i (range_with_len (i + 1) (n - (i + 1)))

pub clean_group : (v : Tables) (g c i : ℕ) → Cleaning v g c i → (c < v.shape.groups) × (g < v.shape.groups)
clean_group v g c i cleaning = (closed_below v cleaning.sound c cleaning.closed, open_below v cleaning.sound g cleaning.open_now)

apart : (v : Tables) (g c i : ℕ) → Cleaning v g c i → g ≡ c → ⊥
apart v g c i cleaning same = let a = ap (state_of v) (sym same) ∙ cleaning.open_now in let b = cleaning.closed in cc

-- a live position ahead, moved
one_ahead : (v : Tables) (g c i p : ℕ) → Cleaning v g c i → i < v.shape.servers → page_at v.pages c i ≡ Some p → v.filled + 1 + ahead v.pages c (i + 1) v.shape.servers < v.shape.servers
one_ahead v g c i p cleaning l e =
    omega (arith, cleaning.room, ahead_more v.pages c i v.shape.servers l, ap {B = ℕ} (λ o. cond (is_some o) 1 0) e)

pub clean_page : (v : Tables) (g c i p : ℕ) → Cleaning v g c i → i < v.shape.servers → page_at v.pages c i ≡ Some p → (p < capacity v.shape) × (page_state v p ≡ Out c i) × (v.filled + 1 < v.shape.servers)
clean_page v g c i p cleaning l e = let at = at_out v.pages c i p e in (page_below v cleaning.sound p c i at, at, omega (arith, one_ahead v g c i p cleaning l e))

pub clean_skip : (v : Tables) (g c i : ℕ) → Cleaning v g c i → i < v.shape.servers → page_at v.pages c i ≡ None → Cleaning v g c (i + 1)
clean_skip v g c i cleaning l e = record {
  sound = cleaning.sound;
  open_now = cleaning.open_now;
  closed = cleaning.closed;
  moved = λ j m. ⊎_elim (λ same. ap (page_at v.pages c) same ∙ e) (λ ne. cleaning.moved j (omega arith)) (cases_eq j i);
  room = omega (arith, cleaning.room, ahead_more v.pages c i v.shape.servers l);
  used = cleaning.used;
}

-- the page at position i gets an entry that is not in the cleaned group
module _ (v : Tables) (g c i p : ℕ) (s : PageState) (n : ℕ) (cleaning : Cleaning v g c i) (l : i < v.shape.servers) (e : page_at v.pages c i ≡ Some p) (gone : (j : ℕ) → s ≡ Out c j → ⊥) where
  at_old : page_state v p ≡ Out c i
  at_old = at_out v.pages c i p e

  -- who is out in the cleaned group was so before, and not at i
  still_out : (q j : ℕ) → get_or (set v.pages p s) q NotOut ≡ Out c j → (page_state v q ≡ Out c j) × (j ≡ i → ⊥)
  still_out q j f = ⊎_elim
      (λ own. absurd (gone j own.1))
      (λ old. (old.1, λ same. old.0 (cleaning.sound.once q p c i (old.1 ∙ ap (Out c) same) at_old)))
      (entry_cases NotOut v.pages p s (page_room v cleaning.sound p (page_below v cleaning.sound p c i at_old)) q (Out c j) f)

  clean_entered : v.filled ≤ n → n ≤ v.filled + 1 → Puts v p s n → Cleaning (entered v p s n) g c (i + 1)
  clean_entered more most puts =
      let room = one_ahead v g c i p cleaning l e in
      record {
        sound = sound_entered v p s n cleaning.sound (page_below v cleaning.sound p c i at_old) more (omega arith) puts;
        open_now = cleaning.open_now;
        closed = cleaning.closed;
        moved = λ j m. none_at (set v.pages p s) c j (λ q f. let r = still_out q j f in ⊎_elim r.1 (λ ne. none_out v.pages c j q (cleaning.moved j (omega arith)) r.0) (cases_eq j i));
        room = omega (
          arith,
          count_kept (λ j. is_some (page_at (set v.pages p s) c j)) (λ j. is_some (page_at v.pages c j)) (i + 1) (v.shape.servers - (i + 1))
              (λ j _ _ t. let r = live_at (set v.pages p s) c j t in out_at v.pages c j r.0 (still_out r.0 j r.1).0),
        );
        used = λ h f ne. omega (arith, cleaning.used h f ne, live_kept v.pages p s v.shape.servers h (λ z. let was = ap group_of at_old in ne (cc)));
      }

pub clean_place : (v : Tables) (g c i p : ℕ) → Cleaning v g c i → i < v.shape.servers → page_at v.pages c i ≡ Some p → Cleaning (placed v g p) g c (i + 1)
clean_place v g c i p cleaning l e =
    clean_entered v g c i p (Out g v.filled) (v.filled + 1) cleaning l e (λ j f. apart v g c i cleaning (cc)) (omega arith) (omega arith) (puts_next v g p cleaning.sound cleaning.open_now)

pub clean_lose : (v : Tables) (g c i p m : ℕ) → Cleaning v g c i → i < v.shape.servers → page_at v.pages c i ≡ Some p → Cleaning (with_page v p (Lost c m)) g c (i + 1)
clean_lose v g c i p m cleaning l e =
    clean_entered v g c i p (Lost c m) v.filled cleaning l e (λ j f. cc) (omega arith) (omega arith) (puts_nowhere v p (Lost c m) v.filled (λ h j f. cc))

pub clean_end : (v : Tables) (g c : ℕ) → Cleaning v g c v.shape.servers → Settled (with_state v c Free) × (state_of (with_state v c Free) g ≡ Open)
clean_end v g c cleaning =
    let before = cleaning.sound in
    let below = closed_below v before c cleaning.closed in
    let now = entry_other Free v.states c Free g (apart v g c v.shape.servers cleaning) ∙ cleaning.open_now in
    let sound = sound_freed v c before cleaning.closed (λ p i e. none_out v.pages c i p (cleaning.moved i (rw cleaning.closed at (before.placed p c i e).1)) e) in (
      record {
        sound = sound;
        room = omega (arith, cleaning.room);
        none_open = λ n. absurd (not_none (with_state v c Free) sound g now n);
        spare = free_freed v c before below;
        used = λ h e. ⊎_elim
            (λ own. let f = own.1 in absurd (cc))
            (λ old. cleaning.used h old.1 old.0) (entry_cases Free v.states c Free (state_room v before c below) h Closed e);
      },
      now,
    )
