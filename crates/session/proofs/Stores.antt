-- Memory servers as values stay in good order, and what they mean after a call is determined by what they meant before.
use Rattle.std.proofs.Common.{◌≡◌, ℕ, ◌+◌, ◌*◌, ◌/◌, ◌<◌, ◌≤◌, Bool, true, false, cond, List, length, Ok, Err, Result, ◌==◌, refl, sym, ap, ◌∙◌, subst, min, arith, ltb-true, eqb-true, length-append, length-take, length-drop, get_or-set_other, ⊎_elim, inl, inr, ◌⊎◌}
use Rattle.std.specs.Prelude.{nat_lt, slice_index_or}
use Rattle.std.proofs.lemmas.Bool.{both_ways, cond_both, cases_eq, cases_lt, eqb-false}
use Rattle.std.proofs.lemmas.List.{length-set}
use Rattle.page.specs.Refusals.{fault_of}
use Rattle.page.specs.declared.faults.Fault.{Fault}
use Rattle.page.specs.declared.faults.Layer.TheVariants.{Server}
use Rattle.page.specs.declared.faults.Refusal.TheVariants.{Gone, Length, None as NoPage, Range, Worn}
use Rattle.server.specs.Calls.{Call, Answer, to_put, to_get, to_free, slot_of, length_of}
use Rattle.server.specs.Meaning.{Held, Meaning, Sound, nothing, holds}
use Rattle.server.specs.Steps.{Kept, Step}
use Rattle.server.specs.Pulls.{Backs, Revived, WornOut}
use Rattle.server.specs.Ways.{same_meaning}
use Rattle.memory.specs.Laws.{empty_holds, empty_order, memory_laws}
use Rattle.memory.specs.Rule.{admits, after, fallen, flagged, reaches, refuses, revived, says, says_back, worn_out, written}
use Rattle.memory.specs.Store.{Ordered, Store, empty, held_at, last_era, made, meant, page_at, slots}

-- what every memory server keeps: good order, and an era up to the last
pub record Good (x : Store) : Type 0 where
  pub ordered : Ordered x
  pub era : x.era ≤ last_era

pub good_made : (bytes : List ℕ) → Good (made bytes 0)
good_made bytes = record { ordered = empty_order (made bytes 0) refl (λ _. omega arith); era = omega arith }

-- what holds of a server, and of what a call that reaches the slot makes of it, holds after the call
reached_by : (P : Store → Type 0) (x : Store) (n s : ℕ) (y : Store) → P x → (n ≡ 512 → s < slots x → x.up ≡ true → P y) → P (reaches x n s y)
reached_by P x n s y g f =
    cond_both (n == 512) _ x P (λ e. cond_both (nat_lt s (slots x)) _ x P (λ i. cond_both x.up _ x P (λ u. f (eqb-true n 512 e) (ltb-true s (slots x) i) u) (λ _. g)) (λ _. g)) (λ _. g)

as_long : (b : List ℕ) (s : ℕ) (p : List ℕ) → length p ≡ 512 → 512 * s + 512 ≤ length b → length (written b s p) ≡ length b
as_long b s p l h = simp (length-append, length-take, length-drop) (omega arith)

good_flagged : (x : Store) (bytes : List ℕ) (s : ℕ) (flag : Bool) → Good x → length bytes ≡ length x.bytes → s < slots x → x.up ≡ true → Good (flagged x bytes s flag)
good_flagged x bytes s flag g long within up = record {
  ordered = record {
    flags = length-set x.flags s flag ∙ g.ordered.flags;
    set = λ k f. ⊎_elim
        (λ same. (subst (λ (n : ℕ). k < min (n / 512) 64) (sym long) (subst (λ (j : ℕ). j < slots x) (sym same) within), up))
        (λ other. let was = g.ordered.set k (sym (get_or-set_other x.flags s k flag false other) ∙ f) in (subst (λ (n : ℕ). k < min (n / 512) 64) (sym long) was.0, was.1))
        (cases_eq k s);
    short = g.ordered.short;
  };
  era = g.era;
}

pub good_after : (x : Store) (c : Call) → Good x → Good (after x c)
good_after x (to_put s p) g = reached_by Good x (length p) s _ g (λ l i u. good_flagged x _ s true g (as_long x.bytes s p l (omega arith)) i u)
good_after x (to_get s n) g = g
good_after x (to_free s) g = reached_by Good x 512 s _ g (λ l i u. good_flagged x _ s false g refl i u)

pub good_fallen : (x : Store) → Good x → Good (fallen x)
good_fallen x g = cond_both x.up _ x Good (λ u. record { ordered = empty_order _ refl (λ f. absurd (both_ways _ refl f)); era = omega (arith, g.ordered.short u) }) (λ _. g)

-- a server that is not worn out is below the last era
not_last : (x : Store) → Good x → worn_out x ≡ false → x.era < last_era
not_last x g worn = by_test x.up refl worn
  where
    by_test : (b : Bool) → x.up ≡ b → cond b false (x.era == last_era) ≡ false → x.era < last_era
    by_test true u e = g.ordered.short u
    by_test false u e = omega (arith, g.era, eqb-false x.era last_era e)

pub good_revived : (x : Store) → Good x → Good (revived x)
good_revived x g = cond_both (worn_out x) x _ Good (λ _. g) (λ worn. record {
  ordered = record { flags = g.ordered.flags; set = λ k f. ((g.ordered.set k f).0, refl); short = λ _. not_last x g worn };
  era = g.era;
})

-- a call is a step of what a server means
pub store_step : (x : Store) (c : Call) → Good x → Step (meant x) c (says x c) (meant (after x c))
store_step x c g =
    let laws = memory_laws {S = (y : Store) × Ordered y} {N = Unit {0}} (λ s. s.0) (λ _. tt) (λ s. s.1) in
    laws.meets (x, g.ordered) c (says x c) (after x c, (good_after x c g).ordered) (record { says = refl; leaves = refl }, refl)

pub store_sound : (x : Store) → Good x → Sound (meant x)
store_sound x g = (memory_laws {S = (y : Store) × Ordered y} {N = Unit {0}} (λ s. s.0) (λ _. tt) (λ s. s.1)).sound (x, g.ordered)

pub era_after : (x : Store) (c : Call) → (after x c).era ≡ x.era
era_after x (to_put s p) = reached_by (λ y. y.era ≡ x.era) x (length p) s _ refl (λ _ _ _. refl)
era_after x (to_get s n) = refl
era_after x (to_free s) = reached_by (λ y. y.era ≡ x.era) x 512 s _ refl (λ _ _ _. refl)

-- What a server answers and means next, by what it means.
abbrev pub page_held : Held → ℕ → Result (List ℕ) Fault
page_held nothing s = refuses NoPage s
page_held (holds p) s = Ok p

abbrev pub admits_by : {T : Type 0} → Meaning → ℕ → ℕ → Result T Fault → Result T Fault
admits_by m n s answer = cond (n == 512) (cond (nat_lt s m.size) answer (refuses Range s)) (refuses Length s)

abbrev pub said_by : Meaning → (c : Call) → Answer c
said_by m (to_put s page) = admits_by m (length page) s (cond m.up (Ok tt) (refuses Gone s))
said_by m (to_get s n) = admits_by m n s (cond m.up (page_held (m.held s) s) (refuses Gone s))
said_by m (to_free s) = admits_by m 512 s (Ok tt)

pub says_by : (x : Store) (c : Call) → says x c ≡ said_by (meant x) c
says_by x (to_put s page) = refl
says_by x (to_get s n) = ap (λ a. admits x n s (cond x.up a (refuses Gone s))) (by_test (slice_index_or x.flags s false) (page_at x.bytes s))
  where
    by_test : (b : Bool) (p : List ℕ) → cond b (Ok p) (refuses NoPage s) ≡ page_held (cond b (holds p) nothing) s
    by_test true p = refl
    by_test false p = refl
says_by x (to_free s) = refl

-- the slot that a call names, where the server is up and keeps its era
named_same : (c : Call) (h : Held) (a : Answer c) (k k' : Held) → Kept c h a k → Kept c h a k' → k' ≡ k
named_same (to_put s p) h a k k' r r' = r'.1 ∙ sym r.1
named_same (to_get s n) h a k k' r r' = r'.1 ∙ sym r.1
named_same (to_free s) h a k k' r r' = r'.1 ∙ sym r.1

-- a step that keeps the era leads to one meaning
step_same : (m : Meaning) (c : Call) (a : Answer c) (n n' : Meaning) → Step m c a n → Step m c a n' → n.era ≡ m.era → n'.era ≡ m.era → n' ≡ n
step_same m c a n n' r r' e e' = ⊎_elim whole (λ long. (r'.long long).1 ∙ sym (r.long long).1) (cases_eq (length_of c) 512)
  where
    fine : length_of c ≡ 512 → slot_of c < m.size → (u : Bool) → m.up ≡ u → n' ≡ n
    fine l i true u =
        let k = r.kept (l, i) u e in
        let k' = r'.kept (l, i) u e' in
        same_meaning (r'.size ∙ sym r.size) (k'.0 ∙ sym k.0) (e' ∙ sym e) (λ j. ⊎_elim
        (λ same. rw same (named_same c (m.held (slot_of c)) a (n.held (slot_of c)) (n'.held (slot_of c)) k.2 k'.2))
        (λ other. k'.1 j other ∙ sym (k.1 j other))
        (cases_eq j (slot_of c)))
    fine l i false u = (r'.down (l, i) u).1 ∙ sym (r.down (l, i) u).1

    whole : length_of c ≡ 512 → n' ≡ n
    whole l = ⊎_elim (λ i. fine l i m.up refl) (λ past. (r'.past l past).1 ∙ sym (r.past l past).1) (cases_lt (slot_of c) m.size)

abbrev fall_of : Meaning → Meaning
fall_of m = cond m.up (record { size = m.size; up = false; era = m.era + 1; held = λ _. nothing }) m

meant_fallen : (x : Store) → meant (fallen x) ≡ fall_of (meant x)
meant_fallen x = cond_both x.up (empty x.bytes false (x.era + 1)) x (λ y. meant y ≡ fall_of (meant x))
    (λ u. rw u (same_meaning refl refl refl (λ k. empty_holds (empty x.bytes false (x.era + 1)) refl k)))
    (λ d. rw d refl)

abbrev back_of : Meaning → Meaning
back_of m = cond (cond m.up false (m.era == last_era)) m (record { size = m.size; up = true; era = m.era; held = m.held })

meant_revived : (x : Store) → meant (revived x) ≡ back_of (meant x)
meant_revived x = by_test (worn_out x)
  where
    y : Store
    y = record { bytes = x.bytes; flags = x.flags; up = true; era = x.era }

    by_test : (b : Bool) → meant (cond b x (record { bytes = x.bytes; flags = x.flags; up = true; era = x.era })) ≡ cond b (meant x) (record { size = slots x; up = true; era = x.era; held = held_at x })
    by_test true = refl
    by_test false = refl

-- two servers that mean the same
pub record Alike (x y : Store) : Type 0 where
  pub means : meant x ≡ meant y
  pub first : Good x
  pub second : Good y

module _ (x y : Store) (alike : Alike x y) where
  pub says_alike : (c : Call) → says x c ≡ says y c
  says_alike c = says_by x c ∙ ap (λ m. said_by m c) alike.means ∙ sym (says_by y c)

  pub says_back_alike : says_back x ≡ says_back y
  says_back_alike = ap (λ (m : Meaning). cond (cond m.up false (m.era == last_era)) (Err (fault_of Server Worn)) (Ok tt)) alike.means

  pub alike_after : (c : Call) → Alike (after x c) (after y c)
  alike_after c =
      let P : Meaning → Type 0 = λ m. Step m c (says y c) (meant (after y c)) in
      let Q : Answer c → Type 0 = λ a. Step (meant x) c a (meant (after y c)) in
      let other = subst Q (sym (says_alike c)) (subst P (sym alike.means) (store_step y c alike.second)) in
      record {
        means = sym (step_same (meant x) c (says x c) (meant (after x c)) (meant (after y c)) (store_step x c alike.first) other (era_after x c) (era_after y c ∙ sym (ap (λ (m : Meaning). m.era) alike.means)));
        first = good_after x c alike.first;
        second = good_after y c alike.second;
      }

  pub alike_fallen : Alike (fallen x) (fallen y)
  alike_fallen = record { means = meant_fallen x ∙ ap fall_of alike.means ∙ sym (meant_fallen y); first = good_fallen x alike.first; second = good_fallen y alike.second }

  pub alike_revived : Alike (revived x) (revived y)
  alike_revived = record { means = meant_revived x ∙ ap back_of alike.means ∙ sym (meant_revived y); first = good_revived x alike.first; second = good_revived y alike.second }

-- servers that were just made over as many slots
pub alike_made : (b b' : List ℕ) → slots (made b 0) ≡ slots (made b' 0) → Alike (made b 0) (made b' 0)
alike_made b b' same = record {
  means = same_meaning same refl refl (λ k. empty_holds (made b 0) refl k ∙ sym (empty_holds (made b' 0) refl k));
  first = good_made b;
  second = good_made b';
}

-- a server that is brought back comes up empty, or is worn out; one that is up stays as it is
pub back_meets : (x : Store) → Good x → Backs (meant x) (says_back x) (meant (revived x))
back_meets x g = record {
  up = λ u. rw u (refl, refl);
  down = λ u. by_test (x.era == last_era) refl u;
}
  where
    by_test : (b : Bool) → (x.era == last_era) ≡ b → x.up ≡ false → ((says_back x ≡ Ok tt) × Revived (meant x) (meant (revived x))) ⊎ (WornOut (says_back x) × (meant (revived x) ≡ meant x))
    by_test true e u = rw (u, e) (inr ((Server, tt, refl), refl))
    by_test false e u = rw (u, e) (inl (refl, (refl, refl, refl, (store_sound x g).down u)))
