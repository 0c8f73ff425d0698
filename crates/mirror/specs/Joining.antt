-- What a call leaves of two halves, taken as one.
use Rattle.std.specs.Prelude.{◌≡◌, ℕ, ◌≤◌, min, Bool, true, false, cond, ◌||◌, ◌⊎◌, List, Ok, Err, Result, refl}
use Rattle.std.proofs.Common.{sym, ap, ap₂, subst, ◌∙◌, inl, inr, ⊎_elim, arith}
use Rattle.std.proofs.lemmas.Bool.{cases_Bool, cases_eq, or_parts}
use Rattle.page.specs.declared.faults.Fault.{Fault}
use Rattle.page.specs.declared.faults.Layer.TheVariants.{Mirror}
use Rattle.page.specs.declared.faults.Refusal.TheVariants.{None, Gone}
use Rattle.page.specs.Refusals.{same_refusal}
use Rattle.server.specs.Meaning.{Held, nothing, holds, Meaning, Sound, Empty, SameOrNothing}
use Rattle.server.specs.Calls.{Call, to_put, to_get, to_free, slot_of, Answer, Denied}
use Rattle.server.specs.Steps.{Fine, Raised, Others, Fewer, Step}
use Rattle.server.specs.Ways.{clash}
use Rattle.mirror.specs.Joined.{first_of, joined, Copies, Agree, Paired}
use Rattle.mirror.specs.Rule.{Reply, refusal, either_done_of, second_says}
use Rattle.mirror.specs.Leaving.{not_held, wanted, raised_down, raised_kept, emptied, Leaves}

pub or_true : (a b : Bool) → (a || b) ≡ true → (a ≡ true) ⊎ ((a ≡ false) × (b ≡ true))
or_true true b e = inl refl
or_true false b e = inr (refl, e)

-- pages that are dropped leave the copies equal
pub fewer_copies : (a b x y : Held) → Copies a b → SameOrNothing a x → SameOrNothing b y → Copies x y
fewer_copies a b x y same (inl e) (inl f) p q g h = same p q (sym e ∙ g) (sym f ∙ h)
fewer_copies a b x y same (inr e) f p q g h = not_held x p e g
fewer_copies a b x y same (inl e) (inr f) p q g h = not_held y q f h

pub fewer_joined : (a b x y : Held) → Copies a b → SameOrNothing a x → SameOrNothing b y → SameOrNothing (first_of a b) (first_of x y)
fewer_joined a b x y same (inl e) (inl f) = inl (ap₂ first_of e f)
fewer_joined nothing b x y same (inl e) (inr f) = inr (ap₂ first_of e f)
fewer_joined (holds p) b x y same (inl e) (inr f) = inl (ap₂ first_of e f)
fewer_joined nothing b x y same (inr e) (inl f) = inl (ap₂ first_of e f)
fewer_joined (holds p) nothing x y same (inr e) (inl f) = inr (ap₂ first_of e f)
fewer_joined (holds p) (holds q) x y same (inr e) (inl f) = inl (ap₂ first_of e f ∙ ap holds (sym (same p q refl refl)))
fewer_joined a b x y same (inr e) (inr f) = inr (ap₂ first_of e f)

wanted_copies : (c : Call) (a b : Held) → Copies a b → Copies (wanted c a) (wanted c b)
wanted_copies (to_put s r) a b same p q e f = cc
wanted_copies (to_get s n) a b same p q e f = same p q e f
wanted_copies (to_free s) a b same p q e f = not_held nothing p refl e

pub joined_sound : (m n : Meaning) → Sound m → Sound n → (joined m n).up ≡ false → Empty (joined m n)
joined_sound m n om on u k = let d = or_parts m.up n.up u in ap₂ first_of (om.down d.0 k) (on.down d.1 k)

pub paired_sound : (m n : Meaning) → Sound m → Sound n → Paired m n → Sound (joined m n)
paired_sound m n om on o = record { down = joined_sound m n om on; past = o.past }

-- the named slot of both halves, where neither era rose
both_done : {m n m' n' : Meaning} (c : Call) → Leaves m m' c → Leaves n n' c → Sound m → Sound n → m'.era ≡ m.era → n'.era ≡ n.era → (m.up || n.up) ≡ true → first_of (m'.held (slot_of c)) (n'.held (slot_of c)) ≡ wanted c (first_of (m.held (slot_of c)) (n.held (slot_of c)))
both_done {m} {n} {m'} {n'} (to_put s p) h i om on e f u =
    ⊎_elim (λ v. ap (λ z. first_of z (n'.held s)) (h.done e v)) (λ v. ap₂ first_of (ap (λ (x : Meaning). x.held s) (h.down v.0) ∙ om.down v.0 s) (i.done f v.1)) (or_true m.up n.up u)
both_done {m} {n} {m'} {n'} (to_get s l) h i om on e f u = ap₂ first_of (read h e) (read i f)
  where
    read : {x y : Meaning} → Leaves x y (to_get s l) → y.era ≡ x.era → y.held s ≡ x.held s
    read {x} {y} t g = ⊎_elim (λ v. t.done g v) (λ v. ap (λ (z : Meaning). z.held s) (t.down v)) (cases_Bool x.up)
both_done {m} {n} {m'} {n'} (to_free s) h i om on e f u = ap₂ first_of (emptied (m'.held s) h.named) (emptied (n'.held s) i.named)

module _ {m n m' n' : Meaning} {c : Call} (h : Leaves m m' c) (i : Leaves n n' c) (om : Sound m) (on : Sound n) (ag : Agree m n) (fine : Fine (joined m n) c) where
  eras : (joined m' n').era ≡ (joined m n).era → (m'.era ≡ m.era) × (n'.era ≡ n.era)
  eras e = (omega (arith, h.era, i.era), omega (arith, h.era, i.era))

  joined_others : Fewer (joined m n) (joined m' n') (slot_of c)
  joined_others k ne = fewer_joined (m.held k) (n.held k) (m'.held k) (n'.held k) (ag k) (h.others k ne) (i.others k ne)

  joined_still : (joined m' n').era ≡ (joined m n).era → ((joined m' n').up ≡ (joined m n).up) × Others (joined m n) (joined m' n') (slot_of c)
  joined_still e =
      let x = h.still (eras e).0 in
      let y = i.still (eras e).1 in
      (ap₂ ◌||◌ x.0 y.0, λ k ne. ap₂ first_of (x.1 k ne) (y.1 k ne))

  pub joined_agree : Agree m' n'
  joined_agree k = ⊎_elim named (λ ne. fewer_copies (m.held k) (n.held k) (m'.held k) (n'.held k) (ag k) (h.others k ne) (i.others k ne)) (cases_eq k (slot_of c))
    where
      named : k ≡ slot_of c → Copies (m'.held k) (n'.held k)
      named e = subst (λ (j : ℕ). Copies (m'.held j) (n'.held j)) (sym e) (fewer_copies (wanted c (m.held (slot_of c))) (wanted c (n.held (slot_of c))) (m'.held (slot_of c)) (n'.held (slot_of c)) (wanted_copies c (m.held (slot_of c)) (n.held (slot_of c)) (ag (slot_of c))) h.named i.named)

  pub joined_past : ((k : ℕ) → (joined m n).size ≤ k → (joined m n).held k ≡ nothing) → (k : ℕ) → (joined m' n').size ≤ k → (joined m' n').held k ≡ nothing
  joined_past past k l =
      let q : (joined m n).size ≤ k = omega (arith, h.size, i.size) in
      ⊎_elim (λ e. e ∙ past k q) (λ e. e) (joined_others k (λ e. let z : ⊥ = omega (arith, fine.1) in absurd z))

  -- where no era rises the named slot holds what was wanted, if either half is up
  joined_done : (joined m' n').era ≡ (joined m n).era → (joined m n).up ≡ true → (joined m' n').held (slot_of c) ≡ wanted c ((joined m n).held (slot_of c))
  joined_done e u = both_done c h i om on (eras e).0 (eras e).1 u

  pub joined_step : (a : Answer c) → Raised c ((joined m n).held (slot_of c)) a ((joined m' n').held (slot_of c)) → Step (joined m n) c a (joined m' n')
  joined_step a r = record {
    long = λ bad. absurd (bad fine.0);
    past = λ _ q. let z : ⊥ = omega (arith, fine.1) in absurd z;
    down = λ _ u.
        let d = or_parts m.up n.up u in
        let e = ap₂ joined (h.down d.0) (i.down d.1) in
        let g = joined_sound m n om on u (slot_of c) in
        (raised_down c _ a _ g (ap (λ (x : Meaning). x.held (slot_of c)) e ∙ g) r, e);
    kept = λ _ u e. let t = joined_still e in (t.0 ∙ u, t.1, raised_kept c _ a _ (joined_done e u) r);
    raised = λ _ _ _. (joined_others, r);
    size = ap₂ min h.size i.size;
    era = omega (arith, h.era, i.era);
  }

pub put_raised : (s : ℕ) (p : List ℕ) (h k h' k' : Held) (b d : Reply) → Raised (to_put s p) h b h' → Raised (to_put s p) k d k' → Raised (to_put s p) (first_of h k) (either_done_of (refusal Gone s) b d) (first_of h' k')
put_raised s p h k h' k' b d (inl x) y = inl (ap (λ (z : Reply). either_done_of (refusal Gone s) z d) x.0, ap (λ z. first_of z k') x.1)
put_raised s p h k h' k' b d (inr x) (inl y) = inl (ap₂ (either_done_of (refusal Gone s)) x.0.2 y.0, ap₂ first_of x.1 y.1)
put_raised s p h k h' k' b d (inr x) (inr y) = inr ((Mirror, tt, ap₂ (either_done_of (refusal Gone s)) x.0.2 y.0.2), ap₂ first_of x.1 y.1)

-- a page that is handed over was not denied
not_denied : {A : Type 0} (s : ℕ) (p : List ℕ) → Denied (Ok p) s → A
not_denied s p (inl x) = let e = x.2 in clash (cc)
not_denied s p (inr x) = let e = x.2 in clash (cc)

pub get_raised_first : (s l : ℕ) (p : List ℕ) (h k h' k' : Held) → Raised (to_get s l) h (Ok p) h' → Raised (to_get s l) (first_of h k) (Ok p) (first_of h' k')
get_raised_first s l p h k h' k' (inl x) = inl (x.0, ap (λ z. first_of z k) x.1, x.2, ap (λ z. first_of z k') x.3)
get_raised_first s l p h k h' k' (inr x) = not_denied s p x.0

second_held : (h k : Held) (p : List ℕ) → Copies h k → k ≡ holds p → first_of h k ≡ holds p
second_held nothing k p same e = e
second_held (holds q) k p same e = ap holds (same q p refl e)

second_denied : (s : ℕ) (f : Fault) (d : Result (List ℕ) Fault) → Denied d s → Denied (second_says s f d) s
second_denied s f (Ok p) x = not_denied s p x
second_denied s f (Err g) x = none_or_gone_lem (same_refusal f.refusal None || same_refusal g.refusal None)
  where
    none_or_gone_lem : (b : Bool) → Denied {T = List ℕ} (Err (refusal (cond b None Gone) s)) s
    none_or_gone_lem true = inl (Mirror, tt, refl)
    none_or_gone_lem false = inr (Mirror, tt, refl)

pub get_raised_second : (s l : ℕ) (f : Fault) (h k h' k' : Held) (d : Result (List ℕ) Fault) → Copies h k → Raised (to_get s l) h (Err f) h' → Raised (to_get s l) k d k' → Raised (to_get s l) (first_of h k) (second_says s f d) (first_of h' k')
get_raised_second s l f h k h' k' d same (inl x) y = let e = x.2 in clash (cc)
get_raised_second s l f h k h' k' d same (inr x) (inl y) = inl (y.0, second_held h k y.0 same y.1, ap (second_says s f) y.2, ap₂ first_of x.1 y.3)
get_raised_second s l f h k h' k' d same (inr x) (inr y) = inr (second_denied s f d y.0, ap₂ first_of x.1 y.1)
