-- What a call leaves of one half, however the half is.
use Rattle.std.specs.Prelude.{◌≡◌, ℕ, ◌≤◌, true, false, List, refl}
use Rattle.std.proofs.Common.{sym, ap, subst, ◌∙◌, inl, inr, ⊎_elim, arith}
use Rattle.std.proofs.lemmas.Bool.{both_ways, cases_Bool}
use Rattle.server.specs.Meaning.{Held, nothing, holds, Meaning, Sound, SameOrNothing}
use Rattle.server.specs.Calls.{Call, to_put, to_get, to_free, slot_of, Answer}
use Rattle.server.specs.Steps.{Fine, Down, Gets, Kept, Raised, Others, Fewer, Step}
use Rattle.server.specs.Ways.{clash, same_or_more, named_raised}

pub not_held : {A : Type 0} (h : Held) (p : List ℕ) → h ≡ nothing → h ≡ holds p → A
not_held h p e f = clash (cc)

-- what the named slot is to hold
abbrev pub wanted : Call → Held → Held
wanted (to_put s p) h = holds p
wanted (to_get s n) h = h
wanted (to_free s) h = nothing

pub raised_down : (c : Call) (h : Held) (a : Answer c) (k : Held) → h ≡ nothing → k ≡ nothing → Raised c h a k → Down c a
raised_down (to_put s p) h a k e f (inl r) = not_held k p f r.1
raised_down (to_put s p) h a k e f (inr r) = r.0
raised_down (to_get s n) h a k e f (inl r) = not_held h r.0 e r.1
raised_down (to_get s n) h a k e f (inr r) = r.0
raised_down (to_free s) h a k e f r = r.0

pub raised_kept : (c : Call) (h : Held) (a : Answer c) (k : Held) → k ≡ wanted c h → Raised c h a k → Kept c h a k
raised_kept (to_put s p) h a k e (inl r) = r
raised_kept (to_put s p) h a k e (inr r) = not_held k p r.1 e
raised_kept (to_get s n) h a k e (inl r) = (subst (λ (x : Held). Gets x a s) (sym r.1) r.2, e)
raised_kept (to_get s n) h a k e (inr r) = (subst (λ (x : Held). Gets x a s) (sym r.1 ∙ e) r.0, e)
raised_kept (to_free s) h a k e r = r

raised_wanted : (c : Call) (h : Held) (a : Answer c) (k : Held) → Raised c h a k → SameOrNothing (wanted c h) k
raised_wanted (to_put s p) h a k (inl r) = inl r.1
raised_wanted (to_put s p) h a k (inr r) = inr r.1
raised_wanted (to_get s n) h a k (inl r) = inl (r.3 ∙ sym r.1)
raised_wanted (to_get s n) h a k (inr r) = inr r.1
raised_wanted (to_free s) h a k r = inl r.1

kept_wanted : (c : Call) (h : Held) (a : Answer c) (k : Held) → Kept c h a k → k ≡ wanted c h
kept_wanted (to_put s p) h a k r = r.1
kept_wanted (to_get s n) h a k r = r.1
kept_wanted (to_free s) h a k r = r.1

pub emptied : (h : Held) → SameOrNothing nothing h → h ≡ nothing
emptied h (inl e) = e
emptied h (inr e) = e

-- what is kept and what may be dropped, less where the era rose
pub record Leaves (m n : Meaning) (c : Call) : Type 0 where
  pub size : n.size ≡ m.size
  pub era : m.era ≤ n.era
  pub others : Fewer m n (slot_of c)
  pub named : SameOrNothing (wanted c (m.held (slot_of c))) (n.held (slot_of c))
  pub still : n.era ≡ m.era → (n.up ≡ m.up) × Others m n (slot_of c)
  pub done : n.era ≡ m.era → m.up ≡ true → n.held (slot_of c) ≡ wanted c (m.held (slot_of c))
  pub down : m.up ≡ false → n ≡ m

-- a half that a get does not ask
pub unasked : (m n : Meaning) (s l : ℕ) → n ≡ m → Leaves m n (to_get s l)
unasked m n s l e = subst (λ (x : Meaning). Leaves m x (to_get s l)) (sym e) (record {
  size = refl;
  era = omega arith;
  others = λ k _. inl refl;
  named = inl refl;
  still = λ _. (refl, λ k _. refl);
  done = λ _ _. refl;
  down = λ _. refl;
})

module _ (m n : Meaning) (c : Call) (a : Answer c) (sound : Sound m) (fine : Fine m c) (step : Step m c a n) where
  pub asked : Leaves m n c
  asked = ⊎_elim up (λ d. dead d (step.down fine d).1) (cases_Bool m.up)
    where
      dead : m.up ≡ false → n ≡ m → Leaves m n c
      dead d e = record {
        size = step.size;
        era = step.era;
        others = λ k _. inl (ap (λ (x : Meaning). x.held k) e);
        named = raised_wanted c _ a _ (named_raised c sound fine step);
        still = λ _. (ap (λ (x : Meaning). x.up) e, λ k _. ap (λ (x : Meaning). x.held k) e);
        done = λ _ u. absurd (both_ways m.up d u);
        down = λ _. e;
      }

      up : m.up ≡ true → Leaves m n c
      up u = record {
        size = step.size;
        era = step.era;
        others = ⊎_elim (λ e k ne. inl ((step.kept fine u e).1 k ne)) (λ l. (step.raised fine u l).0) (same_or_more m.era n.era step.era);
        named = raised_wanted c _ a _ (named_raised c sound fine step);
        still = λ e. let r = step.kept fine u e in (r.0 ∙ sym u, r.1);
        done = λ e _. kept_wanted c _ a _ (step.kept fine u e).2;
        down = λ d. (step.down fine d).1;
      }
