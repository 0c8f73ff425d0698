-- A fickle server's rule is one of a page server, whatever is below.
use Rattle.std.specs.Prelude.{◌≡◌, ℕ, ◌/◌, ◌%◌, ◌<◌, Bool, true, false, cond, ◌⊎◌, Some, None, Ok, Err, Option, ◌==◌, nat_lt, refl}
use Rattle.std.proofs.Common.{ap, ap₂, subst, inl, inr, ⊎_elim, mod-lt, arith, eqb-true, ltb-true, ltb-false}
use Rattle.std.proofs.lemmas.Bool.{cases_Bool, eqb-false}
use Rattle.server.specs.Meaning.{Meaning}
use Rattle.server.specs.Calls.{Call, to_get, to_free, slot_of, length_of, Answer}
use Rattle.server.specs.Steps.{Fine, Step, Lawful}
use Rattle.server.specs.Ways.{clash}
use Rattle.fickle.specs.declared.Fickle.{Fickle}
use Rattle.fickle.specs.declared.mishaps.Mishap.{Mishap}
use Rattle.fickle.specs.declared.mishaps.Mishap.TheVariants.{Page, Fall}
use Rattle.fickle.specs.declared.mishaps.Odds.{Odds}
use Rattle.fickle.specs.declared.mishaps.Strike.{Strike}
use Rattle.fickle.specs.Drawing.{next, drawn, victim, mishap_by, strike_at, drawn_strike}
use Rattle.fickle.specs.Rule.{Rule, with_losses, Unharmed, Loses, Misses, Hits, Comes, Stepped}
use Rattle.fickle.specs.Leaving.{Emptier, emptier_still, get_empties, free_empties, fall_empties}
use Rattle.fickle.specs.Thinning.{Thinned, thinned_step, losses_step, losses_sound, delivered_up, get_thins, lost_thins, unharmed_thins}

victim_within : (draw slot size : ℕ) → slot < size → victim draw slot size < size
victim_within draw slot size i = named (draw % 4 == 0)
  where
    named : (b : Bool) → cond b slot (draw / 4 % size) < size
    named true = i
    named false = mod-lt (draw / 4) (omega arith)

strike_slot : (v : ℕ) (m : Option Mishap) (k : Strike) → strike_at v m ≡ Some k → k.slot ≡ v
strike_slot v None k e = clash (cc)
strike_slot v (Some m) k e = cc

strike_within : (odds : Odds) (seed slot size : ℕ) (k : Strike) → slot < size → drawn_strike odds seed slot size ≡ Some k → k.slot < size
strike_within odds seed slot size k i e = rw (strike_slot _ (mishap_by odds (drawn seed 1024)) k e) (victim_within (drawn (next seed) 65536) slot size i)

fine_or_refused : (m : Meaning) (c : Call) → Fine m c ⊎ (Fine m c → ⊥)
fine_or_refused m c =
    ⊎_elim
    (λ e. ⊎_elim (λ f. inl (eqb-true (length_of c) 512 e, ltb-true (slot_of c) m.size f)) (λ f. inr (λ g. let q = ltb-false (slot_of c) m.size f in omega (arith, g.1))) (cases_Bool (nat_lt (slot_of c) m.size)))
    (λ e. inr (λ g. eqb-false (length_of c) 512 e g.0))
    (cases_Bool (length_of c == 512))

module _ {X : Type 0} {mx : X → Meaning} {rx : Rule X} (fx : X → X → Type 0) (laws : Lawful mx rx) where
  abbrev meant : Fickle X → Meaning
  meant s = with_losses s.losses (mx s.below)

  abbrev Thins : Fickle X → Fickle X → Type 0
  Thins s t = Thinned (meant s) (meant t)

  loses_empties : (m : Mishap) (x : X) (v : ℕ) (y : X) → v < (mx x).size → Loses mx rx fx m x v y → Emptier (mx x) (mx y)
  loses_empties Page x v y i (a, r) = free_empties v (laws.sound x) (refl, i) (laws.meets x (to_free v) a y r)
  loses_empties Fall x v y i (_, f) = fall_empties f

  unharmed_thin : (s t : Fickle X) → Unharmed s t → Thins s t
  unharmed_thin s t (e, f) = unharmed_thins (ap₂ with_losses f (ap mx e))

  misses_thin : (k : Strike) (s t : Fickle X) → k.slot < (mx s.below).size → Misses mx rx fx k s t → Thins s t
  misses_thin k s t i (f, r, e) =
      rw e (get_thins k.slot 512 (losses_sound s.losses (laws.sound s.below)) (refl, i) (losses_step s.losses (to_get k.slot 512) (laws.meets s.below (to_get k.slot 512) (Err f) t.below r)))

  hits_thin : (k : Strike) (s t : Fickle X) → k.slot < (mx s.below).size → Hits mx rx fx k s t → Thins s t
  hits_thin k s t i (p, u, r, l, e) =
      let step = laws.meets s.below (to_get k.slot 512) (Ok p) u r in
      let g = get_empties k.slot 512 (laws.sound s.below) (refl, i) step in
      let f = loses_empties k.mishap u k.slot t.below (omega (arith, i, g.size)) l in
      rw e (lost_thins s.losses (delivered_up k.slot 512 p (refl, i) step) (emptier_still g f))

  comes_thin : (strike : Option Strike) (s t : Fickle X) → ((k : Strike) → strike ≡ Some k → k.slot < (mx s.below).size) → Comes mx rx fx strike s t → Thins s t
  comes_thin None s t i b = unharmed_thin s t b
  comes_thin (Some k) s t i (inl (_, b)) = unharmed_thin s t b
  comes_thin (Some k) s t i (inr (_, inl b)) = misses_thin k s t (i k refl) b
  comes_thin (Some k) s t i (inr (_, inr b)) = hits_thin k s t (i k refl) b

  stepped : (s : Fickle X) (c : Call) (a : Answer c) (t : Fickle X) → Stepped mx rx fx s c a t → Step (meant s) c a (meant t)
  stepped s c a t (u, b, r, e, _) = ⊎_elim fine refused (fine_or_refused (mx s.below) c)
    where
      passed : (x : X) → rx x c a t.below → Step (with_losses u.losses (mx x)) c a (with_losses u.losses (mx t.below))
      passed x q = losses_step u.losses c (laws.meets x c a t.below q)

      refused : (Fine (mx s.below) c → ⊥) → Step (meant s) c a (meant t)
      refused n = let h = (b.refused n).0 in rw (e, ← h.1) (passed s.below (subst (λ (x : X). rx x c a t.below) h.0 r))

      fine : Fine (mx s.below) c → Step (meant s) c a (meant t)
      fine g =
          let h = comes_thin _ s u (λ k. strike_within s.odds s.draws.seed (slot_of c) (mx s.below).size k g.1) (b.fine g.0 g.1) in
          rw e (thinned_step c h (losses_sound u.losses (laws.sound u.below)) g (passed u.below r))

  pub fickle_laws : Lawful meant (Stepped mx rx fx)
  fickle_laws = record { sound = λ s. losses_sound s.losses (laws.sound s.below); meets = stepped }
