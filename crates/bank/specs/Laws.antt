-- A pair and the end of a row owe what every row owes.
use Rattle.std.specs.Prelude.{◌≡◌, ℕ, ◌+◌, ◌-◌, ◌<◌, ◌≤◌, Bool, true, false, ◌≢◌, Err, Result, ◌==◌, refl}
use Rattle.std.proofs.Common.{sym, ap, subst, ◌∙◌, arith, eqb-true, eq-eqb, ne_eqb}
use Rattle.std.proofs.lemmas.Bool.{eqb-false}
use Rattle.page.specs.declared.faults.Fault.{Fault}
use Rattle.server.specs.Meaning.{Meaning, Sound}
use Rattle.server.specs.Calls.{Call, Answer}
use Rattle.server.specs.Steps.{Lawful}
use Rattle.bank.specs.Rows.{RowRule, absent, nowhere, means_at, StepBy, Reaches, Rowed, Pairs}

-- a number is the first server's or one of the rest
by_first : {P : Type 0} (i : ℕ) → (i ≡ 0 → P) → (0 < i → P) → P
by_first {P} i first rest = go (i == 0) refl
  where
    go : (v : Bool) → (i == 0) ≡ v → P
    go true e = first (eqb-true i 0 e)
    go false e = let n : i ≢ 0 = eqb-false i 0 e in rest (omega arith)

at_first : (m : Meaning) (f : ℕ → Meaning) (i : ℕ) → i ≡ 0 → means_at m f i ≡ m
at_first m f i e = simp (eq-eqb i 0 e)

at_rest : (m : Meaning) (f : ℕ → Meaning) (i : ℕ) → 0 < i → means_at m f i ≡ f (i - 1)
at_rest m f i h = let n : i ≢ 0 = omega arith in simp (ne_eqb i 0 n)

-- what is asked of one server of a pair, whatever its rule
module _ {T : Type 0} (rule : Meaning → Result T Fault → Meaning → Type 0) (m m' : Meaning) (f f' : ℕ → Meaning) (n n' : ℕ) (i : ℕ) (a : Result T Fault) where
  as_before : (j : ℕ) → (j ≡ 0 → m' ≡ m) → (0 < j → f' (j - 1) ≡ f (j - 1)) → means_at m' f' j ≡ means_at m f j
  as_before j first rest =
      by_first j (λ e. at_first m' f' j e ∙ first e ∙ sym (at_first m f j e)) (λ h. at_rest m' f' j h ∙ rest h ∙ sym (at_rest m f j h))

  first_reached : i ≡ 0 → rule m a m' → f' ≡ f → n' ≡ n → Reaches rule (n + 1) (means_at m f) i a (n' + 1) (means_at m' f')
  first_reached e moved same many =
      record {
        here = λ _. rw (at_first m f i e, at_first m' f' i e) moved;
        past = λ h. absurd (omega arith);
        others = λ j ne. as_before j (λ z. absurd (ne (z ∙ sym e))) (λ _. ap (λ g. g (j - 1)) same);
        keeps = ap (λ k. k + 1) many;
      }

  rest_reached : 0 < i → m' ≡ m → Reaches rule n f (i - 1) a n' f' → Reaches rule (n + 1) (means_at m f) i a (n' + 1) (means_at m' f')
  rest_reached h same moved =
      record {
        here = λ l. rw (at_rest m f i h, at_rest m' f' i h) (moved.here (omega arith));
        past = λ l. let q = moved.past (omega arith) in (q.0, λ j. as_before j (λ _. same) (λ _. q.1 (j - 1)));
        others = λ j ne. as_before j (λ _. same) (λ k. moved.others (j - 1) (λ q. ne (omega arith)));
        keeps = ap (λ k. k + 1) moved.keeps;
      }

-- a row's step, as what it reaches
pub row_reached : {S : Type 0} {count : S → ℕ} {means : S → ℕ → Meaning} {steps : RowRule S} → Rowed count means steps → (s : S) (i : ℕ) (c : Call) (a : Answer c) (t : S) → steps s i c a t → Reaches (StepBy c) (count s) (means s) i a (count t) (means t)
row_reached {means = means} laws s i c a t r =
    record {
      here = laws.meets s i c a t r;
      past = λ h. let q = laws.past s i c a t r h in (q.0, λ j. ap (λ u. means u j) q.1);
      others = laws.others s i c a t r;
      keeps = laws.keeps s i c a t r;
    }

-- a pair: a server and the rest of the row, which make the whole
module _ {S X Y : Type 0} (server : S → X) (rest : S → Y) (whole : (s t : S) → server t ≡ server s → rest t ≡ rest s → t ≡ s) {meaning : X → Meaning} {steps : X → (c : Call) → Answer c → X → Type 0} {count : Y → ℕ} {means : Y → ℕ → Meaning} {restSteps : RowRule Y} (laws : Lawful meaning steps) (restLaws : Rowed count means restSteps) where
  abbrev PairMeans : S → ℕ → Meaning
  PairMeans s = means_at (meaning (server s)) (means (rest s))

  abbrev PairSteps : RowRule S
  PairSteps s i c a t = Pairs (λ x y. steps x c a y) (λ x j y. restSteps x j c a y) (server s) (rest s) i (server t) (rest t)

  pair_reached : (s : S) (i : ℕ) (c : Call) (a : Answer c) (t : S) → PairSteps s i c a t → Reaches (StepBy c) (count (rest s) + 1) (PairMeans s) i a (count (rest t) + 1) (PairMeans t)
  pair_reached s i c a t r =
      by_first i
      (λ e. first_reached (StepBy c) _ _ _ _ _ _ i a e (laws.meets (server s) c a (server t) (r.here e).0) (ap means (r.here e).1) (ap count (r.here e).1))
      (λ h. rest_reached (StepBy c) _ _ _ _ _ _ i a h (ap meaning (r.there h).1) (row_reached restLaws (rest s) (i - 1) c a (rest t) (r.there h).0))

  pair_sound : (s : S) (i : ℕ) → i < count (rest s) + 1 → Sound (PairMeans s i)
  pair_sound s i l =
      by_first i
      (λ e. subst Sound (sym (at_first (meaning (server s)) (means (rest s)) i e)) (laws.sound (server s)))
      (λ h. subst Sound (sym (at_rest (meaning (server s)) (means (rest s)) i h)) (restLaws.sound (rest s) (i - 1) (omega arith)))

  pair_past : (s : S) (i : ℕ) (c : Call) (a : Answer c) (t : S) → PairSteps s i c a t → count (rest s) + 1 ≤ i → (a ≡ Err absent) × (t ≡ s)
  pair_past s i c a t r l =
      let h : 0 < i = omega arith in
      let q = restLaws.past (rest s) (i - 1) c a (rest t) (r.there h).0 (omega arith) in
      (q.0, whole s t (r.there h).1 q.1)

  pub pair_laws : Rowed (λ s. count (rest s) + 1) PairMeans PairSteps
  pair_laws =
      record {
        sound = pair_sound;
        meets = λ s i c a t r. (pair_reached s i c a t r).here;
        others = λ s i c a t r. (pair_reached s i c a t r).others;
        past = pair_past;
        keeps = λ s i c a t r. (pair_reached s i c a t r).keeps;
      }

-- a row of none
pub end_laws : {S : Type 0} → Rowed {S = S} (λ s. 0) (λ s i. nowhere) (λ s i c a t. (a ≡ Err absent) × (t ≡ s))
end_laws =
    record {
      sound = λ s i l. absurd (omega arith);
      meets = λ s i c a t r l. absurd (omega arith);
      others = λ s i c a t r j ne. refl;
      past = λ s i c a t r l. r;
      keeps = λ s i c a t r. refl;
    }
