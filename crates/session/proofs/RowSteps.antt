-- A rule over a row of memory servers is a run of steps of what they mean, and a fall or a return of one is at most a loss or a return of its meaning.
use Rattle.std.proofs.Common.{◌≡◌, ◌≢◌, ℕ, suc, ◌-◌, ◌<◌, Bool, true, false, cond, List, [], ◌∷◌, length, Ok, Result, ◌==◌, refl, sym, ap, ◌∙◌, subst, arith, eqb-true, ne_eqb}
use Rattle.std.proofs.lemmas.Bool.{eqb-false}
use Rattle.page.specs.declared.faults.Fault.{Fault}
use Rattle.server.specs.Calls.{Call}
use Rattle.server.specs.Meaning.{Meaning, Sound}
use Rattle.server.specs.Pulls.{Backs}
use Rattle.bank.specs.Pulling.{Fell}
use Rattle.bank.specs.Rows.{Reaches, Rowed, StepBy}
use Rattle.memory.specs.Laws.{fall_meets}
use Rattle.memory.specs.Rule.{after, fallen, revived, says, says_back}
use Rattle.memory.specs.Store.{Store, meant}
use Rattle.law.specs.Rows.{Row as Means, RowStep}
use Rattle.parity_log.specs.Rule.{Rule, give, ask, note, Runs}
use Rattle.session.specs.Model.{Row, asked, brought_back, changed_at, exec, felled, meanings, said_at}
use Rattle.session.proofs.Stores.{Good, back_meets, good_after, good_fallen, good_revived, store_sound, store_step}

abbrev pub AllGood : Row → Type 0
AllGood [] = Unit {0}
AllGood (x ∷ xs) = Good x × AllGood xs

good_changed : (change : Store → Store) → ((x : Store) → Good x → Good (change x)) → (row : Row) (i : ℕ) → AllGood row → AllGood (changed_at change row i)
good_changed change each [] i h = tt
good_changed change each (x ∷ xs) i h = by_test (i == 0) (good_changed change each xs (i - 1) h.1)
  where
    by_test : (b : Bool) → AllGood (changed_at change xs (i - 1)) → AllGood (cond b (change x ∷ xs) (x ∷ changed_at change xs (i - 1)))
    by_test true rest = (each x h.0, h.1)
    by_test false rest = (h.0, rest)

sound_at : (row : Row) (i : ℕ) → AllGood row → i < length row → Sound (meanings row i)
sound_at [] i h lt = absurd (omega arith)
sound_at (x ∷ xs) i h lt = by_test (i == 0) refl (λ l. sound_at xs (i - 1) h.1 l)
  where
    by_test : (b : Bool) → (i == 0) ≡ b → (i - 1 < length xs → Sound (meanings xs (i - 1))) → Sound (cond b (meant x) (meanings xs (i - 1)))
    by_test true v rest = store_sound x h.0
    by_test false v rest = let n : i ≢ 0 = eqb-false i 0 v in rest (omega arith)

-- one server of a row is asked, by a rule of what it means
module _ {T : Type 0} (word : Store → Result T Fault) (change : Store → Store) (rule : Meaning → Result T Fault → Meaning → Type 0) (each : (x : Store) → Good x → rule (meant x) (word x) (meant (change x))) where
  abbrev Reached : Row → ℕ → Result T Fault → Row → Type 0
  Reached row i a left = Reaches rule (length row) (meanings row) i a (length left) (meanings left)

  pub row_reaches : (row : Row) (i : ℕ) → AllGood row → Reached row i (said_at word row i) (changed_at change row i)
  row_reaches [] i h = record { here = λ lt. absurd (omega arith); past = λ le. (refl, λ j. refl); others = λ j other. refl; keeps = refl }
  row_reaches (x ∷ xs) i h = by_test (i == 0) refl (row_reaches xs (i - 1) h.1)
    where
      by_test : (b : Bool) → (i == 0) ≡ b → Reached xs (i - 1) (said_at word xs (i - 1)) (changed_at change xs (i - 1))
          → Reached (x ∷ xs) i (cond b (word x) (said_at word xs (i - 1))) (cond b (change x ∷ xs) (x ∷ changed_at change xs (i - 1)))
      by_test true v rest =
          let zero : i ≡ 0 = eqb-true i 0 v in
          record {
            here = λ lt. rw v (each x h.0);
            past = λ le. absurd (omega arith);
            others = λ j other. let n : j ≢ 0 = λ z. other (z ∙ sym zero) in rw (ne_eqb j 0 n) refl;
            keeps = refl;
          }
      by_test false v rest =
          let n : i ≢ 0 = eqb-false i 0 v in
          record {
            here = λ lt. rw v (rest.here (omega arith));
            past = λ le. let r = rest.past (omega arith) in (r.0, λ j. ap (cond (j == 0) (meant x)) (r.1 (j - 1)));
            others = λ j other. beside j other (j == 0) refl;
            keeps = ap suc rest.keeps;
          }
        where
          beside : (j : ℕ) → (j ≢ i) → (b : Bool) → (j == 0) ≡ b → cond b (meant x) (meanings (changed_at change xs (i - 1)) (j - 1)) ≡ cond b (meant x) (meanings xs (j - 1))
          beside j other true w = refl
          beside j other false w = let m : j ≢ 0 = eqb-false j 0 w in let n : i ≢ 0 = eqb-false i 0 v in rest.others (j - 1) (λ e. other (omega arith))

ask_steps : (c : Call) (row : Row) (s : ℕ) → AllGood row → RowStep (length row) (meanings row) s c (asked row s c).0 (meanings (asked row s c).1)
ask_steps c row s h =
    let r = row_reaches (λ x. says x c) (λ x. after x c) (λ m a n. StepBy c m a n) (λ x g. store_step x c g) row s h in
    let good = good_changed (λ x. after x c) (λ x g. good_after x c g) row s h in
    record { one = r.here; sound = λ lt was. sound_at (asked row s c).1 s good (omega (arith, lt, r.keeps)); others = r.others }

-- a rule runs by steps of what the servers mean, and leaves as many, in good order
pub exec_runs : {N A : Type 0} (n : ℕ) (rule : Rule N A) (row : Row) → length row ≡ n → AllGood row
    → (ns : List (N × Means)) × Runs (RowStep n) rule (meanings row) ns (exec rule row).0 (meanings (exec rule row).1) × AllGood (exec rule row).1 × (length (exec rule row).1 ≡ n)
exec_runs n (give a) row long h = ([], (refl, refl, refl), h, long)
exec_runs {A = A} n (ask s c k) row long h =
    let next = asked row s c in
    let P : ℕ → Type 0 = λ m. RowStep m (meanings row) s c next.0 (meanings next.1) in
    let r = row_reaches (λ x. says x c) (λ x. after x c) (λ m a e. StepBy c m a e) (λ x g. store_step x c g) row s h in
    let rest = exec_runs n (k next.0) next.1 (r.keeps ∙ long) (good_changed (λ x. after x c) (λ x g. good_after x c g) row s h) in
    (rest.0, (next.0, meanings next.1, subst P long (ask_steps c row s h), rest.1), rest.2, rest.3)
exec_runs n (note x rule) row long h =
    let rest = exec_runs n rule row long h in
    ((x, meanings row) ∷ rest.0, (rest.0, refl, rest.1), rest.2, rest.3)

pub felled_reaches : (row : Row) (i : ℕ) → AllGood row → Reaches Fell (length row) (meanings row) i (felled row i).0 (length (felled row i).1) (meanings (felled row i).1)
felled_reaches row i h = row_reaches (λ _. Ok tt) fallen Fell (λ x g. (refl, fall_meets x)) row i h

pub felled_good : (row : Row) (i : ℕ) → AllGood row → AllGood (felled row i).1
felled_good row i h = good_changed fallen good_fallen row i h

pub brought_back_good : (row : Row) (i : ℕ) → AllGood row → AllGood (brought_back row i).1
brought_back_good row i h = good_changed revived good_revived row i h

pub brought_back_reaches : (row : Row) (i : ℕ) → AllGood row → Reaches Backs (length row) (meanings row) i (brought_back row i).0 (length (brought_back row i).1) (meanings (brought_back row i).1)
brought_back_reaches row i h = row_reaches says_back revived Backs back_meets row i h

-- rows in good order as a bank of which nothing is asked
abbrev pub GoodRow : Type 0
GoodRow = (row : Row) × AllGood row

pub row_laws : Rowed {S = GoodRow} (λ b. length b.0) (λ b. meanings b.0) (λ b i c a e. ⊥)
row_laws = record {
  sound = λ b i lt. sound_at b.0 i b.1 lt;
  meets = λ b i c a t no lt. absurd no;
  others = λ b i c a t no. absurd no;
  past = λ b i c a t no. absurd no;
  keeps = λ b i c a t no. absurd no;
}
