-- A mirror whose halves were asked answers by its rule, and stays paired.
use Rattle.std.proofs.Common.{◌≡◌, ℕ, ◌<◌, List, length, Ok, Err, Result, refl, ap, ◌∙◌, subst, arith}
use Rattle.std.specs.Result.{result_or}
use Rattle.page.specs.declared.faults.Fault.{Fault}
use Rattle.server.specs.Meaning.{Meaning}
use Rattle.server.specs.Calls.{Call, Answer, to_put, to_get, to_free, slot_of, length_of}
use Rattle.server.specs.Steps.{Lawful}
use Rattle.mirror.specs.Joined.{joined, Paired}
use Rattle.mirror.specs.Rule.{Rule, Reply, either_done_of, second_says, Asked, Steps}
use Rattle.mirror.specs.Laws.{asked_meets}

module _ {X Y : Type 0} {mx : X → Meaning} {rx : Rule X} {my : Y → Meaning} {ry : Rule Y} (lx : Lawful mx rx) (ly : Lawful my ry) {x x' : X} {y y' : Y} (o : Paired (mx x) (my y)) (s : ℕ) (i : s < (joined (mx x) (my y)).size) where
  pub put_paired : (p : List ℕ) (b d : Reply) → length p ≡ 512 → rx x (to_put s p) b x' → ry y (to_put s p) d y' → Paired (mx x') (my y')
  put_paired p b d l q r = (asked_meets lx ly x x' y y' o (to_put s p) _ (l, i) (b, d, q, r, refl)).0

  pub free_paired : (b d : Reply) → rx x (to_free s) b x' → ry y (to_free s) d y' → Paired (mx x') (my y')
  free_paired b d q r = (asked_meets lx ly x x' y y' o (to_free s) (Ok tt) (refl, i) (b, d, q, r, refl)).0

  -- the first half left the buffer, so the second is handed one of the same length
  pub get_paired : (before between : List ℕ) (f : Fault) (d : Result (List ℕ) Fault) → length before ≡ 512 → rx x (to_get s (length before)) (Err f) x' → between ≡ before → ry y (to_get s (length between)) d y' → Paired (mx x') (my y')
  get_paired before between f d l q e r = (asked_meets lx ly x x' y y' o (to_get s (length before)) (second_says s f d) (l, i) (Err f, q, (d, subst (λ (b : List ℕ). ry y (to_get s (length b)) d y') e r, refl))).0

-- a call that passes the door asks the halves
pub asks : {X Y : Type 0} {rx : Rule X} {ry : Rule Y} {size : ℕ} {x x' : X} {y y' : Y} {c : Call} {a : Answer c} → length_of c ≡ 512 → slot_of c < size → Asked rx ry x y c a x' y' → Steps rx ry size x y c a x' y'
asks l i k = record { long = λ bad. absurd (bad l); past = λ _ q. let z : ⊥ = omega (arith, i, q) in absurd z; fine = λ _ _. k }

-- a get that the first half refused asks the second
pub asks_second : {X Y : Type 0} {rx : Rule X} {ry : Rule Y} {size s : ℕ} {x x' : X} {y y' : Y} {before between : List ℕ} {a : Result (List ℕ) Fault} (f : Fault) (d : Result (List ℕ) Fault) → length before ≡ 512 → s < size → rx x (to_get s (length before)) (Err f) x' → between ≡ before → ry y (to_get s (length between)) d y' → a ≡ second_says s f d → Steps rx ry size x y (to_get s (length before)) a x' y'
asks_second {ry} {s} {y} {y'} f d l i q e r o = asks l i (Err f, q, (d, subst (λ (b : List ℕ). ry y (to_get s (length b)) d y') e r, o))

-- the one answer, else the other, else this fault
pub either_done : (f h : Fault) (a b o p : Reply) → o ≡ result_or a b → p ≡ result_or o (Err h) → h ≡ f → p ≡ either_done_of f a b
either_done f h (Ok x) b o p e k w = k ∙ ap (λ (z : Reply). result_or z (Err h)) e
either_done f h (Err g) (Ok x) o p e k w = k ∙ ap (λ (z : Reply). result_or z (Err h)) e
either_done f h (Err g) (Err g') o p e k w = k ∙ ap (λ (z : Reply). result_or z (Err h)) e ∙ ap Err w
