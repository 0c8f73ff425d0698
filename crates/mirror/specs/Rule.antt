-- The rule of a mirror, over those of its two halves.
use Rattle.std.specs.Prelude.{◌≡◌, ℕ, ◌<◌, ◌≤◌, cond, ◌||◌, List, Ok, Err, Result, ◌≢◌}
use Rattle.page.specs.declared.faults.Fault.{Fault}
use Rattle.page.specs.declared.faults.Layer.TheVariants.{Mirror as InMirror}
use Rattle.page.specs.declared.faults.Refusal.{Refusal}
use Rattle.page.specs.declared.faults.Refusal.TheVariants.{Range, Length, None, Gone}
use Rattle.page.specs.Refusals.{fault_of, on_slot, same_refusal}
use Rattle.server.specs.Calls.{Call, to_put, to_get, to_free, slot_of, length_of, Answer}

abbrev pub Rule : Type 0 → Type 1
Rule X = X → (c : Call) → Answer c → X → Type 0

-- what a put, a free or a pull answers
abbrev pub Reply : Type 0
Reply = Result (Unit {0}) Fault

abbrev pub refusal : Refusal → ℕ → Fault
refusal why s = on_slot s (fault_of InMirror why)

-- done if either half did it, else this fault
abbrev pub either_done_of : Fault → Reply → Reply → Reply
either_done_of f (Ok x) b = Ok tt
either_done_of f (Err g) (Ok x) = Ok tt
either_done_of f (Err g) (Err h) = Err f

-- none if either half said none, else gone
abbrev pub none_or_gone_of : Fault → Fault → Refusal
none_or_gone_of f g = cond (same_refusal f.refusal None || same_refusal g.refusal None) None Gone

-- a get that the first half refused, by what the second answers
abbrev pub second_says : ℕ → Fault → Result (List ℕ) Fault → Result (List ℕ) Fault
second_says s f (Ok p) = Ok p
second_says s f (Err g) = Err (refusal (none_or_gone_of f g) s)

-- the second half is asked for a page only where the first refused it
abbrev pub AskSecond : {Y : Type 0} → Rule Y → Y → ℕ → ℕ → Result (List ℕ) Fault → Result (List ℕ) Fault → Y → Type 0
AskSecond ry y s n (Ok p) a y' = (a ≡ Ok p) × (y' ≡ y)
AskSecond ry y s n (Err f) a y' = (d : Result (List ℕ) Fault) × ry y (to_get s n) d y' × (a ≡ second_says s f d)

-- a put and a free go to both halves
abbrev pub Asked : {X Y : Type 0} → Rule X → Rule Y → X → Y → (c : Call) → Answer c → X → Y → Type 0
Asked rx ry x y (to_put s p) a x' y' = (b : Reply) × (d : Reply) × rx x (to_put s p) b x' × ry y (to_put s p) d y' × (a ≡ either_done_of (refusal Gone s) b d)
Asked rx ry x y (to_get s n) a x' y' = (b : Result (List ℕ) Fault) × rx x (to_get s n) b x' × AskSecond ry y s n b a y'
Asked rx ry x y (to_free s) a x' y' = (b : Reply) × (d : Reply) × rx x (to_free s) b x' × ry y (to_free s) d y' × (a ≡ Ok tt)

-- a refusal before the halves are asked leaves both
abbrev pub Unasked : {X Y : Type 0} → Refusal → X → Y → (c : Call) → Answer c → X → Y → Type 0
Unasked why x y c a x' y' = (a ≡ Err (refusal why (slot_of c))) × (x' ≡ x) × (y' ≡ y)

-- length first, then range, then the halves
pub record Steps {X Y : Type 0} (rx : Rule X) (ry : Rule Y) (size : ℕ) (x : X) (y : Y) (c : Call) (a : Answer c) (x' : X) (y' : Y) : Type 0 where
  pub long : (length_of c ≢ 512) → Unasked Length x y c a x' y'
  pub past : length_of c ≡ 512 → size ≤ slot_of c → Unasked Range x y c a x' y'
  pub fine : length_of c ≡ 512 → slot_of c < size → Asked rx ry x y c a x' y'
