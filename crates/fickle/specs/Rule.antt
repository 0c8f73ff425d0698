-- The rule of a fickle server: by the draws, a mishap comes over the server below before a call, and is counted.
use Rattle.std.specs.Prelude.{◌≡◌, ℕ, ◌+◌, ◌<◌, ◌⊎◌, List, Some, None, Ok, Err, Option, Result}
use Rattle.page.specs.declared.faults.Fault.{Fault}
use Rattle.server.specs.Meaning.{Meaning}
use Rattle.server.specs.Calls.{Call, to_get, to_free, slot_of, length_of, Answer}
use Rattle.server.specs.Pulls.{Falls}
use Rattle.fickle.specs.declared.Fickle.{Fickle}
use Rattle.fickle.specs.declared.mishaps.Mishap.{Mishap}
use Rattle.fickle.specs.declared.mishaps.Mishap.TheVariants.{Page, Fall}
use Rattle.fickle.specs.declared.mishaps.Strike.{Strike}
use Rattle.fickle.specs.Drawing.{next, drawn_strike}

abbrev pub Rule : Type 0 → Type 1
Rule X = X → (c : Call) → Answer c → X → Type 0

-- what a put, a free or a pull answers
abbrev pub Reply : Type 0
Reply = Result (Unit {0}) Fault

-- the server below, with the losses counted in its era
abbrev pub with_losses : ℕ → Meaning → Meaning
with_losses losses m = record { size = m.size; up = m.up; era = m.era + losses; held = m.held }

-- at this count nothing more is lost
abbrev pub last_loss : ℕ
last_loss = 4294967295

-- nothing happens, and no loss is counted
abbrev pub Unharmed : {X : Type 0} → Fickle X → Fickle X → Type 0
Unharmed s t = (t.below ≡ s.below) × (t.losses ≡ s.losses)

-- no draw is made
abbrev pub Undrawn : {X : Type 0} → Fickle X → Fickle X → Type 0
Undrawn s t = (t.draws ≡ s.draws) × (t.odds ≡ s.odds)

module _ {X : Type 0} (mx : X → Meaning) (rx : Rule X) (fx : X → X → Type 0) where
  -- one slot is freed below, or the server below falls
  abbrev pub Loses : Mishap → X → ℕ → X → Type 0
  Loses Page x v y = (a : Reply) × rx x (to_free v) a y
  Loses Fall x v y = fx x y × Falls (mx x) (mx y)

  -- no page is found at the slot
  abbrev pub Misses : Strike → Fickle X → Fickle X → Type 0
  Misses k s t = (f : Fault) × rx s.below (to_get k.slot 512) (Err f) t.below × (t.losses ≡ s.losses)

  -- a page is found there, and the loss is counted
  abbrev pub Hits : Strike → Fickle X → Fickle X → Type 0
  Hits k s t = (p : List ℕ) × (u : X) × rx s.below (to_get k.slot 512) (Ok p) u × Loses k.mishap u k.slot t.below × (t.losses ≡ s.losses + 1)

  abbrev pub Strikes : Strike → Fickle X → Fickle X → Type 0
  Strikes k s t = ((s.losses ≡ last_loss) × Unharmed s t) ⊎ ((s.losses < last_loss) × (Misses k s t ⊎ Hits k s t))

  abbrev pub Comes : Option Strike → Fickle X → Fickle X → Type 0
  Comes None s t = Unharmed s t
  Comes (Some k) s t = Strikes k s t

  -- a call that is refused for its length or its slot brings nothing and takes no draw, any other takes two
  pub record Befalls (s : Fickle X) (length slot : ℕ) (t : Fickle X) : Type 0 where
    pub refused : ((length ≡ 512) × (slot < (mx s.below).size) → ⊥) → Unharmed s t × Undrawn s t
    pub fine : length ≡ 512 → slot < (mx s.below).size → Comes (drawn_strike s.odds s.draws.seed slot (mx s.below).size) s t
    pub draws : length ≡ 512 → slot < (mx s.below).size → t.draws.seed ≡ next (next s.draws.seed)
    pub odds : t.odds ≡ s.odds

  -- then the server below answers the call
  abbrev pub Stepped : Fickle X → (c : Call) → Answer c → Fickle X → Type 0
  Stepped s c a t = (u : Fickle X) × Befalls s (length_of c) (slot_of c) u × rx u.below c a t.below × (t.losses ≡ u.losses) × Undrawn u t

-- a pull is passed on, and is no loss of its own
abbrev pub Fallen : {X : Type 0} → (X → X → Type 0) → Fickle X → Fickle X → Type 0
Fallen fx s t = fx s.below t.below × (t.losses ≡ s.losses) × Undrawn s t

abbrev pub BroughtBack : {X : Type 0} → (X → Reply → X → Type 0) → Fickle X → Reply → Fickle X → Type 0
BroughtBack bx s a t = bx s.below a t.below × (t.losses ≡ s.losses) × Undrawn s t
