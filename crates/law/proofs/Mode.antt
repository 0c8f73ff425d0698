-- What the calls on a row of servers may do to its slots, whichever of the servers may lose.
use Rattle.std.proofs.Common.{◌≡◌, ℕ, ◌<◌, ◌⊎◌, List, length, Ok, Err, Result, ap, ◌∙◌, inl, inr}
use Rattle.std.specs.List.{range_with_len}
use Rattle.std.proofs.lemmas.Bool.{cases_eq}
use Rattle.page.specs.declared.faults.Fault.{Fault}
use Rattle.page.specs.Pages.{page_size, zeros, xor_page}
use Rattle.server.specs.Meaning.{Held, nothing, holds, Meaning, SameOrNothing}
use Rattle.server.specs.Calls.{Call, to_put, to_get, to_free, Answer}
use Rattle.law.specs.Rows.{Row}
use Rattle.law.proofs.ListLaws.{over}

-- a slot as it was, or empty where L allows it
abbrev pub Still : Type 0 → Held → Held → Type 0
Still L before after = (after ≡ before) ⊎ (L × (after ≡ nothing))

pub none_still : (L : Type 0) (x y : Held) → Still L x y → x ≡ nothing → y ≡ nothing
none_still L x y (inl e) h = e ∙ h
none_still L x y (inr e) h = e.1

pub still_then : (Y L : Type 0) (x y z : Held) → (L → Y) → Still Y x y → Still L y z → Still Y x z
still_then Y L x y z f p (inl e) = rw e p
still_then Y L x y z f p (inr e) = inr (f e.0, e.1)

pub loosely : (L : Type 0) (x y : Held) → L → SameOrNothing x y → Still L x y
loosely L x y l (inl e) = inl e
loosely L x y l (inr e) = inr (l, e)

-- every slot of the row as it was, or empty on a server that may lose
abbrev pub Shrunk : (ℕ → Type 0) → Row → Row → Type 0
Shrunk lose b e = (k s : ℕ) → Still (lose k) ((b k).held s) ((e k).held s)

pub shrunk_then : (lose : ℕ → Type 0) (b m e : Row) → Shrunk lose b m → Shrunk lose m e → Shrunk lose b e
shrunk_then lose b m e p q k s = still_then (lose k) (lose k) _ _ _ (λ x. x) (p k s) (q k s)

-- what an answer to a get says that the slot holds
abbrev pub held_of : Result (List ℕ) Fault → Held
held_of (Ok p) = holds p
held_of (Err f) = nothing

-- the first n servers are in good order
abbrev pub Fit : ℕ → (ℕ → Meaning → Type 0) → Row → Type 0
Fit n good b = (k : ℕ) → k < n → good k (b k)

-- every server but one as it was
abbrev pub Beside : Row → Row → ℕ → Type 0
Beside b e k = (j : ℕ) → (j ≡ k → ⊥) → e j ≡ b j

pub beside_still : (L : Type 0) (b e : Row) (k : ℕ) → Beside b e k → (j : ℕ) → (j ≡ k → ⊥) → (s : ℕ) → Still L ((b j).held s) ((e j).held s)
beside_still L b e k h j ne s = inl (ap (λ m. m.held s) (h j ne))

-- every slot but one as it was, or empty on a server that may lose
abbrev pub Elsewhere : (ℕ → Type 0) → Row → Row → ℕ → Type 0
Elsewhere lose b e g = (h : ℕ) → (g ≡ h → ⊥) → (k : ℕ) → Still (lose k) ((b k).held h) ((e k).held h)

module _ (n : ℕ) (lose : ℕ → Type 0) (good : ℕ → Meaning → Type 0) (b e : Row) where
  -- the answer is what the slot holds afterwards
  pub record Gets (k g : ℕ) (a : Result (List ℕ) Fault) : Type 0 where
    pub fit : Fit n good e
    pub others : Beside b e k
    pub shrunk : Shrunk lose b e
    pub is : held_of a ≡ (e k).held g

  pub record Puts (k g : ℕ) (p : List ℕ) (a : Result (Unit {0}) Fault) : Type 0 where
    pub fit : Fit n good e
    pub others : Beside b e k
    pub elsewhere : Elsewhere lose b e g
    pub here : Still (lose k) (holds p) ((e k).held g)
    pub done : a ≡ Ok tt → (e k).held g ≡ holds p
    pub refused : (f : Fault) → a ≡ Err f → (e k).held g ≡ nothing

  pub record Frees (k g : ℕ) : Type 0 where
    pub fit : Fit n good e
    pub others : Beside b e k
    pub elsewhere : Elsewhere lose b e g
    pub here : (e k).held g ≡ nothing

  -- what was empty stays so
  pub frees_empty : (k g : ℕ) → Frees k g → (j h : ℕ) → (b j).held h ≡ nothing → (e j).held h ≡ nothing
  frees_empty k g f j h z = elim (cases_eq g h) [
    | inl y ↦ elim (cases_eq j k) [ inl w ↦ rw (w, ← y) f.here | inr ne ↦ none_still ⊥ _ _ (beside_still ⊥ b e k f.others j ne h) z ]
    | inr ne ↦ none_still (lose j) _ _ (f.elsewhere h ne j) z
  ]

-- Calls on the first so many servers and slots, of which it is known which servers may lose in one;
-- which members, of group and server, may be missing; and what follows if two of a group may.
pub record Mode : Type 1 where
  pub servers : ℕ
  pub groups : ℕ
  pub lose : ℕ → Type 0
  pub good : ℕ → Meaning → Type 0
  pub steps : Row → ℕ → (c : Call) → Answer c → Row → Type 0
  pub gets : (b e : Row) (k g : ℕ) (a : Result (List ℕ) Fault) → k < servers → g < groups → Fit servers good b → steps b k (to_get g page_size) a e → Gets servers lose good b e k g a
  pub puts : (b e : Row) (k g : ℕ) (p : List ℕ) (a : Result (Unit {0}) Fault) → k < servers → g < groups → length p ≡ page_size → Fit servers good b → steps b k (to_put g p) a e → Puts servers lose good b e k g p a
  pub frees : (b e : Row) (k g : ℕ) (a : Result (Unit {0}) Fault) → k < servers → g < groups → Fit servers good b → steps b k (to_free g) a e → Frees servers lose good b e k g
  pub may : ℕ → ℕ → Type 0
  pub may_lose : (g k : ℕ) → lose k → may g k
  pub finds : Type 0
  pub two_finds : (g i k : ℕ) → may g i → may g k → (k ≡ i → ⊥) → finds

abbrev pub Whole : List ℕ → Type 0
Whole p = length p ≡ page_size

-- the exclusive or of the pages that c gives at the numbers of a list
abbrev pub xor_over : (ℕ → List ℕ) → List ℕ → List ℕ
xor_over c ks = over xor_page zeros c ks

-- the slots h of a group's n members hold what they ought to, c, or nothing where they may, and with the page p that the pager keeps the members add up to nothing
pub record GroupOk (Y : ℕ → Type 0) (n : ℕ) (p : List ℕ) (c : ℕ → List ℕ) (h : ℕ → Held) : Type 0 where
  pub kept_whole : Whole p
  pub whole : (k : ℕ) → Whole (c k)
  pub balanced : xor_page p (xor_over c (range_with_len 0 n)) ≡ zeros
  pub true_held : (k : ℕ) → k < n → Still (Y k) (holds (c k)) (h k)
