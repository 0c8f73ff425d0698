-- One member from the others, and which are missing.
use Rattle.std.proofs.Common.{◌≡◌, ℕ, zero, suc, ◌+◌, ◌^◌, ◌<◌, eqb, List, [], ◌∷◌, sym, refl, ap, ◌∙◌, arith, pow_pos}
use lib.ListN.{length-replicate}
use Rattle.std.specs.List.{range_with_len, AllByRecursion as All}
use Rattle.std.proofs.lemmas.Bool.{cond_both}
use Rattle.page.specs.Pages.{page_size, zeros, xor_page}
use Rattle.page.proofs.PageLaws.{xor_commutes, xor_associates, xor_zeros, xor_twice, xor_length}
use Rattle.server.specs.Meaning.{Held, nothing, holds}
use Rattle.parity_log.specs.declared.records.Tables.{Tables}
use Rattle.parity_log.specs.Tables.{weight}
use Rattle.law.specs.Rows.{Row, slots}
use Rattle.law.specs.Missing.{lacking, missing_below}
use Rattle.law.proofs.ListLaws.{over, but, over_but, over_last}
use Rattle.law.proofs.Mode.{Whole, xor_over}

pub xor_swap : (x y z : List ℕ) → xor_page x (xor_page y z) ≡ xor_page y (xor_page x z)
xor_swap x y z = sym (xor_associates x y z) ∙ ap (λ v. xor_page v z) (xor_commutes x y) ∙ xor_associates y x z

pub xor_whole : (x y : List ℕ) → Whole x → Whole y → Whole (xor_page x y)
xor_whole x y h k = xor_length x y (h ∙ sym k) ∙ k

pub xor_none : (x : List ℕ) → Whole x → xor_page x zeros ≡ x
xor_none x h = xor_commutes x zeros ∙ xor_zeros page_size x h

pub over_whole : (c : ℕ → List ℕ) (ks : List ℕ) → ((k : ℕ) → Whole (c k)) → Whole (xor_over c ks)
over_whole c [] h = length-replicate {A = ℕ} page_size 0
over_whole c (k ∷ ks) h = xor_whole (c k) (xor_over c ks) (h k) (over_whole c ks h)

-- pages that add up to nothing are the same
xor_same : (x y : List ℕ) → Whole x → Whole y → xor_page x y ≡ zeros → y ≡ x
xor_same x y h k e = sym (xor_twice x y (h ∙ sym k)) ∙ ap (xor_page x) e ∙ xor_none x h

-- where a page and members add up to nothing, the page and all members but one add up to that one
pub solve : (p : List ℕ) (c : ℕ → List ℕ) (i n : ℕ) → Whole p → ((k : ℕ) → Whole (c k)) → i < n → xor_page p (xor_over c (range_with_len 0 n)) ≡ zeros → xor_page p (xor_over c (but i (range_with_len 0 n))) ≡ c i
solve p c i n h l lt z =
    let rest = xor_over c (but i (range_with_len 0 n)) in
    let out = over_but xor_page zeros xor_swap c i 0 n (omega arith) (omega arith) in
    xor_same (c i) (xor_page p rest) (l i) (xor_whole p rest h (over_whole c _ l)) (xor_swap (c i) p rest ∙ ap (xor_page p) (sym out) ∙ z)

-- the weights w of the servers of a list whose slot, of the slots h, holds nothing
abbrev pub weights : (ℕ → ℕ) → (ℕ → Held) → List ℕ → ℕ
weights w h ks = over ◌+◌ 0 (λ k. lacking (w k) (h k)) ks

lacking_none : (o : Held) (x : ℕ) → 0 < x → lacking x o ≡ 0 → o ≡ nothing → ⊥
lacking_none nothing x h z e = omega arith
lacking_none (holds p) x h z e = let y : ◌≡◌ {A = ℕ} 0 1 = cc in omega arith

module _ (w : ℕ → ℕ) (h : ℕ → Held) where
  pub none_missed : ((k : ℕ) → 0 < w k) → (ks : List ℕ) → weights w h ks ≡ 0 → All (λ k. h k ≡ nothing → ⊥) ks
  none_missed pos [] z = tt
  none_missed pos (k ∷ ks) z = (lacking_none (h k) (w k) (pos k) (omega arith), none_missed pos ks (omega arith))

  pub some_missed : (P : ℕ → Type 0) (ks : List ℕ) → All P ks → (weights w h ks ≡ 0 → ⊥) → (k : ℕ) × P k × (h k ≡ nothing)
  some_missed P [] l z = absurd (z refl)
  some_missed P (k ∷ ks) l z = go (h k) refl (some_missed P ks l.1)
    where
      go : (o : Held) → h k ≡ o → ((weights w h ks ≡ 0 → ⊥) → (k : ℕ) × P k × (h k ≡ nothing)) → (k : ℕ) × P k × (h k ≡ nothing)
      go nothing e rest = (k, l.0, e)
      go (holds p) e rest = rest (λ y. z (rw e (omega arith)))

  pub own_missed : (i n : ℕ) → i < n → h i ≡ nothing → w i + weights w h (but i (range_with_len 0 n)) ≡ weights w h (range_with_len 0 n)
  own_missed i n lt e = sym (over_but ◌+◌ 0 (λ x y z. omega arith) (λ k. lacking (w k) (h k)) i 0 n (omega arith) (omega arith) ∙ rw e refl)

pub weight_pos : (s k : ℕ) → 0 < weight s k
weight_pos s k = cond_both (eqb k s) 256 (2 ^ k) (λ x. 0 < x) (λ e. omega arith) (λ e. pow_pos k)

pub weights_below : (v : Tables) (b : Row) (g n : ℕ) → weights (weight v.shape.servers) (slots b g) (range_with_len 0 n) ≡ missing_below v b g n
weights_below v b g zero = refl
weights_below v b g (suc n) =
    let f : ℕ → ℕ = λ k. lacking (weight v.shape.servers k) ((b k).held g) in
    let e : 0 + n ≡ n = omega arith in
    over_last ◌+◌ 0 (λ x y z. omega arith) f 0 n ∙ rw e (omega (arith, weights_below v b g n))
