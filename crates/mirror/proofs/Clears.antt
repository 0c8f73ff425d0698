-- A server whose slots were all freed holds nothing.
use Rattle.std.proofs.Common.{◌≡◌, ℕ, zero, suc, ◌<◌, ◌≤◌, refl, ap, ap₂, ◌∙◌, ⊎_elim, arith}
use Rattle.std.proofs.lemmas.Bool.{cases_eq, cases_lt}
use Rattle.server.specs.Meaning.{Meaning, nothing, Empty}
use Rattle.server.specs.Calls.{to_free}
use Rattle.server.specs.Steps.{Fine, Lawful}
use Rattle.mirror.specs.Rule.{Rule}
use Rattle.mirror.specs.Sweep.{Swept}
use Rattle.mirror.specs.Joined.{first_of, Paired}
use Rattle.mirror.specs.Leaving.{emptied, asked, not_held}

module _ {S : Type 0} {meaning : S → Meaning} {r : Rule S} (laws : Lawful meaning r) (s : S) where
  record Cleared (n : ℕ) (t : S) : Type 0 where
    size : (meaning t).size ≡ (meaning s).size
    freed : (k : ℕ) → k < n → (meaning t).held k ≡ nothing

  clears : (n : ℕ) → n ≤ (meaning s).size → (t : S) → Swept r s n t → Cleared n t
  clears zero l t e = record { size = ap (λ (x : S). (meaning x).size) e; freed = λ k h. let z : ⊥ = omega arith in absurd z }
  clears (suc n) l t (u, a, sw, st) =
      let b = clears n (omega arith) u sw in
      let fine : Fine (meaning u) (to_free n) = (refl, omega (arith, b.size)) in
      let f = asked (meaning u) (meaning t) (to_free n) a (laws.sound u) fine (laws.meets u (to_free n) a t st) in
      record {
        size = f.size ∙ b.size;
        freed = λ k h.
            ⊎_elim
            (λ e. ap (meaning t).held e ∙ emptied ((meaning t).held n) f.named)
            (λ ne. ⊎_elim (λ z. z ∙ b.freed k (omega arith)) (λ z. z) (f.others k ne))
            (cases_eq k n);
      }

  pub swept_size : (n : ℕ) → n ≤ (meaning s).size → (t : S) → Swept r s n t → (meaning t).size ≡ (meaning s).size
  swept_size n l t sw = (clears n l t sw).size

  pub swept_empty : (n : ℕ) → n ≡ (meaning s).size → (t : S) → Swept r s n t → Empty (meaning t)
  swept_empty n e t sw k =
      let b = clears n (omega arith) t sw in
      ⊎_elim (b.freed k) (λ q. (laws.sound t).past k (omega (arith, b.size))) (cases_lt k n)

pub paired_empty : {m n : Meaning} → Empty m → Empty n → Paired m n
paired_empty {m} e f = record { agree = λ k p q x y. not_held (m.held k) p (e k) x; past = λ k _. ap₂ first_of (e k) (f k) }
