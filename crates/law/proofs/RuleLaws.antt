-- Runs of rules taken apart.
use Rattle.std.proofs.Common.{◌≡◌, ℕ, List, [], ◌∷◌, ◌++◌, refl, ap, ◌∙◌}
use Rattle.server.specs.Calls.{Call, Answer}
use Rattle.parity_log.specs.Rule.{Rule, give, ask, note, ◌>>=◌, Runs}

module _ {B : Type 0} (steps : B → ℕ → (c : Call) → Answer c → B → Type 0) where
  -- a run of a rule and then another
  record Split {N A C : Type 0} (r : Rule N A) (f : A → Rule N C) (b : B) (ns : List (N × B)) (x : C) (e : B) : Type 0 where
    mid : A
    row : B
    ns₁ : List (N × B)
    ns₂ : List (N × B)
    first : Runs steps r b ns₁ mid row
    second : Runs steps (f mid) row ns₂ x e
    notes : ns ≡ ns₁ ++ ns₂

  split : {N A C : Type 0} (r : Rule N A) (f : A → Rule N C) (b : B) (ns : List (N × B)) (x : C) (e : B) → Runs steps (r >>= f) b ns x e → Split r f b ns x e
  split (give a) f b ns x e h = record { mid = a; row = b; ns₁ = []; ns₂ = ns; first = (refl, refl, refl); second = h; notes = refl }
  split (ask s c k) f b ns x e h =
      let p = split (k h.0) f h.1 ns x e h.3 in
      record { mid = p.mid; row = p.row; ns₁ = p.ns₁; ns₂ = p.ns₂; first = (h.0, h.1, h.2, p.first); second = p.second; notes = p.notes }
  split (note n r) f b ns x e h =
      let p = split r f b h.0 x e h.2 in
      record { mid = p.mid; row = p.row; ns₁ = (n, b) ∷ p.ns₁; ns₂ = p.ns₂; first = (p.ns₁, refl, p.first); second = p.second; notes = h.1 ∙ ap (λ l. (n, b) ∷ l) p.notes }

  -- the same, where the parts are variables, by which a goal can be rewritten
  pub through : {N A C G : Type 0} (r : Rule N A) (f : A → Rule N C) (b : B) (ns : List (N × B)) (x : C) (e : B) → Runs steps (r >>= f) b ns x e
      → ((a : A) (m : B) (ns₁ ns₂ : List (N × B)) → Runs steps r b ns₁ a m → Runs steps (f a) m ns₂ x e → ns ≡ ns₁ ++ ns₂ → G) → G
  through r f b ns x e h g = let p = split r f b ns x e h in g p.mid p.row p.ns₁ p.ns₂ p.first p.second p.notes
