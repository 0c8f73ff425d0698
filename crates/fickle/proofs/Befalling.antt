-- What comes before a call by two draws: nothing, or a strike.
use Rattle.std.proofs.Common.{◌≡◌, ℕ, ◌<◌, Option, ap, ◌∙◌, subst, arith}
use Rattle.server.specs.Meaning.{Meaning}
use Rattle.fickle.specs.declared.Fickle.{Fickle}
use Rattle.fickle.specs.declared.mishaps.Strike.{Strike}
use Rattle.fickle.specs.Drawing.{next, drawn_strike}
use Rattle.fickle.specs.Rule.{Rule, Comes, Befalls}

module _ {X : Type 0} {mx : X → Meaning} {rx : Rule X} {fx : X → X → Type 0} (s : Fickle X) (length slot : ℕ) where
  -- by two draws, which bring a strike or none
  pub fine_befalls : (t : Fickle X) (strike : Option Strike) (size : ℕ) → length ≡ 512 → slot < size → size ≡ (mx s.below).size → strike ≡ drawn_strike s.odds s.draws.seed slot size → Comes mx rx fx strike s t → t.draws.seed ≡ next (next s.draws.seed) → t.odds ≡ s.odds → Befalls mx rx fx s length slot t
  fine_befalls t strike size l i z e b d o =
      let same = e ∙ ap (drawn_strike s.odds s.draws.seed slot) z in
      let within : slot < (mx s.below).size = omega (arith, z) in
      record { refused = λ n. absurd (n (l, within)); fine = λ _ _. subst (λ (k : Option Strike). Comes mx rx fx k s t) same b; draws = λ _ _. d; odds = o }
