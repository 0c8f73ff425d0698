-- Runs of rules put together: what is left of a rule, step by step.
use Rattle.std.proofs.Common.{◌≡◌, ℕ, List, [], ◌∷◌, ◌++◌, sym, refl, ap, subst}
use Rattle.server.specs.Calls.{Call, Answer}
use Rattle.parity_log.specs.Rule.{Rule, give, ask, note, ◌>>=◌, Runs, Ends}

module _ {B : Type 0} (steps : B → ℕ → (c : Call) → Answer c → B → Type 0) where
  runs_bind : {N A C : Type 0} (p : Rule N A) (f : A → Rule N C) (b m e : B) (ns ms : List (N × B)) (a : A) (r : C) → Runs steps p b ns a m → Runs steps (f a) m ms r e → Runs steps (p >>= f) b (ns ++ ms) r e
  runs_bind (give x) f b m e ns ms a r h k =
      subst (λ l. Runs steps (f x) b (l ++ ms) r e) (sym h.0) (subst (λ y. Runs steps (f y) b ms r e) h.1 (subst (λ y. Runs steps (f a) y ms r e) h.2 k))
  runs_bind (ask s c n) f b m e ns ms a r h k = (h.0, h.1, h.2, runs_bind (n h.0) f h.1 m e ns ms a r h.3 k)
  runs_bind (note x p) f b m e ns ms a r h k = (h.0 ++ ms, ap (λ l. l ++ ms) h.1, runs_bind p f b m e h.0 ms a r h.2 k)

  -- a rule and then another
  pub ends_bind : {N A C : Type 0} (p : Rule N A) (f : A → Rule N C) (b m e : B) (a : A) (r : C) → Ends steps p b a m → Ends steps (f a) m r e → Ends steps (p >>= f) b r e
  ends_bind p f b m e a r h k = (h.0 ++ k.0, runs_bind p f b m e h.0 k.0 a r h.1 k.1)

  pub ends_give : {N A : Type 0} (a : A) (b : B) → Ends {N = N} steps (give a) b a b
  ends_give a b = ([], (refl, refl, refl))

  pub ends_ask : {N A : Type 0} (s : ℕ) (c : Call) (k : Answer c → Rule N A) (b m e : B) (a : Answer c) (r : A) → steps b s c a m → Ends steps (k a) m r e → Ends steps (ask s c k) b r e
  ends_ask s c k b m e a r st h = (h.0, (a, m, st, h.1))

  pub ends_note : {N A : Type 0} (n : N) (p : Rule N A) (b e : B) (r : A) → Ends steps p b r e → Ends steps (note n p) b r e
  ends_note n p b e r h = ((n, b) ∷ h.0, (h.0, refl, h.1))

  -- the same run, its result written otherwise
  pub ends_as : {N A : Type 0} (p : Rule N A) (b e : B) (r r' : A) → r ≡ r' → Ends steps p b r e → Ends steps p b r' e
  ends_as {N} {A} p b e r r' q h = subst (λ (x : A). Ends steps p b x e) q h

  -- what is left of the rule `whole`, begun at the bank b₀, is the rule rest, and the bank is now b
  abbrev pub Leads : {N A : Type 0} → Rule N A → B → Rule N A → B → Type 0
  Leads {N} {A} whole b₀ rest b = (r : A) (e : B) → Ends steps rest b r e → Ends steps whole b₀ r e

  pub leads_ask : {N A : Type 0} (whole : Rule N A) (b₀ b m : B) (s : ℕ) (c : Call) (k : Answer c → Rule N A) (a : Answer c) → Leads whole b₀ (ask s c k) b → steps b s c a m → Leads whole b₀ (k a) m
  leads_ask whole b₀ b m s c k a h st r e run = h r e (ends_ask s c k b m e a r st run)

  pub leads_give : {N A : Type 0} (whole : Rule N A) (b₀ b : B) (r : A) → Leads whole b₀ (give r) b → Ends steps whole b₀ r b
  leads_give whole b₀ b r h = h r b (ends_give r b)

  pub leads_bind : {N A C : Type 0} (whole : Rule N C) (b₀ b m : B) (p : Rule N A) (f : A → Rule N C) (a : A) → Leads whole b₀ (p >>= f) b → Ends steps p b a m → Leads whole b₀ (f a) m
  leads_bind whole b₀ b m p f a h run r e k = h r e (ends_bind p f b m e a r run k)
