-- Asking the members of a group, turn by turn.
use Rattle.std.proofs.Common.{◌≡◌, ℕ, suc, ◌+◌, ◌-◌, ◌^◌, ◌<◌, ◌≤◌, Bool, true, false, cond, not, eqb, List, [], ◌∷◌, Ok, Err, filter, Result, refl, ap, ◌∙◌, subst, ap₂, add-zero, zero-add, arith, pow_mono, eq-eqb, ne_eqb, eqb-true}
use borrow.Author.Tests.{eqb-false}
use Rattle.std.proofs.lemmas.Nat.{pow-add}
use Rattle.std.specs.List.{range_with_len}
use Rattle.page.specs.declared.faults.Fault.{Fault}
use Rattle.server.specs.Calls.{to_get}
use Rattle.bank.specs.Rows.{RowRule}
use Rattle.parity_log.specs.Rule.{Ends}
use Rattle.parity_log.specs.LogState.{LogState}
use Rattle.parity_log.specs.Tables.{member_count_of, state_of, weight}
use Rattle.parity_log.specs.Reading.{LogRule, Gathered, asking, refusers, gather, kept}
use Rattle.parity_log.proofs.RuleLaws.{Leads, leads_ask, leads_give}
use Rattle.pager.specs.Reads.{AskedOne, gathered}

pub span_more : (k n : ℕ) → k < n → range_with_len k (n - k) ≡ k ∷ range_with_len (k + 1) (n - (k + 1))
span_more k n h = let e : n - k ≡ suc (n - (k + 1)) = omega arith in ap (range_with_len k) e

pub span_none : (k n : ℕ) → n ≤ k → range_with_len k (n - k) ≡ []
span_none k n h = let e : n - k ≡ 0 = omega arith in ap (range_with_len k) e

refusers_from : (m w : ℕ) (a : Result (List ℕ) Fault) → m + refusers 0 w a ≡ refusers m w a
refusers_from m w (Ok x) = add-zero m
refusers_from m w (Err f) = ap (λ n. m + n) (zero-add w)

-- all numbers from k up to n, but one
abbrev pub rest : ℕ → ℕ → ℕ → List ℕ
rest but k n = filter (λ m. not (eqb m but)) (range_with_len k (n - k))

-- a gathering begins with all members but one
pub gather_begins : {B : Type 0} (steps : RowRule B) (b : B) (l : LogState) (g but n : ℕ) (sum : List ℕ) → n ≡ member_count_of (state_of l.tables g) l.tables.shape.servers l.tables.filled → sum ≡ kept l g → Leads steps (gather l g but) b (asking l.tables.shape.servers g (rest but 0 n) sum 0) b
unfolding gather
gather_begins steps b l g but n sum e k r z h =
    let v = l.tables in
    let all : n - 0 ≡ member_count_of (state_of v g) v.shape.servers v.filled = omega arith in
    let same : asking v.shape.servers g (rest but 0 n) sum 0 ≡ gather l g but = ap₂ (λ m p. asking v.shape.servers g (filter (λ x. not (eqb x but)) (range_with_len 0 m)) p 0) all k in
    subst (λ (rule : LogRule Gathered). Ends steps rule b r z) same h

module _ {B : Type 0} (steps : RowRule B) (whole : LogRule Gathered) (b₀ b : B) (s g but k n : ℕ) (sum : List ℕ) (missing : ℕ) (inv : Leads steps whole b₀ (asking s g (rest but k n) sum missing) b) where
  pub turn_skip : k < n → k ≡ but → Leads steps whole b₀ (asking s g (rest but (k + 1) n) sum missing) b
  turn_skip h e = rw (span_more k n h, eq-eqb k but e) at inv

  pub turn_ask : (b' : B) (sum' : List ℕ) (r : ℕ) → k < n → (k ≡ but → ⊥) → AskedOne steps s g k b sum r b' sum' → Leads steps whole b₀ (asking s g (rest but (k + 1) n) sum' (missing + r)) b'
  unfolding asking
  turn_ask b' sum' r h ne one =
      let go = leads_ask steps whole b₀ b b' k (to_get g 512) _ one.0 (rw (span_more k n h, ne_eqb k but ne) at inv) one.1 in
      let e : missing + r ≡ refusers missing (weight s k) one.0 = ap (λ x. missing + x) one.3 ∙ refusers_from missing (weight s k) one.0 in
      rw (one.2, e) go

  pub turns_end : n ≤ k → Ends steps whole b₀ (gathered sum missing) b
  unfolding asking
  turns_end h = leads_give steps whole b₀ b _ (rw (span_none k n h) at inv)

-- the missing set stays small
pub weight_bound : (s k m : ℕ) (a : Result (List ℕ) Fault) → s ≤ 8 → k ≤ s → m < 2 ^ k → (m + refusers 0 (weight s k) a < 512) × (k < s → m + refusers 0 (weight s k) a < 2 ^ (k + 1))
weight_bound s k m (Ok x) hs hk h =
    let room : k ≤ 8 = omega arith in let top = pow_mono room in let more = pow-add 2 k 1 in
    (omega arith, λ _. omega arith)
weight_bound s k m (Err f) hs hk h = go (eqb k s) refl
  where
    go : (v : Bool) → eqb k s ≡ v → (m + (0 + cond v 256 (2 ^ k)) < 512) × (k < s → m + (0 + cond v 256 (2 ^ k)) < 2 ^ (k + 1))
    go true e = let same = eqb-true k s e in let room : k ≤ 8 = omega arith in let top = pow_mono room in (omega arith, λ lt. absurd (omega arith))
    go false e =
        let ne = eqb-false k s e in let room : k ≤ 8 = omega arith in let top = pow_mono room in let more = pow-add 2 k 1 in
        (omega arith, λ _. omega arith)

pub weight_small : (s k : ℕ) → k ≤ 8 → weight s k ≤ 256
weight_small s k h = go (eqb k s)
  where
    go : (v : Bool) → cond v 256 (2 ^ k) ≤ 256
    go true = omega arith
    go false = pow_mono h
