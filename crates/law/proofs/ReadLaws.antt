-- What the reading of one member of a group answers.
use Rattle.std.proofs.Common.{◌≡◌, ℕ, ◌+◌, ◌<◌, ◌≤◌, List, [], Ok, Err, Result, sym, refl, ap, ◌∙◌, inl, inr, arith, eq-eqb, ne_eqb}
use Rattle.std.proofs.lemmas.Bool.{cases_eq}
use Rattle.page.specs.declared.faults.Fault.{Fault}
use Rattle.server.specs.Meaning.{Held, nothing, holds}
use Rattle.parity_log.specs.LogState.{LogState}
use Rattle.parity_log.specs.Tables.{others, weight}
use Rattle.parity_log.specs.Rule.{give, Runs}
use Rattle.parity_log.specs.Reading.{Finding, Gathered, kept, gather, Reading, found, missed, restored, or_restored, read}
use Rattle.law.specs.Rows.{Row, slots}
use Rattle.law.specs.Missing.{members_on, Missing, missing_set}
use Rattle.law.specs.Invariant.{TwoMissing}
use Rattle.law.proofs.ListLaws.{all_both, all_but, all_at, apart_but}
use Rattle.law.proofs.RuleLaws.{through}
use Rattle.law.proofs.SolveLaws.{weights, solve, none_missed, some_missed, own_missed, weight_pos, weights_below}
use Rattle.law.proofs.GatherLaws.{gathers}
use Rattle.law.proofs.Mode.{Still, none_still, still_then, Shrunk, shrunk_then, held_of, Fit, Mode, GroupOk}

pub held_is : (Y : Type 0) (x : List ℕ) (o : Held) → Still Y (holds x) o → (o ≡ nothing → ⊥) → o ≡ holds x
held_is Y x o (inl e) n = e
held_is Y x o (inr e) n = absurd (n e.1)

pub held_may : (Y : Type 0) (x : List ℕ) (o : Held) → Still Y (holds x) o → o ≡ nothing → Y
held_may Y x o (inl e) n = let y : ◌≡◌ {A = ℕ} 0 1 = cc in absurd (omega arith)
held_may Y x o (inr e) n = e.0

-- what a slot of a member may hold stays so as the slots shrink
pub shrunk_group : (Y L : ℕ → Type 0) (n : ℕ) (p : List ℕ) (c : ℕ → List ℕ) (h h' : ℕ → Held) → ((k : ℕ) → L k → Y k) → ((k : ℕ) → k < n → Still (L k) (h k) (h' k)) → GroupOk Y n p c h → GroupOk Y n p c h'
shrunk_group Y L n p c h h' f sh o = record { kept_whole = o.kept_whole; whole = o.whole; balanced = o.balanced; true_held = λ k l. still_then _ _ _ _ _ (f k) (o.true_held k l) (sh k l) }

pub still_two : (L : ℕ → Type 0) (n n' : ℕ) (h h' : ℕ → Held) (i : ℕ) → n ≤ n' → ((k : ℕ) → k < n → Still (L k) (h k) (h' k)) → TwoMissing n h i → TwoMissing n' h' i
still_two L n n' h h' i le sh m = record {
  own = (omega (arith, m.own.0), none_still _ _ _ (sh i m.own.0) m.own.1);
  other = (m.other.0, m.other.1, (omega (arith, m.other.2.0), none_still _ _ _ (sh _ m.other.2.0) m.other.2.1));
}

-- what was read at the position i of the group g is what it ought to hold, c, and not two were missing; or two are, and the set names the missing
abbrev pub ReadOk : LogState → ℕ → ℕ → List ℕ → Row → Reading → Type 0
ReadOk v g i c e (found x) = (x ≡ c) × (TwoMissing (members_on v.tables g) (slots e g) i → ⊥)
ReadOk v g i c e (missed s) = TwoMissing (members_on v.tables g) (slots e g) i × (s ≡ missing_set v.tables e g)

module _ (M : Mode) where
  -- two members missing are a finding
  pub two_seen : (g n : ℕ) (p : List ℕ) (c : ℕ → List ℕ) (h : ℕ → Held) (i : ℕ) → GroupOk (M.may g) n p c h → TwoMissing n h i → M.finds
  two_seen g n p c h i o m =
      let at : (k : ℕ) → (k < n) × (h k ≡ nothing) → M.may g k = λ k y. held_may _ _ _ (o.true_held k y.0) y.1 in
      M.two_finds g i m.other.0 (at i m.own) (at m.other.0 m.other.2) m.other.1

  -- a group of the tables over a row, where its members on servers ought to hold c
  abbrev pub Group : LogState → ℕ → (ℕ → List ℕ) → Row → Type 0
  Group v g c b = GroupOk (M.may g) (members_on v.tables g) (kept v g) c (slots b g)

  pub shrunk_keeps : (v : LogState) (g : ℕ) (c : ℕ → List ℕ) (b e : Row) → Shrunk M.lose b e → Group v g c b → Group v g c e
  shrunk_keeps v g c b e sh o = shrunk_group (M.may g) M.lose _ _ _ _ _ (M.may_lose g) (λ k l. sh k g) o

  -- the other members of a position asked, and it left alone
  pub record Others (v : LogState) (g i : ℕ) (c : ℕ → List ℕ) (b : Row) (ns : List (Finding × Row)) (r : Gathered) (e : Row) : Type 0 where
    pub quiet : ns ≡ []
    pub shrunk : Shrunk M.lose b e
    pub fit : Fit M.servers M.good e
    pub own : e i ≡ b i
    pub all : r.missing ≡ 0 → (r.sum ≡ c i) × ((k : ℕ) → (k ≡ i → ⊥) → Missing v.tables e g k → ⊥)
    pub some : (r.missing ≡ 0 → ⊥) → (k : ℕ) × (k ≡ i → ⊥) × Missing v.tables e g k
    pub set : (e i).held g ≡ nothing → r.missing + weight v.tables.shape.servers i ≡ missing_set v.tables e g

  pub record Reads (v : LogState) (g i : ℕ) (c : List ℕ) (b : Row) (ns : List (Finding × Row)) (r : Reading) (e : Row) : Type 0 where
    pub quiet : ns ≡ []
    pub shrunk : Shrunk M.lose b e
    pub fit : Fit M.servers M.good e
    pub ok : ReadOk v g i c e r

  module _ (v : LogState) (g i : ℕ) (c : ℕ → List ℕ) (room : g < M.groups) (on : members_on v.tables g ≤ M.servers) (lt : i < members_on v.tables g) where
    pub others_law : (b : Row) (ns : List (Finding × Row)) (r : Gathered) (e : Row) → Fit M.servers M.good b → Group v g c b → Runs M.steps (gather v g i) b ns r e → Others v g i c b ns r e
    unfolding gather
    others_law b ns r e h o run =
        let n = members_on v.tables g in
        let w = weight v.tables.shape.servers in
        let ks = others v.tables g i in
        let gs = gathers M v.tables.shape.servers g ks (kept v g) 0 b ns r e room (all_but (λ k. k < M.servers) i 0 n (λ k _ l _. omega arith)) (apart_but i 0 n) h run in
        let is : r.missing ≡ weights w (slots e g) ks = gs.set ∙ omega arith in
        let o' = shrunk_keeps v g c b e gs.shrunk o in
        record {
          quiet = gs.quiet;
          shrunk = gs.shrunk;
          fit = gs.fit;
          own = gs.untouched i (all_but (λ k. k ≡ i → ⊥) i 0 n (λ k _ _ ne. ne));
          all = λ z.
              let here = none_missed w (slots e g) (weight_pos v.tables.shape.servers) ks (sym is ∙ z) in
              let held = all_both (λ k. k < n) (λ k. slots e g k ≡ nothing → ⊥) (λ k. slots e g k ≡ holds (c k)) ks (all_but (λ k. k < n) i 0 n (λ k _ l _. omega arith)) here (λ k l x. held_is (M.may g k) (c k) (slots e g k) (o'.true_held k l) x) in (
                gs.adds c o.kept_whole o.whole held ∙ solve (kept v g) c i n o.kept_whole o.whole lt o.balanced,
                λ k ne m. all_at (λ k. slots e g k ≡ nothing → ⊥) i 0 n here k (omega arith) (omega (arith, m.0)) ne m.1,
              );
          some = λ z.
              let f = some_missed w (slots e g) (λ k. (k < n) × (k ≡ i → ⊥)) ks (all_but _ i 0 n (λ k _ l ne. (omega arith, ne))) (λ y. z (is ∙ y)) in
              (f.0, f.1.1, (f.1.0, f.2));
          set = λ z. omega (arith, is, own_missed w (slots e g) i n lt z, weights_below v.tables e g n);
        }

    pub restored_ok : (b e : Row) (ns : List (Finding × Row)) (r : Gathered) → Others v g i c b ns r e → (b i).held g ≡ nothing → ReadOk v g i (c i) e (restored v.tables i r)
    restored_ok b e ns r o z =
        let none : (e i).held g ≡ nothing = ap (λ x. x.held g) o.own ∙ z in
        elim (cases_eq r.missing 0) [
          | inl y ↦ rw (eq-eqb r.missing 0 y) ((o.all y).0, λ two. (o.all y).1 two.other.0 two.other.1 two.other.2)
          | inr y ↦ rw (ne_eqb r.missing 0 y) (record { own = (lt, none); other = o.some y }, o.set none)
        ]

    pub read_law : (b : Row) (ns : List (Finding × Row)) (r : Reading) (e : Row) → Fit M.servers M.good b → Group v g c b → Runs M.steps (read v g i) b ns r e → Reads v g i (c i) b ns r e
    unfolding read
    read_law b ns r e h o run =
        let got = M.gets b run.1 i g run.0 (omega arith) room h run.2 in
        go run.1 run.0 got.shrunk got.fit got.is run.3
      where
        go : (m : Row) (a : Result (List ℕ) Fault) → Shrunk M.lose b m → Fit M.servers M.good m → held_of a ≡ (m i).held g → Runs M.steps (or_restored v g i a) m ns r e → Reads v g i (c i) b ns r e
        go m (Ok x) sh fi is run =
            let true' = (shrunk_keeps v g c b m sh o).true_held i lt in
            let here : holds x ≡ holds (c i) = is ∙ held_is (M.may g i) (c i) ((m i).held g) true' (λ z. let y : ◌≡◌ {A = ℕ} 0 1 = cc in omega arith) in
            record {
              quiet = run.0;
              shrunk = rw run.2 sh;
              fit = rw run.2 fi;
              ok = rw (run.1, run.2) (cc, λ two. let z = two.own.1 in let y : ◌≡◌ {A = ℕ} 0 1 = cc in omega arith);
            }
        go m (Err f) sh fi is run = through M.steps (gather v g i) (λ r. give (restored v.tables i r)) m ns r e run λ a l ns₁ ns₂ first q notes.
            let part = others_law m ns₁ a l fi (shrunk_keeps v g c b m sh o) first in
            record {
              quiet = notes ∙ rw (part.quiet, q.0) refl;
              shrunk = rw q.2 (shrunk_then M.lose b m l sh part.shrunk);
              fit = rw q.2 part.fit;
              ok = rw (q.1, q.2) (restored_ok m l ns₁ a part (sym is));
            }
