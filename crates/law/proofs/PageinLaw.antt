-- A pagein delivers what was booked, or refuses by a right finding, and keeps what holds.
use Rattle.std.proofs.Common.{◌≡◌, ℕ, ◌⊎◌, List, [], Some, None as Nowhere, Ok, Err, Option, Result, sym, refl, ap, ◌∙◌, inl, inr, arith, eq-eqb}
use Rattle.page.specs.declared.faults.Fault.{Fault}
use Rattle.page.specs.declared.faults.Refusal.TheVariants.{Lost as AsLost, None as AsNone}
use Rattle.parity_log.specs.declared.records.PageState.{PageState}
use Rattle.parity_log.specs.declared.records.PageState.TheVariants.{NotOut, Out, Lost}
use Rattle.parity_log.specs.LogState.{LogState}
use Rattle.parity_log.specs.Tables.{page_state}
use Rattle.parity_log.specs.Faults.{lost_page, objection}
use Rattle.parity_log.specs.Order.{Sound}
use Rattle.parity_log.specs.Rule.{Runs}
use Rattle.parity_log.specs.Reading.{Finding, Reading, found as gives, missed, read, delivered, pagein_from, pagein_unless, pagein}
use Rattle.law.specs.Rows.{Row}
use Rattle.law.specs.Book.{has, nothing, lost, Book, written, found, heard_page, latest}
use Rattle.law.specs.Invariant.{FoundAt, PageOk}
use Rattle.law.proofs.RuleLaws.{through}
use Rattle.law.proofs.ReadLaws.{ReadOk, read_law, two_seen}
use Rattle.law.proofs.Invariant.{Last, Inv, written_here, written_again, page_booked, members_on_lem, shrunk_inv, same_book, found_inv}
use Rattle.law.proofs.FaultLaws.{plain_lost, plain_none, Objects, objects}
use Rattle.law.proofs.Mode.{Shrunk, Fit, Mode}

module _ (M : Mode) where
  -- what an answer says of the book before it and of the findings after it
  abbrev pub Answered : ℕ → Book → Last → Result (List ℕ) Fault → Type 0
  Answered p k l (Ok x) = k p ≡ has x
  Answered p k l (Err f) = (f.refusal ≡ AsLost → (g : ℕ) × (s : ℕ) × (f ≡ lost_page p g s) × FoundAt g s (l p) × ((k p ≡ lost) ⊎ M.finds)) × (f.refusal ≡ AsNone → k p ≡ nothing)

  pub record AfterPagein (v : LogState) (e : Row) (k : Book) (l : Last) (c : ℕ → ℕ → List ℕ) (p : ℕ) (ns : List (Finding × Row)) (a : Result (List ℕ) Fault) : Type 0 where
    pub inv : Inv M v e (heard_page p a (found ns k)) (λ q. latest q ns (l q)) c
    pub said : Answered p k (λ q. latest q ns (l q)) a
    pub news : (ns ≡ []) ⊎ M.finds

  module _ (v : LogState) (b : Row) (k : Book) (l : Last) (c : ℕ → ℕ → List ℕ) (p : ℕ) (inv : Inv M v b k l c) (sound : Sound v.tables) where
    delivered_law : (g i : ℕ) → page_state v.tables p ≡ Out g i → (m e : Row) (ns : List (Finding × Row)) (a : Result (List ℕ) Fault) (r : Reading) → Shrunk M.lose b m → Fit M.servers M.good m → ReadOk v g i (c g i) m r
        → Runs M.steps (delivered v.tables p g i r) m ns a e → AfterPagein v e k l c p ns a
    delivered_law g i here m e ns a (gives x) sh fi ok (z, y, w) =
        let inv' = shrunk_inv M v b m k l c sh fi inv in
        let is = page_booked v.tables m c g i (k p) (l p) (rw here at (inv'.pages p)) ok.1 in
        rw (z, y, w) (record { inv = inv'; said = is ∙ ap has (sym ok.0); news = inl refl })
    delivered_law g i here m e ns a (missed s) sh fi ok (rest, z, (u, y, w)) =
        let inv' = shrunk_inv M v b m k l c sh fi inv in
        let f : Finding = record { page = p; group = g; position = i; set = s; tables = v.tables } in
        let finds = two_seen M g _ _ (c g) _ i (inv'.holds.group g) ok.0 in
        rw (z, u, y, w) (record {
          inv = same_book M v m (written p lost k) _ _ c (λ q. written_again p q lost (written p lost k) (written_here p lost k)) (found_inv M v m k l c f inv' here ok.0);
          said = (λ _. (g, s, refl, ((f, m), rw (eq-eqb p p refl), refl, refl, record { two = ok.0; set = ok.1 }), inr finds), λ y. let q : ◌≡◌ {A = ℕ} 0 1 = cc in absurd (omega arith));
          news = inr finds;
        })

    from_law : (q : PageState) → page_state v.tables p ≡ q → PageOk v.tables b c (k p) (l p) q → (ns : List (Finding × Row)) (a : Result (List ℕ) Fault) (e : Row) → Runs M.steps (pagein_from v p q) b ns a e → AfterPagein v e k l c p ns a
    unfolding pagein_from
    from_law NotOut here ok ns a e (z, y, w) = rw (z, y, w) (record { inv = inv; said = (λ y. let q : ◌≡◌ {A = ℕ} 0 1 = cc in absurd (omega arith), λ _. ok); news = inl refl })
    from_law (Lost g s) here ok ns a e (z, y, w) = rw (z, y, w) (record {
      inv = same_book M v b k _ l c (λ q. written_again p q lost k ok.0) inv;
      said = (λ _. (g, s, refl, ok.1, inl ok.0), λ y. let q : ◌≡◌ {A = ℕ} 0 1 = cc in absurd (omega arith));
      news = inl refl;
    })
    from_law (Out g i) here ok ns a e run = through M.steps (read v g i) (λ r. delivered v.tables p g i r) b ns a e run λ r m ns₁ ns₂ first second notes.
        let room = (sound.placed p g i here).0 in
        let o = read_law M v g i (c g) (omega (arith, inv.holds.groups)) (members_on_lem M v b c g sound inv.holds) ok.0 b ns₁ r m inv.holds.fit (inv.holds.group g) first in
        rw (notes, o.quiet) (delivered_law g i here m e ns₂ a r o.shrunk o.fit o.ok second)

    unless_law : (n : ℕ) (o : Option Fault) → Objects v.tables p n o → (ns : List (Finding × Row)) (a : Result (List ℕ) Fault) (e : Row) → Runs M.steps (pagein_unless o v p) b ns a e → AfterPagein v e k l c p ns a
    unless_law n (Some f) plain ns a e (z, y, w) = rw (z, y, w) (record { inv = rw plain.not_lost inv; said = (λ q. absurd (plain_lost f plain q), λ q. absurd (plain_none f plain q)); news = inl refl })
    unless_law n Nowhere fine ns a e run = from_law (page_state v.tables p) refl (inv.pages p) ns a e run

    -- a pagein of the page p into a buffer of n bytes
    pub pagein_law : (n : ℕ) (ns : List (Finding × Row)) (a : Result (List ℕ) Fault) (e : Row) → Runs M.steps (pagein v p n) b ns a e → AfterPagein v e k l c p ns a
    unfolding pagein
    pagein_law n = unless_law n (objection v.tables p n) (objects v.tables p n)
