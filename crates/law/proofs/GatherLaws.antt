-- What asking the members of a group answers of the servers that it leaves.
use Rattle.std.proofs.Common.{◌≡◌, ℕ, ◌+◌, ◌<◌, List, [], ◌∷◌, Ok, Err, Result, sym, refl, ap, ◌∙◌, inl, arith}
use Rattle.std.specs.List.{AllByRecursion as All}
use Rattle.page.specs.declared.faults.Fault.{Fault}
use Rattle.page.specs.Pages.{xor_page}
use Rattle.page.proofs.PageLaws.{xor_associates}
use Rattle.server.specs.Meaning.{holds}
use Rattle.parity_log.specs.Rule.{Runs}
use Rattle.parity_log.specs.Tables.{weight}
use Rattle.parity_log.specs.Reading.{Finding, Gathered, added, refusers, asking}
use Rattle.law.specs.Rows.{Row, slots}
use Rattle.law.specs.Missing.{lacking}
use Rattle.law.proofs.ListLaws.{Apart}
use Rattle.law.proofs.Mode.{Shrunk, shrunk_then, held_of, Fit, Mode, Whole, xor_over}
use Rattle.law.proofs.SolveLaws.{weights, xor_none, xor_whole}

refusers_lacking : (m w : ℕ) (a : Result (List ℕ) Fault) → refusers m w a ≡ m + lacking w (held_of a)
refusers_lacking m w (Ok x) = omega arith
refusers_lacking m w (Err f) = refl

added_held : (s p : List ℕ) (a : Result (List ℕ) Fault) → held_of a ≡ holds p → added s a ≡ xor_page s p
added_held s p (Ok x) e = let y : x ≡ p = cc in ap (xor_page s) y
added_held s p (Err f) e = cc

module _ (M : Mode) where
  pub record Gathers (s g : ℕ) (ks : List ℕ) (sum : List ℕ) (missing : ℕ) (b : Row) (ns : List (Finding × Row)) (r : Gathered) (e : Row) : Type 0 where
    pub quiet : ns ≡ []
    pub shrunk : Shrunk M.lose b e
    pub fit : Fit M.servers M.good e
    pub untouched : (j : ℕ) → All (λ k. k ≡ j → ⊥) ks → e j ≡ b j
    pub set : r.missing ≡ missing + weights (weight s) (slots e g) ks
    pub adds : (c : ℕ → List ℕ) → Whole sum → ((k : ℕ) → Whole (c k)) → All (λ k. slots e g k ≡ holds (c k)) ks → r.sum ≡ xor_page sum (xor_over c ks)

  pub gathers : (s g : ℕ) (ks : List ℕ) (sum : List ℕ) (missing : ℕ) (b : Row) (ns : List (Finding × Row)) (r : Gathered) (e : Row)
      → g < M.groups → All (λ k. k < M.servers) ks → Apart ks → Fit M.servers M.good b → Runs M.steps (asking s g ks sum missing) b ns r e → Gathers s g ks sum missing b ns r e
  unfolding asking
  gathers s g [] sum missing b ns r e room in' apart h run = record {
    quiet = run.0;
    shrunk = λ k t. rw run.2 (inl refl);
    fit = λ k l. rw run.2 (h k l);
    untouched = λ j _. ap (λ x. x j) run.2;
    set = ap (λ x. x.missing) run.1 ∙ omega arith;
    adds = λ c z _ _. ap (λ x. x.sum) run.1 ∙ sym (xor_none sum z);
  }
  gathers s g (k ∷ ks) sum missing b ns r e room in' apart h run =
      let a = run.0 in
      let b₁ = run.1 in
      let got = M.gets b b₁ k g a in'.0 room h run.2 in
      let rest = gathers s g ks (added sum a) (refusers missing (weight s k) a) b₁ ns r e room in'.1 apart.1 got.fit run.3 in
      let is : held_of a ≡ slots e g k = got.is ∙ sym (ap (λ x. x.held g) (rest.untouched k apart.0)) in
      record {
        quiet = rest.quiet;
        shrunk = shrunk_then M.lose b b₁ e got.shrunk rest.shrunk;
        fit = rest.fit;
        untouched = λ j l. rest.untouched j l.1 ∙ got.others j (λ x. l.0 (sym x));
        set = rest.set ∙ rw (refusers_lacking missing (weight s k) a, is) (omega arith);
        adds = λ c z y l.
            let here : added sum a ≡ xor_page sum (c k) = added_held sum (c k) a (is ∙ l.0) in
            rest.adds c (rw here (xor_whole sum (c k) z (y k))) y l.1 ∙ ap (λ x. xor_page x (xor_over c ks)) here ∙ xor_associates sum (c k) (xor_over c ks);
      }
