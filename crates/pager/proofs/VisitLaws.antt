-- The ways through the visit of a group.
use Rattle.std.proofs.Common.{◌≡◌, ℕ, ◌<◌, ◌≤◌, cond, List, is_ok, None, Ok, Err, Result, sym, ◌∙◌, subst, le-ltb, lt-ltb, eq-eqb, ne_eqb}
use Rattle.page.specs.declared.faults.Fault.{Fault}
use Rattle.page.specs.declared.pages.Page.{Page}
use Rattle.server.specs.Calls.{to_get, to_put}
use Rattle.bank.specs.Rows.{RowRule}
use Rattle.parity_log.specs.declared.records.Progress.{Progress}
use Rattle.parity_log.specs.LogState.{LogState}
use Rattle.parity_log.specs.declared.records.Visit.{Visit}
use Rattle.parity_log.specs.declared.records.Visit.TheVariants.{Intact, Rebuilt, Failed}
use Rattle.parity_log.specs.Rule.{give, Ends}
use Rattle.parity_log.specs.Tables.{member_count_of, state_of}
use Rattle.parity_log.specs.Reading.{Finding, Gathered, gather}
use Rattle.parity_log.specs.Rebuilding.{put_back, mend, visit, counted, stepped, step_unless}
use Rattle.parity_log.proofs.RuleLaws.{ends_ask, ends_bind, ends_give}
use Rattle.pager.specs.Reads.{Gathers}
use Rattle.pager.proofs.ReadLaws.{whole_get}

module _ {B : Type 0} (steps : RowRule B) (l : LogState) (k g : ℕ) (b m : B) (f : Fault) (q : Gathered) (asked : Ends steps (gather l g k) b q m) where
  mends : (r : Visit) (e : B) → Ends steps (put_back k g q) m r e → Ends steps (mend l k g (Err f)) b r e
  unfolding mend
  mends r e put = ends_bind steps (gather l g k) (λ p. put_back k g p) b m e q r asked put

  pub nothing_put : (s : ℕ) → Gathers q (Err s) → Ends steps (mend l k g (Err f)) b Failed m
  unfolding put_back
  nothing_put s h = mends Failed m (rw (ne_eqb q.missing 0 (λ z. h.1 (sym h.0 ∙ z))) (ends_give steps Failed m))

  pub puts : (p : Page) (a : Result (Unit {0}) Fault) (e : B) → Gathers q (Ok p) → steps m k (to_put g p.0) a e → Ends steps (mend l k g (Err f)) b (cond (is_ok a) Rebuilt Failed) e
  unfolding put_back
  puts p a e h st = mends _ e (rw (eq-eqb q.missing 0 h.0, h.1) (ends_ask steps k (to_put g p.0) (λ d. give (cond (is_ok d) Rebuilt Failed)) m e e a _ st (ends_give steps _ e)))

module _ {B : Type 0} (steps : RowRule B) (l : LogState) (k g : ℕ) (b m e : B) where
  pub delivers : (x : List ℕ) → Ends steps (mend l k g (Ok x)) b Intact b
  unfolding mend
  delivers x = ends_give steps Intact b

  pub no_member : (n : ℕ) → n ≡ member_count_of (state_of l.tables g) l.tables.shape.servers l.tables.filled → n ≤ k → Ends steps (visit l k g) b Intact b
  unfolding visit
  no_member n is h = rw (sym is, le-ltb k n h) (ends_give steps Intact b)

  pub visits : (n len : ℕ) (a : Result (List ℕ) Fault) (r : Visit) → n ≡ member_count_of (state_of l.tables g) l.tables.shape.servers l.tables.filled → k < n → len ≡ 512 → steps b k (to_get g len) a m → Ends steps (mend l k g a) m r e → Ends steps (visit l k g) b r e
  unfolding visit
  visits n len a r is h whole st run = rw (sym is, lt-ltb k n h) (ends_ask steps k (to_get g 512) (λ d. mend l k g d) b m e a r (whole_get steps b m k g len a whole st) run)

module _ {B : Type 0} (steps : RowRule B) (l : LogState) (j : Progress) (b e : B) where
  pub goes_on : (r : Visit) (k : Progress) → j.group < j.groups → Ends steps (visit l j.server j.group) b r e → k ≡ counted j r → Ends steps (step_unless None l j) b (stepped (Ok tt) k) e
  goes_on r k h run is =
      rw (lt-ltb j.group j.groups h) (ends_bind steps (visit l j.server j.group) (λ q. give (stepped (Ok tt) (counted j q))) b e e r (stepped (Ok tt) k) run (subst (λ (q : Progress). Ends {N = Finding} steps (give (stepped (Ok tt) q)) e (stepped (Ok tt) k) e) is (ends_give steps (stepped (Ok tt) k) e)))
