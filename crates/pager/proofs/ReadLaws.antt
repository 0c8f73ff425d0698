-- The ways through the reading of a position.
use Rattle.std.proofs.Common.{◌≡◌, ℕ, ◌+◌, List, Ok, Err, Result, sym, ap, ◌∙◌, subst, eq-eqb, ne_eqb}
use Rattle.page.specs.declared.faults.Fault.{Fault}
use Rattle.page.specs.declared.pages.Page.{Page}
use Rattle.server.specs.Calls.{to_get}
use Rattle.bank.specs.Rows.{RowRule}
use Rattle.parity_log.specs.declared.ledger.Ledger.{Ledger}
use Rattle.parity_log.specs.LogState.{LogState}
use Rattle.parity_log.specs.Rule.{give, Ends}
use Rattle.parity_log.specs.Tables.{weight}
use Rattle.parity_log.specs.Reading.{Gathered, Reading, gather, read, restored, found, missed, or_restored}
use Rattle.parity_log.proofs.RuleLaws.{ends_bind, ends_give, ends_ask}
use Rattle.pager.specs.Reads.{Gathers}

-- a get with a whole buffer
pub whole_get : {B : Type 0} (steps : RowRule B) (b e : B) (i g n : ℕ) (a : Result (List ℕ) Fault) → n ≡ 512 → steps b i (to_get g n) a e → steps b i (to_get g 512) a e
whole_get steps b e i g n a l st = subst (λ (k : ℕ). steps b i (to_get g k) a e) l st

module _ {B : Type 0} (steps : RowRule B) (l : LogState) (g i n : ℕ) (whole : n ≡ 512) (b e : B) where
  pub read_own : (x : List ℕ) → steps b i (to_get g n) (Ok x) e → Ends steps (read l g i) b (found x) e
  unfolding read
  read_own x st = ends_ask steps i (to_get g 512) (λ a. or_restored l g i a) b e e (Ok x) (found x) (whole_get steps b e i g n (Ok x) whole st) (ends_give steps (found x) e)

  pub read_after : (m : B) (f : Fault) (r : Reading) → steps b i (to_get g n) (Err f) m → Ends steps (or_restored l g i (Err f)) m r e → Ends steps (read l g i) b r e
  unfolding read
  read_after m f r st run = ends_ask steps i (to_get g 512) (λ a. or_restored l g i a) b m e (Err f) r (whole_get steps b m i g n (Err f) whole st) run

module _ {B : Type 0} (steps : RowRule B) (l : LogState) (g i : ℕ) (m e : B) (q : Gathered) (run : Ends steps (gather l g i) m q e) (f : Fault) where
  others : Ends steps (or_restored l g i (Err f)) m (restored l.tables i q) e
  others = ends_bind steps (gather l g i) (λ r. give (restored l.tables i r)) m e e q _ run (ends_give steps _ e)

  pub restored_found : (p : Page) → Gathers q (Ok p) → Ends steps (or_restored l g i (Err f)) m (found p.0) e
  restored_found p h = rw (eq-eqb q.missing 0 h.0, h.1) at others

  pub restored_missed : (s : ℕ) → Gathers q (Err s) → Ends steps (or_restored l g i (Err f)) m (missed (s + weight l.tables.shape.servers i)) e
  restored_missed s h = rw (ne_eqb q.missing 0 (λ z. h.1 (sym h.0 ∙ z)), h.0) at others

-- a weight is the same where the tables are
pub own_weight : (l k : Ledger) (i w : ℕ) → l ≡ k → w ≡ weight l.tables.shape.servers i → w ≡ weight k.tables.shape.servers i
own_weight l k i w same is = is ∙ ap (λ (x : Ledger). weight x.tables.shape.servers i) same
