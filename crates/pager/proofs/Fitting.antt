-- What is asked of a bank leaves the shape that it fits; and a run of a rule keeps the pager's order.
use Rattle.std.proofs.Common.{◌≡◌, ℕ, ◌≤◌, true, List, Result, sym, ap, ◌∙◌, subst, ap₂, ⊎_elim}
use Rattle.std.proofs.lemmas.Bool.{cases_eq, cases_lt}
use Rattle.page.specs.declared.faults.Fault.{Fault}
use Rattle.page.specs.declared.pages.Page.{Page}
use Rattle.server.specs.Calls.{Call, Answer}
use Rattle.server.specs.Meaning.{Meaning}
use Rattle.bank.specs.Rows.{RowRule, StepBy, Reaches, Rowed}
use Rattle.parity_log.specs.declared.records.Shape.{Shape}
use Rattle.parity_log.specs.declared.ledger.Ledger.{Ledger}
use Rattle.parity_log.specs.LogState.{LogState, log_of}
use Rattle.parity_log.specs.Order.{Order}
use Rattle.parity_log.specs.Rule.{Rule, give, ask, note, Runs, Ends}
use Rattle.parity_log.specs.Tables.{within}
use Rattle.pager.specs.declared.log.Log.{Log}
use Rattle.pager.specs.Moments.{log_state}
use Rattle.pager.specs.Order.{Fitted, Ordered}

-- a log with the ledger and the running parity that it had
pub kept_log : {B : Type 0} (p q : Log B) → q.ledger ≡ p.ledger → q.running ≡ p.running → log_state q ≡ log_state p
kept_log p q same still = ap₂ (λ (l : Ledger) (y : Page). log_of l.tables y.0) same still

-- something was asked of server k, by a rule that keeps a server's size
module _ {B T : Type 0} (count : B → ℕ) (means : B → ℕ → Meaning) (rule : Meaning → Result T Fault → Meaning → Type 0) (k : ℕ) (a : Result T Fault) (sized : (m n : Meaning) → rule m a n → n.size ≡ m.size) where
  module _ (b t : B) (moved : Reaches rule (count b) (means b) k a (count t) (means t)) where
    -- no server's size has changed: not of the one that was asked, and not of the others
    own_size : (means t k).size ≡ (means b k).size
    own_size = ⊎_elim (λ here. sized (means b k) (means t k) (moved.here here)) (λ past. ap (λ (m : Meaning). m.size) ((moved.past past).1 k)) (cases_lt k (count b))

    same_size : (j : ℕ) → (means t j).size ≡ (means b j).size
    same_size j = ⊎_elim
        (λ own. subst (λ (i : ℕ). (means t i).size ≡ (means b i).size) (sym own) own_size)
        (λ other. ap (λ (m : Meaning). m.size) (moved.others j other)) (cases_eq j k)

    reached_fitted : (s : Shape) → Fitted count means s b → Fitted count means s t
    reached_fitted s f = record { servers = moved.keeps ∙ f.servers; sizes = λ j l. subst (λ (n : ℕ). s.groups ≤ n) (sym (same_size j)) (f.sizes j l) }

  pub reached_ordered : (p q : Log B) → log_state q ≡ log_state p → Reaches rule (count p.bank) (means p.bank) k a (count q.bank) (means q.bank) → Ordered count means p → Ordered count means q
  reached_ordered p q same moved h = record {
    log = subst Order (sym same) h.log;
    fitted = subst (λ (l : LogState). within l.tables.shape ≡ true → Fitted count means l.tables.shape q.bank) (sym same) (λ w. reached_fitted p.bank q.bank moved p.ledger.tables.shape (h.fitted w));
  }

module _ {B : Type 0} (count : B → ℕ) (means : B → ℕ → Meaning) (steps : RowRule B) (laws : Rowed count means steps) where
  call_reaches : (b : B) (i : ℕ) (c : Call) (a : Answer c) (t : B) → steps b i c a t → Reaches (StepBy c) (count b) (means b) i a (count t) (means t)
  call_reaches b i c a t st = record {
    here = laws.meets b i c a t st;
    past = λ past. let same = laws.past b i c a t st past in (same.0, λ j. ap (λ (d : B). means d j) same.1);
    others = laws.others b i c a t st;
    keeps = laws.keeps b i c a t st;
  }

  runs_fitted : {N A : Type 0} (s : Shape) (rule : Rule N A) (b e : B) (ns : List (N × B)) (r : A) → Runs steps rule b ns r e → Fitted count means s b → Fitted count means s e
  runs_fitted s (give a) b e ns r h f = subst (Fitted count means s) (sym h.2) f
  runs_fitted s (ask i c k) b e ns r h f =
      runs_fitted s (k h.0) h.1 e ns r h.3 (reached_fitted count means (StepBy c) i h.0 (λ m n st. st.size) b h.1 (call_reaches b i c h.0 h.1 h.2) s f)
  runs_fitted s (note n k) b e ns r h f = runs_fitted s k b e h.0 r h.2 f

  -- a log that ran a rule is in order, if what it keeps is and has the shape that it had
  pub ends_ordered : {N A : Type 0} (p q : Log B) (rule : Rule N A) (r : A) → Ordered count means p → q.ledger.tables.shape ≡ p.ledger.tables.shape → Order (log_state q) → Ends steps rule p.bank r q.bank → Ordered count means q
  ends_ordered p q rule r o same order run = record {
    log = order;
    fitted = subst (λ (s : Shape). within s ≡ true → Fitted count means s q.bank) (sym same) (λ h. runs_fitted p.ledger.tables.shape rule p.bank q.bank run.0 r run.1 (o.fitted h));
  }

  -- and so it is if that is what it kept before
  pub ends_kept : {N A : Type 0} (p q : Log B) (rule : Rule N A) (r : A) → Ordered count means p → log_state q ≡ log_state p → Ends steps rule p.bank r q.bank → Ordered count means q
  ends_kept p q rule r o same run = ends_ordered p q rule r o (ap (λ (l : LogState). l.tables.shape) same) (subst Order (sym same) o.log) run
