-- A run over a bank, seen as one over what its servers mean.
use Rattle.std.proofs.Common.{◌≡◌, ℕ, ◌<◌, List, map, Result, sym, refl, ap, ◌∙◌, subst}
use Rattle.page.specs.declared.faults.Fault.{Fault}
use Rattle.server.specs.Calls.{Call, Answer}
use Rattle.server.specs.Meaning.{Meaning}
use Rattle.bank.specs.Rows.{RowRule, Rowed}
use Rattle.parity_log.specs.declared.records.Progress.{Progress}
use Rattle.parity_log.specs.Paging.{told, pageout, free}
use Rattle.parity_log.specs.Reading.{Finding, LogRule, pagein}
use Rattle.parity_log.specs.Rebuilding.{stepped, step}
use Rattle.parity_log.specs.Rule.{Rule, give, ask, note, Runs, Ends}
use Rattle.law.specs.Rows.{Row, RowStep}
use Rattle.law.specs.Runs.{Turn, pages_out, pages_in, frees, steps as progresses, Goes}
use Rattle.pager.specs.declared.log.Log.{Log}
use Rattle.pager.specs.Moments.{log_state, moment_of, Turns}

module _ {B : Type 0} (count : B → ℕ) (means : B → ℕ → Meaning) (steps : RowRule B) (laws : Rowed count means steps) where
  -- each note, with what the servers meant at its moment
  abbrev seen : {N : Type 0} → List (N × B) → List (N × Row)
  seen ns = map (λ n. (n.0, means n.1)) ns

  step_seen : (b : B) (i : ℕ) (c : Call) (a : Answer c) (t : B) → steps b i c a t → RowStep (count b) (means b) i c a (means t)
  step_seen b i c a t st = record {
    one = λ here. laws.meets b i c a t st here;
    sound = λ here _. laws.sound t i (subst (λ (n : ℕ). i < n) (sym (laws.keeps b i c a t st)) here);
    others = laws.others b i c a t st;
  }

  runs_seen : {N A : Type 0} (n : ℕ) (rule : Rule N A) (b e : B) (ns : List (N × B)) (r : A) → count b ≡ n → Runs steps rule b ns r e → Runs (RowStep n) rule (means b) (seen ns) r (means e) × (count e ≡ n)
  runs_seen n (give a) b e ns r is h = ((ap seen h.0, h.1, ap means h.2), ap count h.2 ∙ is)
  runs_seen n (ask i c k) b e ns r is h =
      let st = h.2 in
      let rest = runs_seen n (k h.0) h.1 e ns r (laws.keeps b i c h.0 h.1 st ∙ is) h.3 in
      ((h.0, means h.1, subst (λ (m : ℕ). RowStep m (means b) i c h.0 (means h.1)) is (step_seen b i c h.0 h.1 st), rest.0), rest.1)
  runs_seen n (note x k) b e ns r is h = let rest = runs_seen n k b e h.0 r is h.2 in ((seen h.0, ap seen h.1, rest.0), rest.1)

  -- a call that ran a rule is a turn, if such a run is what the turn does
  ran_turn : {A : Type 0} (p q : Log B) (rule : LogRule A) (r : A) (turn : List (Finding × Row) → Turn)
      → ((fs : List (Finding × Row)) → Runs (RowStep (count p.bank)) rule (means p.bank) fs r (means q.bank) → Goes (moment_of count means p) (turn fs) (log_state q) (means q.bank))
      → Ends steps rule p.bank r q.bank → Turns (moment_of count means p) turn (moment_of count means q)
  ran_turn p q rule r turn does h =
      let all = runs_seen (count p.bank) rule p.bank q.bank h.0 r refl h.1 in
      (seen h.0, record { servers = all.1; goes = does (seen h.0) all.0 })

  -- the calls that ask servers, each of them the turn of its name
  module _ (p q : Log B) where
    pub pageout_turn : (n : ℕ) (x : List ℕ) (r : Result (Unit {0}) Fault) → Ends steps (pageout (log_state p) n x) p.bank (told r (log_state q)) q.bank → Turns (moment_of count means p) (pages_out n x r) (moment_of count means q)
    pageout_turn n x r run = ran_turn p q (pageout (log_state p) n x) (told r (log_state q)) (pages_out n x r) (λ _ h. h) run

    pub free_turn : (n : ℕ) (r : Result (Unit {0}) Fault) → Ends steps (free (log_state p) n) p.bank (told r (log_state q)) q.bank → Turns (moment_of count means p) (frees n r) (moment_of count means q)
    free_turn n r run = ran_turn p q (free (log_state p) n) (told r (log_state q)) (frees n r) (λ _ h. h) run

  -- and those that leave what the log keeps
  module _ (p q : Log B) (same : log_state q ≡ log_state p) where
    pub pagein_turn : (n len : ℕ) (a : Result (List ℕ) Fault) → Ends steps (pagein (log_state p) n len) p.bank a q.bank → Turns (moment_of count means p) (pages_in n len a) (moment_of count means q)
    pagein_turn n len a run = ran_turn p q (pagein (log_state p) n len) a (pages_in n len a) (λ _ h. (h, same)) run

    pub step_turn : (j k : Progress) (r : Result (Unit {0}) Fault) → Ends steps (step (log_state p) j) p.bank (stepped r k) q.bank → Turns (moment_of count means p) (progresses j r k) (moment_of count means q)
    step_turn j k r run = ran_turn p q (step (log_state p) j) (stepped r k) (progresses j r k) (λ _ h. (h, same)) run
