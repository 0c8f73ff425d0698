-- A call over a modelled bank answers and leaves what it does at its servers' values.
use Rattle.std.proofs.Common.{◌≡◌, ℕ, Bool, true, false, length, Result, refl, sym, ap, ◌∙◌}
use Rattle.page.specs.Pages.{page_of, page_size}
use Rattle.page.specs.declared.faults.Fault.{Fault}
use Rattle.server.specs.Meaning.{Meaning}
use Rattle.bank.specs.Rows.{RowRule}
use Rattle.memory.specs.Store.{Store}
use Rattle.parity_log.specs.declared.records.Shape.{Shape}
use Rattle.parity_log.specs.LogState.{LogState, log_of}
use Rattle.parity_log.specs.Making.{made_as, making}
use Rattle.parity_log.specs.Paging.{Told, told, pageout, free}
use Rattle.parity_log.specs.Reading.{pagein}
use Rattle.parity_log.specs.Tables.{within}
use Rattle.pager.specs.declared.log.Log.{Log}
use Rattle.pager.specs.Moments.{log_state}
use Rattle.pager.specs.Pulls.{HandsOn}
use Rattle.replay.specs.declared.listing.Detail.{Detail}
use Rattle.replay.specs.declared.listing.Detail.TheVariants.{Pages}
use Rattle.replay.specs.declared.script.Call.{Call}
use Rattle.replay.specs.declared.script.Call.TheVariants.{Out, In, Free, Make, Fall, Back, Rebuild}
use Rattle.session.specs.Calls.{CallRuns, Model, done, first_byte, handed, model, rebuild, run_model, shown}
use Rattle.session.specs.Model.{Row, Comes, GoesAs, Modelled, changed_at, exec, felled, brought_back, meanings, said_at}
use Rattle.session.proofs.Models.{ends_as}

pub same_model : (l l' : LogState) (row row' : Row) → l ≡ l' → row ≡ row' → model l row ≡ model l' row'
same_model l l' row row' a b = rw (a, b) refl

-- what a made pager hands on, and what any other refuses
hands_as : {B K : Type 0} (stores : B → Row) (kept : B → K) (rule : B → ℕ → Result (Unit {0}) Fault → B → Type 0) (word : Store → Result (Unit {0}) Fault) (change : Store → Store) → GoesAs stores kept rule word change → (shape : Shape) (b : B) (server : ℕ) (r : Result (Unit {0}) Fault) (e : B) → HandsOn rule shape b server r e → Comes stores kept b (handed shape (stores b) (said_at word (stores b) server, changed_at change (stores b) server)) r e
hands_as stores kept rule word change goes shape b server r e hands = by_shape (within shape) refl
  where
    by_shape : (v : Bool) → within shape ≡ v → Comes stores kept b (handed shape (stores b) (said_at word (stores b) server, changed_at change (stores b) server)) r e
    by_shape true v = rw v (goes b server r e (hands.made v))
    by_shape false v = let no = hands.not_made v in rw v (no.0, ap stores no.1, ap kept no.1)

module _ {B K : Type 0} (count : B → ℕ) (means : B → ℕ → Meaning) (steps : RowRule B) (falls backs : B → ℕ → Result (Unit {0}) Fault → B → Type 0) (stores : B → Row) (kept : B → K) (modelled : Modelled count means steps falls backs stores kept) where
  -- a pager as values
  abbrev pub values : Log B → Model
  values p = model (log_state p) (stores p.bank)

  -- a call answers and leaves what it does at a pager's values
  abbrev pub CallGoes : Log B → Result Detail Fault × Model → Result Detail Fault → Log B → Type 0
  CallGoes p moved a q = (a ≡ moved.0) × (values q ≡ moved.1) × (kept q.bank ≡ kept p.bank)

  told_goes : (p q : Log B) (r : Result (Unit {0}) Fault) (x : Told × Row) → Comes stores kept p.bank x (told r (log_state q)) q.bank → (a : Result Detail Fault) → a ≡ done r → CallGoes p (done x.0.said, model x.0.log x.1) a q
  told_goes p q r x c a said =
      (said ∙ ap (λ t. done t.said) c.0, same_model _ _ _ _ (ap (λ t. t.log) c.0) c.1, c.2)

  moved_goes : {T : Type 0} (p q : Log B) (r : T) (x : T × Row) (answer : T → Result Detail Fault) → Comes stores kept p.bank x r q.bank → (a : Result Detail Fault) → a ≡ answer r → log_state q ≡ log_state p → CallGoes p (answer x.0, model (log_state p) x.1) a q
  moved_goes p q r x answer c a said log =
      (said ∙ ap answer c.0, same_model _ _ _ _ log c.1, c.2)

  made_goes : (p q : Log B) (groups spares : ℕ) (r : Result ℕ Fault) → making p.ledger.tables (count p.bank) (means p.bank) groups spares ≡ made_as r q.ledger.tables → q.running ≡ p.running → q.bank ≡ p.bank → (a : Result Detail Fault) → a ≡ shown Pages r → CallGoes p (run_model (values p) (Make groups spares)) a q
  made_goes p q groups spares r made running bank a said =
      let v = p.ledger.tables in
      let row = stores p.bank in
      let by_count = ap (λ c. making v c (means p.bank) groups spares) (modelled.counts p.bank) in
      let by_means = ap (λ f. making v (length row) f groups spares) (modelled.meant p.bank) in
      let is : made_as r q.ledger.tables ≡ making v (length row) (meanings row) groups spares = sym made ∙ by_count ∙ by_means in
      (said ∙ ap (λ d. shown Pages d.said) is, same_model _ _ _ _ (λ i. log_of (is i).tables (running i).0) (ap stores bank), ap kept bank)

  pub call_goes : (p : Log B) (call : Call) (a : Result Detail Fault) (q : Log B) → CallRuns count means steps falls backs p call a q → CallGoes p (run_model (values p) call) a q
  call_goes p (Out page value) a q (r, ends, said) =
      let rule = pageout (log_state p) page (page_of value) in
      told_goes p q r (exec rule (stores p.bank)) (ends_as steps stores kept modelled.asks rule p.bank (told r (log_state q)) q.bank ends) a said
  call_goes p (In page) a q (r, ends, said, tables) =
      let rule = pagein (log_state p) page page_size in
      moved_goes p q r (exec rule (stores p.bank)) first_byte (ends_as steps stores kept modelled.asks rule p.bank r q.bank ends) a said tables
  call_goes p (Free page) a q (r, ends, said) =
      let rule = free (log_state p) page in
      told_goes p q r (exec rule (stores p.bank)) (ends_as steps stores kept modelled.asks rule p.bank (told r (log_state q)) q.bank ends) a said
  call_goes p (Make groups spares) a q (r, made, running, bank, said) = made_goes p q groups spares r made running bank a said
  call_goes p (Fall server) a q (r, hands, said, tables) =
      moved_goes p q r (handed p.ledger.tables.shape (stores p.bank) (felled (stores p.bank) server)) done (hands_as stores kept falls _ _ modelled.felled p.ledger.tables.shape p.bank server r q.bank hands) a said tables
  call_goes p (Back server) a q (r, hands, said, tables) =
      moved_goes p q r (handed p.ledger.tables.shape (stores p.bank) (brought_back (stores p.bank) server)) done (hands_as stores kept backs _ _ modelled.brought_back p.ledger.tables.shape p.bank server r q.bank hands) a said tables
  call_goes p (Rebuild server) a q (ends, tables) =
      let rule = rebuild (log_state p) server in
      moved_goes p q a (exec rule (stores p.bank)) (λ x. x) (ends_as steps stores kept modelled.asks rule p.bank a q.bank ends) a refl tables
