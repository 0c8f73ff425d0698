-- The ways through a making.
use Rattle.std.proofs.Common.{◌≡◌, ℕ, zero, suc, ◌+◌, ◌-◌, ◌<◌, ◌≤◌, Bool, true, false, cond, leb, map, Some, None, Ok, sym, refl, ap, ◌∙◌, subst, ap₂, ⊎_elim, true≢false, arith}
use Rattle.std.specs.List.{range_with_len, list_all}
use Rattle.std.proofs.lemmas.Bool.{cases_eq, and_parts, leb-true}
use Rattle.server.specs.Meaning.{Meaning}
use Rattle.parity_log.specs.declared.ledger.Ledger.{Ledger}
use Rattle.parity_log.specs.declared.records.Shape.{Shape}
use Rattle.parity_log.specs.declared.records.Tables.{Tables}
use Rattle.parity_log.specs.Linked.{Linked}
use Rattle.parity_log.specs.LogState.{LogState, log_of}
use Rattle.parity_log.specs.Order.{Limited, Order}
use Rattle.parity_log.specs.Tables.{within, accepts, capacity, initial}
use Rattle.parity_log.proofs.Bounds.{shape_bounds}
use Rattle.parity_log.proofs.OpeningLaws.{initial_log, initial_log_settled}
use Rattle.law.specs.Law.{Lawful}
use Rattle.law.proofs.Lawful.{Ready, lawful}
use Rattle.bank.specs.Rows.{RowRule, Rowed}
use Rattle.parity_log.specs.Making.{sizes, over_all, decided, made_as, made_with, making}
use Rattle.pager.specs.declared.log.Log.{Log}
use Rattle.pager.specs.Order.{Fitted, Ordered}

-- each of a list that passed is large enough
pass_each : (f : ℕ → ℕ) (g a n : ℕ) → list_all (leb g) (map f (range_with_len a n)) ≡ true → (k : ℕ) → a ≤ k → k < a + n → g ≤ f k
pass_each f g a zero h k from below = absurd (omega arith)
pass_each f g a (suc n) h k from below =
    let both = and_parts (leb g (f a)) (list_all (leb g) (map f (range_with_len (a + 1) n))) h in
    ⊎_elim (λ same. subst (λ (j : ℕ). g ≤ f j) (sym same) (leb-true g (f a) both.0)) (λ other. pass_each f g (a + 1) n both.1 k (omega arith) (omega arith)) (cases_eq k a)

-- nothing is decided where there is a shape already
pub not_twice : (v : Tables) (count : ℕ) (means : ℕ → Meaning) (g q : ℕ) → within v.shape ≡ true → None ≡ decided v count means g q
not_twice v count means g q has = rw has refl

-- a shape is decided where there is none yet; it is the one over all servers, and they can have it
decided_is : (v : Tables) (count : ℕ) (means : ℕ → Meaning) (g q : ℕ) (s : Shape) → Some s ≡ decided v count means g q → (within v.shape ≡ false) × (s ≡ over_all count g q) × (accepts s (sizes count means) ≡ true)
decided_is v count means g q s e = go (within v.shape) (accepts (over_all count g q) (sizes count means)) refl refl e
  where
    go : (x y : Bool) → within v.shape ≡ x → accepts (over_all count g q) (sizes count means) ≡ y → Some s ≡ cond x None (cond y (Some (over_all count g q)) None)
        → (within v.shape ≡ false) × (s ≡ over_all count g q) × (accepts s (sizes count means) ≡ true)
    go true y w a z = let n : ◌≡◌ {A = ℕ} 0 1 = cc in absurd (omega arith)
    go false true w a z = let same : s ≡ over_all count g q = cc in (w, same, ap (λ (t : Shape). accepts t (sizes count means)) same ∙ a)
    go false false w a z = let n : ◌≡◌ {A = ℕ} 0 1 = cc in absurd (omega arith)

module _ (v : Tables) (count : ℕ) (means : ℕ → Meaning) (g q : ℕ) (s : Shape) (e : Some s ≡ decided v count means g q) where
  pub decided_within : within s ≡ true
  decided_within = (and_parts (within s) (list_all (leb s.groups) (sizes count means)) (decided_is v count means g q s e).2).0

  pub making_is : (r : ℕ) (w : Tables) → r ≡ capacity s → w ≡ initial s → making v count means g q ≡ made_as (Ok r) w
  making_is r w said tables = ap (made_with v) (sym e) ∙ ap₂ (λ (n : ℕ) (t : Tables). made_as (Ok n) t) (sym said) (sym tables)

module _ {B : Type 0} (count : B → ℕ) (means : B → ℕ → Meaning) (b : B) (v : Tables) (g q : ℕ) (s : Shape) (e : Some s ≡ decided v (count b) (means b) g q) where
  pub decided_fitted : Fitted count means s b
  decided_fitted =
      let is = decided_is v (count b) (means b) g q s e in
      let both = and_parts (within s) (list_all (leb s.groups) (sizes (count b) (means b))) is.2 in
      let bounds = shape_bounds s both.0 in
      let last : s.servers ≡ count b - 1 = ap (λ (t : Shape). t.servers) is.1 in
      record { servers = omega arith; sizes = λ k l. pass_each (λ j. (means b j).size) s.groups 0 (count b) both.1 k (omega arith) (omega arith) }

module _ {B : Type 0} (count : B → ℕ) (means : B → ℕ → Meaning) (p : Log B) (ordered : Ordered count means p) (g q : ℕ) (s : Shape) (e : Some s ≡ decided p.ledger.tables (count p.bank) (means p.bank) g q) where
  -- the running parity of a pager that was not made is zero, and a making leaves it
  made_log : (l : Ledger) → l.tables ≡ initial s → log_of l.tables p.running.0 ≡ initial_log s
  made_log l is = ap₂ log_of is (ap (λ (k : LogState). k.running) (ordered.log.not_made (decided_is p.ledger.tables (count p.bank) (means p.bank) g q s e).0))

  can_be : within s ≡ true
  can_be = decided_within p.ledger.tables (count p.bank) (means p.bank) g q s e

  pub made_ordered : (l : Ledger) (few : Limited l.tables) (linked : Linked l) → l.tables ≡ initial s → Ordered count means (record { running = p.running; ledger = l; bank = p.bank; limited = few; linked = linked })
  made_ordered l few linked is = record {
    log = subst Order (sym (made_log l is)) (record { made = λ _. initial_log_settled s can_be; not_made = λ cannot. absurd (true≢false (sym can_be ∙ cannot)) });
    fitted = λ _. subst (λ (t : Tables). Fitted count means t.shape p.bank) (sym is) (decided_fitted count means p.bank p.ledger.tables g q s e);
  }

  -- every run from a pager just made is lawful
  pub made_lawful : (steps : RowRule B) (laws : Rowed count means steps) (l : Ledger) → l.tables ≡ initial s → Lawful (record { log = log_of l.tables p.running.0; servers = count p.bank; row = means p.bank })
  made_lawful steps laws l is =
      let b = p.bank in
      let fits = decided_fitted count means b p.ledger.tables g q s e in
      let ready : Ready s (means b) = record { shape = can_be; sound = λ k le. laws.sound b k (omega (arith, fits.servers)); room = fits.sizes } in
      subst (λ (k : LogState). Lawful (record { log = k; servers = count b; row = means b })) (sym (made_log l is)) (subst (λ (n : ℕ). Lawful (record { log = initial_log s; servers = n; row = means b })) (sym fits.servers) (lawful s (means b) ready))
