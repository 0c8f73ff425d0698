-- A page that is paged out and then delivered is delivered as it was, by the law alone; and a refusal that is handed up.
use Rattle.std.proofs.Common.{◌≡◌, ℕ, List, [], ◌∷◌, IfOk, Ok, Err, Result, refl, sym, subst, ap, ◌∙◌}
use Rattle.page.specs.declared.faults.Fault.{Fault}
use Rattle.server.specs.Calls.{filled}
use Rattle.law.specs.Book.{has}
use Rattle.law.specs.Law.{Lawful}
use Rattle.law.specs.Runs.{Moment, Happens, makes, pages_out, pages_in}
use Rattle.pager.specs.Moments.{Turns}
use Rattle.law_uses.specs.ReadingBack.{WritesThenReads, make_refused, pageout_refused}

pub reads_back : (m n o : Moment) (len : ℕ) (x y : List ℕ) (r : Result (Unit {0}) Fault) → Lawful m → Turns m (λ fs. pages_out 0 x (Ok tt) fs) n → Turns n (λ fs. pages_in 0 len (filled r y) fs) o → IfOk r (λ _. y ≡ x)
reads_back m n o len x y (Ok u) lawful out in' =
    let booked : has x ≡ has y = lawful.delivered_as_booked (pages_out 0 x (Ok tt) out.0 ∷ []) n o 0 len y in'.0 (n, out.1, refl) in'.1 in
    cc
reads_back m n o len x y (Err f) lawful out in' = tt

-- what is handed up is the refusal itself
as_refused : (r : Result (Unit {0}) Fault) (f : Fault) → (z : Fault) × (r ≡ Err z) × (z ≡ f) → r ≡ Err f
as_refused r f handed_up = handed_up.1 ∙ ap Err handed_up.2

module _ {m n : Moment} {x y : List ℕ} {r : Result (Unit {0}) Fault} {f : Fault} (handed_up : (z : Fault) × (r ≡ Err z) × (z ≡ f)) where
  pub refused_at_make : Happens m (makes 3 2 (Err f)) n → WritesThenReads m x y y r n
  refused_at_make made = subst (λ (a : Result (Unit {0}) Fault). WritesThenReads m x y y a n) (sym (as_refused r f handed_up)) (make_refused made)

  pub refused_at_pageout : {o : Moment} {pages : ℕ} → Happens m (makes 3 2 (Ok pages)) o → Turns o (λ fs. pages_out 0 x (Err f) fs) n → WritesThenReads m x y y r n
  refused_at_pageout made out = subst (λ (a : Result (Unit {0}) Fault). WritesThenReads m x y y a n) (sym (as_refused r f handed_up)) (pageout_refused made out)
