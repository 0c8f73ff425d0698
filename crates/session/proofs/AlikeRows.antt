-- Rows whose servers mean the same answer every call alike, and mean the same after it.
use Rattle.std.proofs.Common.{◌≡◌, ℕ, ◌-◌, Bool, true, false, cond, List, [], ◌∷◌, length, map, Ok, Err, Result, ◌==◌, refl, sym, ap, ◌∙◌, subst}
use Rattle.page.specs.Pages.{page_of, page_size}
use Rattle.page.specs.Refusals.{fault_of}
use Rattle.page.specs.declared.faults.Fault.{Fault}
use Rattle.page.specs.declared.faults.Layer.TheVariants.{Log}
use Rattle.page.specs.declared.faults.Refusal.TheVariants.{Shape as BadShape}
use Rattle.server.specs.Calls.{Answer}
use Rattle.bank.specs.Rows.{means_at}
use Rattle.memory.specs.Rule.{after, fallen, revived, says, says_back}
use Rattle.memory.specs.Store.{Store, made, meant, slots}
use Rattle.parity_log.specs.LogState.{LogState, with_tables}
use Rattle.parity_log.specs.Making.{making}
use Rattle.parity_log.specs.Paging.{Told, pageout, free}
use Rattle.parity_log.specs.Reading.{pagein}
use Rattle.parity_log.specs.Rule.{Rule, give, ask, note}
use Rattle.parity_log.specs.Tables.{within}
use Rattle.replay.specs.declared.listing.Detail.{Detail}
use Rattle.replay.specs.declared.listing.Detail.TheVariants.{Pages}
use Rattle.replay.specs.declared.script.Call.{Call}
use Rattle.replay.specs.declared.script.Call.TheVariants.{Out, In, Free, Make, Fall, Back, Rebuild}
use Rattle.session.specs.Calls.{Model, done, first_byte, handed, model, rebuild, run_model, shown}
use Rattle.session.specs.Model.{Row, asked, brought_back, changed_at, exec, felled, meanings, said_at}
use Rattle.session.proofs.Stores.{Alike, alike_after, alike_fallen, alike_made, alike_revived, says_alike, says_back_alike}

abbrev pub RowsAlike : Row → Row → Type 0
RowsAlike [] [] = Unit {0}
RowsAlike [] (y ∷ ys) = ⊥
RowsAlike (x ∷ xs) [] = ⊥
RowsAlike (x ∷ xs) (y ∷ ys) = Alike x y × RowsAlike xs ys

said_alike : {T : Type 0} (word : Store → Result T Fault) → ((x y : Store) → Alike x y → word x ≡ word y) → (xs ys : Row) (i : ℕ) → RowsAlike xs ys → said_at word xs i ≡ said_at word ys i
said_alike word each [] [] i h = refl
said_alike word each [] (y ∷ ys) i h = absurd h
said_alike word each (x ∷ xs) [] i h = absurd h
said_alike word each (x ∷ xs) (y ∷ ys) i h = rw (each x y h.0, said_alike word each xs ys (i - 1) h.1) refl

changed_alike : (change : Store → Store) → ((x y : Store) → Alike x y → Alike (change x) (change y)) → (xs ys : Row) (i : ℕ) → RowsAlike xs ys → RowsAlike (changed_at change xs i) (changed_at change ys i)
changed_alike change each [] [] i h = tt
changed_alike change each [] (y ∷ ys) i h = absurd h
changed_alike change each (x ∷ xs) [] i h = absurd h
changed_alike change each (x ∷ xs) (y ∷ ys) i h = by_test (i == 0) (changed_alike change each xs ys (i - 1) h.1)
  where
    by_test : (b : Bool) → RowsAlike (changed_at change xs (i - 1)) (changed_at change ys (i - 1)) → RowsAlike (cond b (change x ∷ xs) (x ∷ changed_at change xs (i - 1))) (cond b (change y ∷ ys) (y ∷ changed_at change ys (i - 1)))
    by_test true rest = (each x y h.0, h.1)
    by_test false rest = (h.0, rest)

length_alike : (xs ys : Row) → RowsAlike xs ys → length xs ≡ length ys
length_alike [] [] h = refl
length_alike [] (y ∷ ys) h = absurd h
length_alike (x ∷ xs) [] h = absurd h
length_alike (x ∷ xs) (y ∷ ys) h = rw (length_alike xs ys h.1) refl

meanings_alike : (xs ys : Row) → RowsAlike xs ys → meanings xs ≡ meanings ys
meanings_alike [] [] h = refl
meanings_alike [] (y ∷ ys) h = absurd h
meanings_alike (x ∷ xs) [] h = absurd h
meanings_alike (x ∷ xs) (y ∷ ys) h = ap (λ m. means_at m (meanings xs)) h.0.means ∙ ap (means_at (meant y)) (meanings_alike xs ys h.1)

-- what comes of two rows: the same, and rows that are alike
abbrev ComesAlike : {A : Type 0} → A × Row → A × Row → Type 0
ComesAlike r s = (r.0 ≡ s.0) × RowsAlike r.1 s.1

exec_alike : {N A : Type 0} (rule : Rule N A) (xs ys : Row) → RowsAlike xs ys → ComesAlike (exec rule xs) (exec rule ys)
exec_alike (give a) xs ys h = (refl, h)
exec_alike (ask s c k) xs ys h =
    let next = exec_alike (k (asked ys s c).0) (asked xs s c).1 (asked ys s c).1 (changed_alike (λ x. after x c) (λ x y e. alike_after x y e c) xs ys s h) in
    let P : Answer c → Type 0 = λ a. ComesAlike (exec (k a) (asked xs s c).1) (exec (k (asked ys s c).0) (asked ys s c).1) in
    subst P (sym (said_alike (λ x. says x c) (λ x y e. says_alike x y e c) xs ys s h)) next
exec_alike (note n rule) xs ys h = exec_alike rule xs ys h

felled_alike : (xs ys : Row) (i : ℕ) → RowsAlike xs ys → ComesAlike (felled xs i) (felled ys i)
felled_alike xs ys i h = (said_alike (λ _. Ok tt) (λ x y e. refl) xs ys i h, changed_alike fallen alike_fallen xs ys i h)

brought_back_alike : (xs ys : Row) (i : ℕ) → RowsAlike xs ys → ComesAlike (brought_back xs i) (brought_back ys i)
brought_back_alike xs ys i h = (said_alike says_back says_back_alike xs ys i h, changed_alike revived alike_revived xs ys i h)

-- two pagers over such rows
pub record ModelsAlike (m n : Model) : Type 0 where
  pub log : m.log ≡ n.log
  pub rows : RowsAlike m.row n.row

-- a call on two pagers answers the same, and leaves two that are alike
abbrev pub CallsAlike : Result Detail Fault × Model → Result Detail Fault × Model → Type 0
CallsAlike r s = (r.0 ≡ s.0) × ModelsAlike r.1 s.1

told_alike : (r s : Told × Row) → ComesAlike r s → CallsAlike (done r.0.said, model r.0.log r.1) (done s.0.said, model s.0.log s.1)
told_alike r s h = (ap (λ t. done t.said) h.0, record { log = ap (λ t. t.log) h.0; rows = h.1 })

moved_alike : {T : Type 0} (answer : T → Result Detail Fault) (v : LogState) (r s : T × Row) → ComesAlike r s → CallsAlike (answer r.0, model v r.1) (answer s.0, model v s.1)
moved_alike answer v r s h = (ap answer h.0, record { log = refl; rows = h.1 })

handed_alike : (v : LogState) (xs ys : Row) (r s : Result (Unit {0}) Fault × Row) → RowsAlike xs ys → ComesAlike r s → ComesAlike (handed v.tables.shape xs r) (handed v.tables.shape ys s)
handed_alike v xs ys r s h moved = by_shape (within v.tables.shape)
  where
    by_shape : (b : Bool) → ComesAlike (cond b r (Err (fault_of Log BadShape), xs)) (cond b s (Err (fault_of Log BadShape), ys))
    by_shape true = moved
    by_shape false = (refl, h)

run_alike : (v : LogState) (xs ys : Row) (call : Call) → RowsAlike xs ys → CallsAlike (run_model (model v xs) call) (run_model (model v ys) call)
run_alike v xs ys (Out page value) h = told_alike _ _ (exec_alike (pageout v page (page_of value)) xs ys h)
run_alike v xs ys (In page) h = moved_alike first_byte v _ _ (exec_alike (pagein v page page_size) xs ys h)
run_alike v xs ys (Free page) h = told_alike _ _ (exec_alike (free v page) xs ys h)
run_alike v xs ys (Make groups spares) h =
    let same : making v.tables (length xs) (meanings xs) groups spares ≡ making v.tables (length ys) (meanings ys) groups spares =
    ap (λ n. making v.tables n (meanings xs) groups spares) (length_alike xs ys h) ∙ ap (λ f. making v.tables (length ys) f groups spares) (meanings_alike xs ys h)
    in
    (ap (λ d. shown Pages d.said) same, record { log = ap (λ d. with_tables v d.tables) same; rows = h })
run_alike v xs ys (Fall server) h = moved_alike done v _ _ (handed_alike v xs ys _ _ h (felled_alike xs ys server h))
run_alike v xs ys (Back server) h = moved_alike done v _ _ (handed_alike v xs ys _ _ h (brought_back_alike xs ys server h))
run_alike v xs ys (Rebuild server) h = moved_alike (λ a. a) v _ _ (exec_alike (rebuild v server) xs ys h)

pub step_alike : (m n : Model) (call : Call) → ModelsAlike m n → CallsAlike (run_model m call) (run_model n call)
step_alike m n call h =
    let P : LogState → Type 0 = λ v. CallsAlike (run_model m call) (run_model (model v n.row) call) in
    subst P h.log (run_alike m.log m.row n.row call h.rows)

pub made_alike : (lent lent' : List (List ℕ)) → map (λ bytes. slots (made bytes 0)) lent ≡ map (λ bytes. slots (made bytes 0)) lent' → RowsAlike (map (λ bytes. made bytes 0) lent) (map (λ bytes. made bytes 0) lent')
made_alike [] [] same = tt
made_alike [] (b' ∷ lent') same = absurd cc
made_alike (b ∷ lent) [] same = absurd cc
made_alike (b ∷ lent) (b' ∷ lent') same = (alike_made b b' cc, made_alike lent lent' cc)
