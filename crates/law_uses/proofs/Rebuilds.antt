-- A rebuild's turns joined, and what a server is once it was brought back.
use Rattle.std.proofs.Common.{◌≡◌, ℕ, ◌+◌, ◌<◌, ◌≤◌, Bool, true, false, List, [], ◌∷◌, ◌++◌, Ok, Some, None, Option, IfSome, MatchOption, Result, Bor, length, get_or, slice_get, refl, sym, ap, ◌∙◌, subst, inl, inr, ⊎_elim}
use Rattle.std.proofs.lemmas.Bool.{cases_lt}
use Rattle.std.proofs.lemmas.Option.{slice_get_past, slice_get_read}
use Rattle.std.specs.Option.{option_copied}
use Rattle.std.specs.Result.{result_and}
use Rattle.page.specs.declared.faults.Fault.{Fault}
use Rattle.server.specs.Meaning.{Meaning}
use Rattle.server.specs.Pulls.{Backs}
use Rattle.parity_log.specs.declared.records.Progress.{Progress}
use Rattle.parity_log.specs.declared.records.Shape.{Shape}
use Rattle.parity_log.specs.Tables.{within}
use Rattle.law.specs.Law.{Thread, ended, between, stepping}
use Rattle.law.specs.Rows.{Row}
use Rattle.law.specs.Runs.{Moment, Turn, Run, pages_out, returns, steps}
use Rattle.pager.specs.Moments.{AtMost, Turns}
use Rattle.pager.specs.Pulls.{HandsOn, Meets}
use Rattle.law_uses.specs.declared.restoring.Pageout.{Pageout}
use Rattle.law_uses.specs.declared.restoring.Restoration.{Restoration}
use Rattle.law_uses.specs.Restoring.{PagesOut, AdvancesOnce, Advances, no_steps, one_more, Repaired, Restored}

run_joined : (ts us : List Turn) (m n o : Moment) → Run m ts n → Run n us o → Run m (ts ++ us) o
run_joined [] us m n o h i = subst (λ (x : Moment). Run x us o) h i
run_joined (t ∷ ts) us m n o h i = (h.0, h.1, run_joined ts us h.0 n o h.2 i)

thread_joined : {j k l : Progress} {ts us : List Turn} → Thread j ts k → Thread k us l → Thread j (ts ++ us) l
thread_joined ended i = i
thread_joined (between h) i = between (thread_joined h i)
thread_joined (stepping h) i = stepping (thread_joined h i)

-- turns from one moment to another, among which the steps of one job lead it so far
pub record Threaded (m : Moment) (j : Progress) (n : Moment) (k : Progress) : Type 0 where
  pub turns : List Turn
  pub run : Run m turns n
  pub thread : Thread j turns k

nothing_yet : (m : Moment) (j : Progress) → Threaded m j m j
nothing_yet m j = record { turns = []; run = refl; thread = ended }

joined : (m n o : Moment) (j k l : Progress) → Threaded m j n k → Threaded n k o l → Threaded m j o l
joined m n o j k l h i = record { turns = h.turns ++ i.turns; run = run_joined h.turns i.turns m n o h.run i.run; thread = thread_joined h.thread i.thread }

stepped : (m n : Moment) (j k : Progress) (a : Result (Unit {0}) Fault) → Turns m (λ fs. steps j a k fs) n → Threaded m j n k
stepped m n j k a t = record { turns = steps j a k t.0 ∷ []; run = (n, t.1, refl); thread = stepping ended }

-- beside the steps, a pageout, or none
beside : (m n : Moment) (j : Progress) (p : Option Pageout) (a : Result (Unit {0}) Fault) → PagesOut m p a n → Threaded m j n j
beside m n j None a h = subst (λ (x : Moment). Threaded m j x j) (sym h.1) (nothing_yet m j)
beside m n j (Some p) a h = record { turns = pages_out p.page p.bytes.0 a h.0 ∷ []; run = (n, h.1, refl); thread = between ended }

-- so many steps with their pageouts are such turns
pub threaded : {m n : Moment} {j k : Progress} {ps : List Pageout} {i : ℕ} {a : Result (Unit {0}) Fault} → Advances m j ps i n k a → Threaded m j n k
threaded no_steps = nothing_yet _ _
threaded (one_more h once) = joined _ _ _ _ _ _ (threaded h) (joined _ once.between _ _ _ _ (stepped _ once.between _ _ once.said once.step) (beside once.between _ _ _ _ once.pageout))

-- what a slice's get delivers, its item there if there is one
pub copied-get : (ps : List Pageout) (i : ℕ) (HoldsThere : Bor Pageout → Type 0) (o : Option (Bor Pageout)) → MatchOption o (length ps ≤ i) (λ p. (i < length ps) × HoldsThere p) → IfSome o (λ p. p.now ≡ get_or ps i p.now) → option_copied o ≡ slice_get ps i
copied-get ps i HoldsThere None past read = sym (slice_get_past ps i past)
copied-get ps i HoldsThere (Some p) here read = sym (slice_get_read ps (length ps) i p.now refl here.0 read)

-- so many steps, and one more
pub advanced : {m n o : Moment} {j k l : Progress} {ps : List Pageout} {i : ℕ} {a b c : Result (Unit {0}) Fault} {p : Option Pageout} → Advances m j ps i n k a → AdvancesOnce n k p o l b → p ≡ slice_get ps i → c ≡ result_and a b → Advances m j ps (i + 1) o l c
advanced {m} {n} {o} {j} {k} {l} {ps} {i} {a} {b} h once next first = subst (λ (x : Result (Unit {0}) Fault). Advances m j ps (i + 1) o l x) (sym first) (one_more h (subst (λ (x : Option Pageout). AdvancesOnce n k x o l b) next once))

-- of server x, by a done back
pub record BroughtBack (x : ℕ) (servers : ℕ) (before after : Row) : Type 0 where
  pub there : x < servers
  pub up : (after x).up ≡ true
  pub era : (after x).era ≡ (before x).era

module _ {B : Type 0} (count : B → ℕ) (means : B → ℕ → Meaning) (b e : B) (x : ℕ) where
  is_back : (a : Result (Unit {0}) Fault) → a ≡ Ok tt → x < count b → Backs (means b x) a (means e x) → BroughtBack x (count b) (means b) (means e)
  is_back a done there r = go (means b x).up refl
    where
      go : (u : Bool) → (means b x).up ≡ u → BroughtBack x (count b) (means b) (means e)
      go true u = let same = (r.up u).1 in record { there = there; up = ap (λ (m : Meaning). m.up) same ∙ u; era = ap (λ (m : Meaning). m.era) same }
      go false u = ⊎_elim (λ came. record { there = there; up = came.1.0; era = came.1.1 }) (λ worn. let same = worn.0.1 in cc) (r.down u)

  pub done_back : (s : Shape) (u : Unit {0}) → HandsOn (Meets count means Backs) s b x (Ok u) e → BroughtBack x (count b) (means b) (means e)
  done_back s u hands = go (within s) refl
    where
      go : (w : Bool) → within s ≡ w → BroughtBack x (count b) (means b) (means e)
      go true w = let moved = hands.made w in ⊎_elim (λ here. is_back (Ok u) refl here (moved.here here)) (λ past. let no = (moved.past past).0 in cc) (cases_lt x (count b))
      go false w = let no = (hands.not_made w).0 in cc

-- a run goes on with at most one turn
goes_on : (us : List Turn) (t : Turn) (w m n : Moment) → Run w us m → AtMost m t n → (vs : List Turn) × Run w vs n
goes_on us t w m n run (inl same) = (us, subst (λ (x : Moment). Run w us x) (sym same) run)
goes_on us t w m n run (inr happens) = (us ++ (t ∷ []), run_joined us (t ∷ []) w m n run (n, happens, refl))

pub repaired : (x groups : ℕ) (ps : List Pageout) (m n : Moment) (r : Restoration) → Restored x groups ps m n r → Repaired x m n r.counts
repaired x groups ps m n r restored start well ts us lawful to_well healthy run only visited kept =
    let on = goes_on us (returns x) well m restored.begun run restored.came_back in
    lawful.a_rebuild_restores_all ts on.0 well restored.begun n x to_well healthy on.1 (restored.rebuilt visited kept) only
