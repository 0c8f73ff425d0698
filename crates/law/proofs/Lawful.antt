-- The law holds of every run from a pager just made.
use Rattle.std.proofs.Common.{◌≡◌, ℕ, ◌+◌, ◌≤◌, true, List, [], ◌∷◌, ◌++◌, None, Ok as Done, Err, Option, Result, refl, arith}
use Rattle.page.specs.declared.faults.Fault.{Fault}
use Rattle.server.specs.Meaning.{Sound}
use Rattle.parity_log.specs.declared.records.Shape.{Shape}
use Rattle.parity_log.specs.Reading.{Finding}
use Rattle.parity_log.specs.Tables.{within}
use Rattle.parity_log.proofs.OpeningLaws.{initial_log, initial_log_settled}
use Rattle.law.specs.Rows.{Row}
use Rattle.law.specs.Book.{nothing, latest}
use Rattle.law.specs.Law.{NothingMissing, Healthy, OnlyAt, SameEras, Rebuilt, Lawful}
use Rattle.law.specs.Runs.{Moment, Turn, pages_out, pages_in, Happens, Run, book, findings, last_from, last_found}
use Rattle.law.proofs.FreeLaw.{LostRight}
use Rattle.law.proofs.FreshLaw.{fresh_inv}
use Rattle.law.proofs.Invariant.{members_on_lem}
use Rattle.law.proofs.PageinLaw.{Answered, pagein_law}
use Rattle.law.proofs.PageoutLaw.{pageout_law}
use Rattle.law.proofs.ReadLaws.{held_may}
use Rattle.law.proofs.RebuildLaw.{restores}
use Rattle.law.proofs.RunLaws.{Setting, mode_of, Between, quietly, run_law, run_era, run_servers}
use Rattle.law.proofs.SingleLaw.{Any, Single, healthy_single, no_pageout_lost, no_pagein_lost, still_booked}

last-++ : (p : ℕ) (ts us : List Turn) (o : Option (Finding × Row)) → last_from p o (ts ++ us) ≡ last_from p (last_from p o ts) us
last-++ p [] us o = refl
last-++ p (t ∷ ts) us o = last-++ p ts us (latest p (findings t) o)

-- servers in good order, with a slot for every group, whatever they hold and whether or not they are up
pub record Ready (s : Shape) (b : Row) : Type 0 where
  pub shape : within s ≡ true
  pub sound : (k : ℕ) → k ≤ s.servers → Sound (b k)
  pub room : (k : ℕ) → k ≤ s.servers → s.groups ≤ (b k).size

-- a pager just made
abbrev pub fresh : Shape → Row → Moment
fresh s b = record { log = initial_log s; servers = s.servers + 1; row = b }

module _ (s : Shape) (b : Row) (ready : Ready s b) where
  abbrev anyone : Setting
  anyone = Any (s.servers + 1) s.groups

  -- after every run
  from_fresh : (ts : List Turn) (m : Moment) → Run (fresh s b) ts m → Between anyone m (book ts) (λ q. last_found q ts)
  from_fresh ts m run = run_law anyone ts (fresh s b) m (λ _. nothing) (λ _. None) begins run (λ j lt y. absurd y)
    where
      begins : Between anyone (fresh s b) (λ _. nothing) (λ _. None)
      begins = record {
        servers = refl;
        settled = initial_log_settled s ready.shape;
        ok = (_, fresh_inv (mode_of anyone) s b (omega arith) (omega arith) (λ k lt. record { sound = ready.sound k (omega arith); up = λ y. absurd y; room = ready.room k (omega arith) }));
      }

  pagein_said : (ts : List Turn) (m o : Moment) (p len : ℕ) (a : Result (List ℕ) Fault) (fs : List (Finding × Row)) → Run (fresh s b) ts m → Happens m (pages_in p len a fs) o → Answered (mode_of anyone) p (book ts) (λ q. latest q fs (last_found q ts)) a
  pagein_said ts m o p len a fs run h = let at = from_fresh ts m run in (pagein_law (mode_of anyone) m.log m.row _ _ at.ok.0 p at.ok.1 at.settled.tables.sound len fs a o.row (quietly anyone m _ _ at _ fs _ o.row h.goes.0 (λ j lt y. absurd y))).said

  pageout_said : (ts : List Turn) (m o : Moment) (p : ℕ) (x : List ℕ) (a : Result (Unit {0}) Fault) (fs : List (Finding × Row)) → Run (fresh s b) ts m → Happens m (pages_out p x a fs) o → LostRight p (λ q. latest q fs (last_found q ts)) a
  pageout_said ts m o p x a fs run h = let at = from_fresh ts m run in (pageout_law (mode_of anyone) m.log m.row _ _ at.ok.0 p x at.ok.1 at.settled fs _ o.row (quietly anyone m _ _ at _ fs _ o.row h.goes (λ j lt y. absurd y))).said

  restored : (ts us : List Turn) (m o r : Moment) (x : ℕ) → Run (fresh s b) ts m → Healthy m → Run m us o → Rebuilt x o r → OnlyAt x m r → NothingMissing r
  restored ts us m o r x run well run' job only =
      let at = from_fresh ts m run in
      let same = at.servers in
      let same' = run_servers us m o run' in
      let S = Single (s.servers + 1) s.groups x in
      let then = run_law S us m o _ _ (healthy_single (s.servers + 1) s.groups x m _ _ well at) run' (λ j lt ne. omega (arith, only j (omega arith) ne, run_era job.turns o r job.run j (omega arith))) in
      restores (s.servers + 1) s.groups x o r _ _ then job (λ j lt ne. omega (arith, only j (omega arith) ne, run_era us m o run' j (omega arith)))

  -- no server was left out, so no member may be missing
  still_whole : (ts us : List Turn) (m o : Moment) → Run (fresh s b) ts m → Healthy m → Run m us o → SameEras m o → NothingMissing o
  still_whole ts us m o run well run' same g q miss =
      let n = s.servers + 1 in
      let at = from_fresh ts m run in
      let count = at.servers in
      let S = Single n s.groups n in
      let then = run_law S us m o _ _ (healthy_single n s.groups n m _ _ well at) run' (λ j lt ne. omega (arith, same j (omega arith))) in
      let inv = then.ok.1 in
      let on = members_on_lem (mode_of S) o.log o.row _ g then.settled.tables.sound inv.holds in
      held_may _ _ _ ((inv.holds.group g).true_held q miss.0) miss.1 (λ y. omega (arith, miss.0))

  pub lawful : Lawful (fresh s b)
  lawful = record {
    delivered_as_booked = λ ts m o p len x fs run h. pagein_said ts m o p len (Done x) fs run h;
    none_only_where_nothing_is_booked = λ ts m o p len f fs run h is. (pagein_said ts m o p len (Err f) fs run h).1 is;
    lost_only_with_two_missing = λ ts m o p len f fs run h is. let r = (pagein_said ts m o p len (Err f) fs run h).0 is in (r.0, r.1, r.2, rw (last-++ p ts (pages_in p len (Err f) fs ∷ []) None) r.3);
    pageout_lost_only_with_two_missing = λ ts m o p x f fs run h is. let r = pageout_said ts m o p x (Err f) fs run h is in (r.0, r.1, r.2, rw (last-++ p ts (pages_out p x (Err f) fs ∷ []) None) r.3);
    one_failing_server_loses_no_pageout = λ ts us m o r x p y f fs run well run' h only is.
        no_pageout_lost (s.servers + 1) s.groups x m (book ts) _ well (from_fresh ts m run) us o r run' (pages_out p y (Err f) fs) h only p y f fs refl is;
    one_failing_server_loses_no_page = λ ts us m o r x p len y f fs run well run' h only booked is.
        let at = from_fresh ts m run in
        let t = pages_in p len (Err f) fs in
        no_pagein_lost (s.servers + 1) s.groups x m (book ts) _ well at us o r run' t h only p len f fs refl (still_booked (s.servers + 1) s.groups x m (book ts) _ well at us o r run' t h only p y booked) is;
    nothing_is_missing_while_eras_stay = still_whole;
    a_rebuild_restores_all = restored;
  }
