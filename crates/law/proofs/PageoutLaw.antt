-- A pageout keeps what holds.
use Rattle.std.proofs.Common.{◌≡◌, ℕ, ◌<◌, ◌⊎◌, List, [], ◌++◌, length, Some, None, Option, Result, refl, inl, inr}
use Rattle.page.specs.declared.faults.Fault.{Fault}
use Rattle.parity_log.specs.LogState.{LogState}
use Rattle.parity_log.specs.Tables.{capacity, page_state, group_of}
use Rattle.parity_log.specs.Choices.{open_group}
use Rattle.parity_log.specs.Faults.{objection}
use Rattle.parity_log.specs.Order.{SettledLog}
use Rattle.parity_log.specs.Paging.{Told, place, release_old, close_full, with_open, ending, steps, pageout_unless, pageout}
use Rattle.parity_log.specs.Reading.{Finding}
use Rattle.parity_log.specs.Rule.{◌>>=◌, Runs}
use Rattle.law.specs.Rows.{Row}
use Rattle.law.specs.Book.{has, Book}
use Rattle.law.proofs.RuleLaws.{through}
use Rattle.law.proofs.Invariant.{Last, Inv}
use Rattle.law.proofs.FaultLaws.{Objects, objects}
use Rattle.law.proofs.FreeLaw.{News, Ended, objected}
use Rattle.law.proofs.PlaceLaws.{in_law}
use Rattle.law.proofs.CleaningLaw.{found-++, latest-++, open_law}
use Rattle.law.proofs.Mode.{Mode, Whole}

module _ (M : Mode) where
  more_news : (a : Result (Unit {0}) Fault) (ms ns : List (Finding × Row)) → (ms ≡ []) ⊎ M.finds → News M a ns → News M a (ms ++ ns)
  more_news a ms ns (inl e) (inl f) = inl (rw e f.0, f.1)
  more_news a ms ns (inl e) (inr f) = inr f
  more_news a ms ns (inr e) f = inr e

  module _ (v : LogState) (b : Row) (k : Book) (l : Last) (c : ℕ → ℕ → List ℕ) (p : ℕ) (x : List ℕ) (inv : Inv M v b k l c) (settled : SettledLog v) where
    steps_law : p < capacity v.tables.shape → Whole x → (ns : List (Finding × Row)) (r : Told) (e : Row) → Runs M.steps (steps v p x) b ns r e → Ended M p (has x) k l ns r e
    unfolding steps
    steps_law lt hx ns r e run =
        through M.steps (with_open v (open_group v.tables)) (λ o. place o.log o.group p x >>= λ t. release_old (group_of (page_state o.log.tables p)) t.log >>= λ w. close_full w o.group >>= λ u. ending u p o.group o.log.tables.filled t.done) b ns r e run λ o m ns₁ ns₂ first second notes.
        let open_now = open_law M v b k l c inv settled (open_group v.tables) refl ns₁ o m first in
        let low : p < capacity o.log.tables.shape = rw open_now.shape lt in
        let end = in_law M o.log m _ _ open_now.ok.0 p x o.group open_now.ok.1 open_now.settled open_now.now low hx ns₂ r e second in
        rw notes (record {
          settled = end.settled;
          ok = simp (found-++, latest-++) end.ok;
          said = simp latest-++ end.said;
          news = more_news r.said ns₁ ns₂ open_now.news end.news;
        })

    unless_law : (o : Option Fault) → Objects v.tables p (length x) o → (ns : List (Finding × Row)) (r : Told) (e : Row) → Runs M.steps (pageout_unless o v p x) b ns r e → Ended M p (has x) k l ns r e
    unless_law (Some f) plain ns r e (y, z, w) = rw (y, z, w) (objected M v b k l c p (has x) f settled inv plain)
    unless_law None fine ns r e run = steps_law fine.1 fine.2 ns r e run

    pub pageout_law : (ns : List (Finding × Row)) (r : Told) (e : Row) → Runs M.steps (pageout v p x) b ns r e → Ended M p (has x) k l ns r e
    unfolding pageout
    pageout_law = unless_law (objection v.tables p (length x)) (objects v.tables p (length x))
