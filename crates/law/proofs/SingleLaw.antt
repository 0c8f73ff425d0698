-- One server may fail, and every other keeps its era: then no page is refused as lost.
use Rattle.std.proofs.Common.{◌≡◌, ℕ, ◌<◌, ◌⊎◌, List, Err, sym, ◌∙◌, inl, inr, arith}
use Rattle.page.specs.declared.faults.Fault.{Fault}
use Rattle.page.specs.declared.faults.Refusal.TheVariants.{Lost}
use Rattle.server.specs.Meaning.{Held, nothing}
use Rattle.parity_log.specs.Reading.{Finding}
use Rattle.law.specs.Rows.{Row}
use Rattle.law.specs.Book.{has, Book}
use Rattle.law.specs.Law.{Healthy, OnlyAt, PagedOut}
use Rattle.law.specs.Runs.{Moment, Turn, pages_out, pages_in, Happens, Run, book_from, last_from}
use Rattle.law.proofs.Mode.{GroupOk}
use Rattle.law.proofs.ReadLaws.{held_is}
use Rattle.law.proofs.Invariant.{Last}
use Rattle.law.proofs.PageinLaw.{pagein_law}
use Rattle.law.proofs.PageoutLaw.{pageout_law}
use Rattle.law.proofs.RunLaws.{Setting, mode_of, Between, Calmly, quietly, run_law, turn_era, run_era, run_servers}
use Rattle.law.proofs.CalmLaws.{Unlost, has_unlost, run_unlost, since_unlost}

module _ (n groups : ℕ) where
  -- any server may lose
  abbrev pub Any : Setting
  Any = record { servers = n; groups = groups; calm = λ k. ⊥; may = λ g k. Unit {0}; may_lose = λ g k _. tt; finds = Unit {0}; two_finds = λ g i k _ _ _. tt }

  module _ (x : ℕ) where
    pub only_one : (i k : ℕ) → ((i ≡ x → ⊥) → ⊥) → ((k ≡ x → ⊥) → ⊥) → (k ≡ i → ⊥) → ⊥
    only_one i k hi hk ne = hi (λ y. hk (λ z. ne (z ∙ sym y)))

    -- only the server x may lose, and only its members may be missing
    abbrev pub Single : Setting
    Single = record { servers = n; groups = groups; calm = λ k. k ≡ x → ⊥; may = λ g k. (k ≡ x → ⊥) → ⊥; may_lose = λ g k h. h; finds = ⊥; two_finds = λ g i k. only_one i k }

    -- a member that is not missing holds what it ought to, whatever may be
    whole_group : (Y Z : ℕ → Type 0) (m : ℕ) (p : List ℕ) (c : ℕ → List ℕ) (h : ℕ → Held) → ((k : ℕ) → (k < m) × (h k ≡ nothing) → ⊥) → GroupOk Y m p c h → GroupOk Z m p c h
    whole_group Y Z m p c h none o = record { kept_whole = o.kept_whole; whole = o.whole; balanced = o.balanced; true_held = λ k l. inl (held_is _ (c k) (h k) (o.true_held k l) (λ y. none k (l, y))) }

    pub healthy_single : (m : Moment) (k : Book) (l : Last) → Healthy m → Between Any m k l → Between Single m k l
    healthy_single m k l well at =
        let inv = at.ok.1 in
        let same = at.servers in
        record {
          servers = same;
          settled = at.settled;
          ok = (
            at.ok.0,
            record {
              holds = record {
                servers = inv.holds.servers;
                groups = inv.holds.groups;
                fit = λ j lt. record { sound = (inv.holds.fit j lt).sound; up = λ _. well.up j (omega arith); room = (inv.holds.fit j lt).room };
                group = λ g. whole_group _ _ _ _ _ _ (well.whole g) (inv.holds.group g);
              };
              pages = inv.pages;
            },
          );
        }

    module _ (m : Moment) (k : Book) (l : Last) (well : Healthy m) (at : Between Any m k l) (us : List Turn) (o r : Moment) (run : Run m us o) (t : Turn) (turn : Happens o t r) (only : OnlyAt x m r) where
      same : m.servers ≡ n
      same = at.servers

      before : Calmly Single m.row o.row
      before j lt ne = omega (arith, only j (omega arith) ne, turn_era o r t turn j (omega (arith, run_servers us m o run)))

      during : Calmly Single o.row r.row
      during j lt ne = omega (arith, only j (omega arith) ne, run_era us m o run j (omega arith))

      single : Between Single m k l
      single = healthy_single m k l well at

      then : Between Single o (book_from k us) (λ q. last_from q (l q) us)
      then = run_law Single us m o k l single run before

      pub no_pageout_lost : (p : ℕ) (y : List ℕ) (f : Fault) (fs : List (Finding × Row)) → t ≡ pages_out p y (Err f) fs → f.refusal ≡ Lost → ⊥
      no_pageout_lost p y f fs is as_lost =
          let h = rw is at turn in
          elim (pageout_law (mode_of Single) o.log o.row _ _ then.ok.0 p y then.ok.1 then.settled fs _ r.row (quietly Single o _ _ then _ fs _ r.row h.goes during)).news [
            | inl z ↦ z.1 as_lost
            | inr z ↦ z
          ]

      pub no_pagein_lost : (p len : ℕ) (f : Fault) (fs : List (Finding × Row)) → t ≡ pages_in p len (Err f) fs → Unlost (book_from k us) p → f.refusal ≡ Lost → ⊥
      no_pagein_lost p len f fs is unlost as_lost =
          let h = rw is at turn in
          elim ((pagein_law (mode_of Single) o.log o.row _ _ then.ok.0 p then.ok.1 then.settled.tables.sound len fs (Err f) r.row (quietly Single o _ _ then _ fs _ r.row h.goes.0 during)).said.0 as_lost).4 [
            | inl z ↦ unlost z
            | inr z ↦ z
          ]

      -- a page that had bytes, or was paged out since, is not booked as lost
      pub still_booked : (p : ℕ) (y : List ℕ) → (k p ≡ has y) ⊎ PagedOut p us → Unlost (book_from k us) p
      still_booked p y (inl is) = run_unlost Single (λ z. z) us m o k l single run before p (λ z. has_unlost y (sym is ∙ z))
      still_booked p y (inr out) = since_unlost Single (λ z. z) p us m o k l single run before out
