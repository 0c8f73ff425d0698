-- A rebuild's steps, one after the other.
use Rattle.std.proofs.Common.{◌≡◌, ℕ, suc, ◌+◌, ◌-◌, ◌<◌, ◌≤◌, Result, Ok, sym, subst, arith}
use Rattle.page.specs.declared.faults.Fault.{Fault}
use Rattle.bank.specs.Rows.{RowRule}
use Rattle.parity_log.specs.declared.records.Progress.{Progress}
use Rattle.parity_log.specs.LogState.{LogState}
use Rattle.parity_log.specs.Rebuilding.{begin, counts, step, stepped}
use Rattle.parity_log.specs.Rule.{Ends, give}
use Rattle.parity_log.proofs.RuleLaws.{Leads, ends_bind, ends_give, leads_bind, leads_give}
use Rattle.replay.specs.declared.listing.Detail.{Detail}
use Rattle.session.specs.Calls.{groups_of, rebuild, rebuild_begun, stepping}

module _ {B : Type 0} (steps : RowRule B) (v : LogState) (first : Progress) (start : B) where
  abbrev pub n : ℕ
  n = v.tables.shape.groups

  -- after k of n steps the job is j and the bank is b
  abbrev pub Come : ℕ → Progress → B → Type 0
  Come k j b = Leads steps (stepping n v first) start (stepping (n - k) v j) b

  pub none_come : Come 0 first start
  none_come =
      let q : n ≡ n - 0 = omega arith in
      let P : ℕ → Type 0 = λ i. Leads steps (stepping n v first) start (stepping i v first) start in
      subst P q (λ r e run. run)

  pub one_more : (k : ℕ) (j : Progress) (b : B) (w : LogState) (a : Result (Unit {0}) Fault) (further : Progress) (m : B) → k < n → w ≡ v → Come k j b → Ends steps (step w j) b (stepped a further) m → Come (k + 1) further m
  one_more k j b w a further m below same come run =
      let q : n - k ≡ suc (n - (k + 1)) = omega (arith, below) in
      let P : ℕ → Type 0 = λ i. Leads steps (stepping n v first) start (stepping i v j) b in
      let R : LogState → Type 0 = λ u. Ends steps (step u j) b (stepped a further) m in
      leads_bind steps (stepping n v first) start b m (step v j) (λ s. stepping (n - (k + 1)) v s.job) (stepped a further) (subst P q come) (subst R same run)

  pub all_come : (k : ℕ) (j : Progress) (b : B) → n ≤ k → Come k j b → Ends steps (stepping n v first) start j b
  all_come k j b past come =
      let q : n - k ≡ 0 = omega (arith, past) in
      let P : ℕ → Type 0 = λ i. Leads steps (stepping n v first) start (stepping i v j) b in
      leads_give steps (stepping n v first) start b j (subst P q come)

  pub closed : (server : ℕ) (k : ℕ) (j : Progress) (b : B) (a : Result Detail Fault) → Ok first ≡ begin v.tables server → n ≤ k → Come k j b → a ≡ Ok (groups_of (counts j)) → Ends steps (rebuild v server) start a b
  closed server k j b a begun past come said =
      let P : Result Progress Fault → Type 0 = λ x. Ends steps (rebuild_begun n v x) start a b in
      let Q : Result Detail Fault → Type 0 = λ x. Ends steps (rebuild_begun n v (Ok first)) start x b in
      subst P begun (subst Q (sym said) (ends_bind steps (stepping n v first) (λ l. give (Ok (groups_of (counts l)))) start b b j (Ok (groups_of (counts j))) (all_come k j b past come) (ends_give steps (Ok (groups_of (counts j))) b)))
