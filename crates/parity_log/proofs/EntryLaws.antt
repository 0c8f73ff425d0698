-- What one entry of the tables says of live positions, and what its change makes of them.
use Rattle.std.proofs.Common.{◌≡◌, ℕ, zero, suc, ◌+◌, ◌<◌, ◌≤◌, true, ◌⊎◌, List, [], ◌∷◌, length, get_or, set, replicate, is_some, Some, None, Option, sym, refl, ap, ◌∙◌, subst, inl, inr, ⊎_elim, arith, get_or-set_other, get_or-set_same}
use Rattle.std.proofs.lemmas.Bool.{cond_both, cases_eq, false≢true}
use Rattle.parity_log.specs.declared.records.PageState.{PageState}
use Rattle.parity_log.specs.declared.records.PageState.TheVariants.{NotOut, Out}
use Rattle.parity_log.specs.Tables.{names, page_from, page_at, live_count, group_of}
use Rattle.parity_log.proofs.NamesLaws.{names_out, out_names}
use Rattle.parity_log.proofs.CountLaws.{count_kept, count_one}

pub some_from : (o : Option ℕ) → is_some o ≡ true → (k : ℕ) × (o ≡ Some k)
some_from None e = absurd (false≢true e)
some_from (Some k) e = (k, refl)

none_from : (o : Option ℕ) → ((k : ℕ) → o ≡ Some k → ⊥) → o ≡ None
none_from None h = refl
none_from (Some k) h = absurd (h k refl)

out_from : (n : ℕ) (xs : List PageState) (g i p : ℕ) → page_from n xs g i ≡ Some p → (q : ℕ) × (n + q ≡ p) × (get_or xs q NotOut ≡ Out g i)
out_from n [] g i p e = absurd (cc)
out_from n (x ∷ xs) g i p e = cond_both (names x g i) (Some n) (page_from (n + 1) xs g i) (λ o. o ≡ Some p → (q : ℕ) × (n + q ≡ p) × (get_or (x ∷ xs) q NotOut ≡ Out g i))
    (λ t z. let same : n ≡ p = cc in (0, omega arith, names_out x g i t))
    (λ _ z. let r = out_from (n + 1) xs g i p z in (suc r.0, omega (arith, r.1), r.2)) e

named_from : (n : ℕ) (xs : List PageState) (g i q : ℕ) → get_or xs q NotOut ≡ Out g i → is_some (page_from n xs g i) ≡ true
named_from n [] g i q e = absurd (cc)
named_from n (x ∷ xs) g i zero e = rw (out_names x g i e) refl
named_from n (x ∷ xs) g i (suc q) e = cond_both (names x g i) (Some n) (page_from (n + 1) xs g i) (λ o. is_some o ≡ true) (λ _. refl) (λ _. named_from (n + 1) xs g i q e)

module _ (xs : List PageState) (g i : ℕ) where
  -- the page that is named at a position is out there
  pub at_out : (p : ℕ) → page_at xs g i ≡ Some p → get_or xs p NotOut ≡ Out g i
  unfolding page_at
  at_out p e = let r = out_from 0 xs g i p e in let same : r.0 ≡ p = omega (arith, r.1) in subst (λ q. get_or xs q NotOut ≡ Out g i) same r.2

  -- where a page is out, one is named
  pub out_at : (p : ℕ) → get_or xs p NotOut ≡ Out g i → is_some (page_at xs g i) ≡ true
  unfolding page_at
  out_at p e = named_from 0 xs g i p e

  pub live_at : is_some (page_at xs g i) ≡ true → (p : ℕ) × (get_or xs p NotOut ≡ Out g i)
  live_at t = let r = some_from (page_at xs g i) t in (r.0, at_out r.0 r.1)

  pub none_out : (p : ℕ) → page_at xs g i ≡ None → get_or xs p NotOut ≡ Out g i → ⊥
  none_out p n e = false≢true (ap is_some (sym n) ∙ out_at p e)

  pub none_at : ((p : ℕ) → get_or xs p NotOut ≡ Out g i → ⊥) → page_at xs g i ≡ None
  none_at h = none_from (page_at xs g i) (λ p e. h p (at_out p e))

  -- a group that a page is out at has a live position
  pub live_out : (n p : ℕ) → i < n → get_or xs p NotOut ≡ Out g i → 1 ≤ live_count xs n g
  unfolding live_count
  live_out n p l e = count_one (λ k. is_some (page_at xs g k)) n i l (out_at p e)

-- all entries alike
pub alike : {X : Type 0} (d : X) (n k : ℕ) → get_or (replicate n d) k d ≡ d
alike d zero k = refl
alike d (suc n) zero = refl
alike d (suc n) (suc k) = alike d n k

-- an entry changed, and the others
module _ {X : Type 0} (d : X) (xs : List X) (p : ℕ) (s : X) where
  pub entry_now : p < length xs → get_or (set xs p s) p d ≡ s
  entry_now l = rw get_or-set_same

  pub entry_other : (q : ℕ) → (q ≡ p → ⊥) → get_or (set xs p s) q d ≡ get_or xs q d
  entry_other q ne = get_or-set_other xs p q s d ne

  -- an entry is the new one, or as it was
  pub entry_cases : p < length xs → (q : ℕ) (x : X) → get_or (set xs p s) q d ≡ x → ((q ≡ p) × (s ≡ x)) ⊎ ((q ≡ p → ⊥) × (get_or xs q d ≡ x))
  entry_cases l q x e = ⊎_elim (λ same. inl (same, sym (entry_now l) ∙ ap (λ k. get_or (set xs p s) k d) (sym same) ∙ e)) (λ ne. inr (ne, sym (entry_other q ne) ∙ e)) (cases_eq q p)

-- a group that the page was not out at keeps its live positions
pub live_kept : (xs : List PageState) (p : ℕ) (s : PageState) (n g : ℕ) → (group_of (get_or xs p NotOut) ≡ Some g → ⊥) → live_count xs n g ≤ live_count (set xs p s) n g
unfolding live_count
live_kept xs p s n g ne = count_kept (λ i. is_some (page_at xs g i)) (λ i. is_some (page_at (set xs p s) g i)) 0 n (λ i _ _ t.
    let r = live_at xs g i t in
    out_at (set xs p s) g i r.0 (entry_other NotOut xs p s r.0 (λ e. ne (ap group_of (ap (λ k. get_or xs k NotOut) (sym e) ∙ r.1))) ∙ r.1))
