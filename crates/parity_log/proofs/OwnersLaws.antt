-- The owners stay tied to the page table when one entry changes.
use Rattle.std.proofs.Common.{◌≡◌, ℕ, zero, suc, ◌+◌, ◌<◌, List, [], length, get_or, set, replicate, Some, None, Option, sym, refl, ap, ◌∙◌}
use Rattle.std.proofs.lemmas.Bool.{cond_both}
use Rattle.std.proofs.lemmas.List.{get_or-replicate}
use Rattle.parity_log.specs.declared.records.PageState.{PageState}
use Rattle.parity_log.specs.declared.records.PageState.TheVariants.{NotOut}
use Rattle.parity_log.specs.Tables.{names, page_from, page_at}
use Rattle.parity_log.specs.Order.{Once}
use Rattle.parity_log.specs.Owners.{owner_at, Tied, Renamed, Unnamed}
use Rattle.parity_log.proofs.NamesLaws.{named_now, named_no_more, named_as_before}

pub tied_set : (xs : List PageState) (p : ℕ) (s : PageState) (os ms ns : List (List (Option ℕ))) → p < length xs → Once xs → Unnamed xs p s → Tied xs os
    → Renamed os (get_or xs p NotOut) None ms → Renamed ms s (Some p) ns → Tied (set xs p s) ns
tied_set xs p s os ms ns l once free tied left moved g i a b = moved g i a b ∙ cond_both (names s g i) (Some p) (owner_at ms g i) (λ o. o ≡ page_at (set xs p s) g i)
    (λ e. sym (named_now xs p s l g i e (λ q ne. free q g i ne e)))
    (λ z. left g i a b ∙ cond_both (names (get_or xs p NotOut) g i) None (owner_at os g i) (λ o. o ≡ page_at (set xs p s) g i)
    (λ e. sym (named_no_more xs p s l g i once z e))
    (λ e. tied g i a b ∙ sym (named_as_before xs p s l g i z e)))

none_out : (n m g i : ℕ) → page_from n (replicate m NotOut) g i ≡ None
none_out n zero g i = refl
none_out n (suc m) g i = none_out (n + 1) m g i

pub tied_none : (n : ℕ) → Tied (replicate n NotOut) (replicate 32 (replicate 8 None))
unfolding page_at
tied_none n g i a b = ap (λ r. get_or r i None) (get_or-replicate 32 g (replicate 8 None) [] a) ∙ get_or-replicate 8 i None None b ∙ sym (none_out 0 n g i)
