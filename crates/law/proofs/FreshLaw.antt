-- What holds of a pager just made.
use Rattle.std.proofs.Common.{◌<◌, ◌≤◌, None, refl}
use Rattle.page.specs.Pages.{zeros}
use Rattle.parity_log.specs.declared.records.Shape.{Shape}
use Rattle.parity_log.specs.declared.records.PageState.TheVariants.{NotOut}
use Rattle.parity_log.specs.declared.records.GroupState.TheVariants.{Free}
use Rattle.parity_log.proofs.OpeningLaws.{initial_log}
use Rattle.parity_log.proofs.EntryLaws.{alike}
use Rattle.law.specs.Rows.{Row, slots}
use Rattle.law.specs.Book.{nothing}
use Rattle.law.proofs.Invariant.{Inv}
use Rattle.law.proofs.GroupLaws.{zeros_whole, group_none}
use Rattle.law.proofs.Mode.{Fit, Mode}

module _ (M : Mode) where
  -- over any servers in good order, nothing booked and nothing found
  pub fresh_inv : (s : Shape) (b : Row) → s.servers < M.servers → s.groups ≤ M.groups → Fit M.servers M.good b → Inv M (initial_log s) b (λ _. nothing) (λ _. None) (λ _ _. zeros)
  fresh_inv s b servers groups fit = record {
    holds = record { servers = servers; groups = groups; fit = fit; group = λ g. rw (alike Free 32 g) (group_none (M.may g) (λ _. zeros) (slots b g) (λ _. zeros_whole)) };
    pages = λ p. rw (alike NotOut 240 p) refl;
  }
