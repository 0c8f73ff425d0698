use Rattle.std.proofs.Common.{◌+◌, ◌-◌}
use Rattle.std.specs.List.{range_with_len}
use Rattle.parity_log.specs.LogState.{LogState}
use Rattle.parity_log.specs.Paging.{free_on}
use Rattle.parity_log.proofs.RuleLaws.{Leads}
use Rattle.pager.proofs.placing.free_slots.Given as goal

abbrev pub invariant-loop-server : goal.invariant-loop-server
invariant-loop-server g l =
    (k : LogState) → Leads g.B.Bank.steps (free_on (range_with_len 0 (l.servers + 1)) l.group k) l.initial.bank (free_on (range_with_len l.server (l.servers + 1 - l.server)) l.group k) l.bank
