-- A replay over values, seen as one over what is in them.
use Rattle.std.proofs.Common.{ℕ, ◌+◌, List, [], ◌∷◌, Option, Some, None, Result, Ok, Err, ap}
use Rattle.page.specs.declared.faults.Fault.{Fault}
use Rattle.replay.specs.Listing.{count_after, header, written}
use Rattle.replay.specs.Replaying.{Follows, IsReplay, ReplaysBelow, ReplaysLines, ReplaysRead}
use Rattle.replay.specs.Script.{below_names, lines_of, read_call}
use Rattle.replay.specs.declared.listing.Detail.{Detail}
use Rattle.replay.specs.declared.listing.Halt.{Halt}
use Rattle.replay.specs.declared.script.Call.{Call}

module _ {X Y : Type 0} (runs : X → Call → Result Detail Fault → X → Type 0) (inner : Y → Call → Result Detail Fault → Y → Type 0) (part : X → Y) (within : (x : X) (call : Call) (a : Result Detail Fault) (y : X) → runs x call a y → inner (part x) call a (part y)) where
  follows_along : (first : Result ℕ Halt) (On On' : ℕ → Type 0) (Halted Halted' : Halt → Type 0) → ((n : ℕ) → On n → On' n) → ((h : Halt) → Halted h → Halted' h) → Follows first On Halted → Follows first On' Halted'
  follows_along (Ok n) On On' Halted Halted' on halted h = on n h
  follows_along (Err halt) On On' Halted Halted' on halted h = halted halt h

  read_along : (number : ℕ) (o : Option Call) (x : X) (listing : List ℕ) (count : ℕ) (outcome : Result ℕ Halt) (y : X) (after : List ℕ) → ReplaysRead runs number o x listing count outcome y after → ReplaysRead inner number o (part x) listing count outcome (part y) after
  read_along number None x listing count outcome y after (same, bytes, ends) = (ap part same, bytes, ends)
  read_along number (Some call) x listing count outcome y after (answer, ran, rest) = (answer, within x call answer y ran, rest)

  lines_along : (number : ℕ) (lines : List (List ℕ)) (x : X) (listing : List ℕ) (count : ℕ) (outcome : Result ℕ Halt) (y : X) (after : List ℕ) → ReplaysLines runs number lines x listing count outcome y after → ReplaysLines inner number lines (part x) listing count outcome (part y) after
  lines_along number [] x listing count outcome y after (same, bytes, ends) = (ap part same, bytes, ends)
  lines_along number (line ∷ lines) x listing count outcome y after (z, between, first, ran, follows) = (
    part z,
    between,
    first,
    read_along number (read_call line) x listing count first z between ran,
    follows_along first _ _ _ _ (λ n. lines_along (number + 1) lines z between n outcome y after) (λ halt h. (ap part h.0, h.1, h.2)) follows,
  )

  below_along : (below : Result (List (List ℕ)) Fault) (x : X) (listing : List ℕ) (count : ℕ) (outcome : Result ℕ Halt) (y : X) (after : List ℕ) → ReplaysBelow runs below x listing count outcome y after → ReplaysBelow inner below (part x) listing count outcome (part y) after
  below_along (Ok lines) x listing count outcome y after h = lines_along 2 lines x listing count outcome y after h
  below_along (Err fault) x listing count outcome y after (same, bytes, ends) = (ap part same, bytes, ends)

  pub replay_along : (script : List ℕ) (x : X) (listing : List ℕ) (outcome : Result ℕ Halt) (y : X) (after : List ℕ) → IsReplay runs script x listing outcome y after → IsReplay inner script (part x) listing outcome (part y) after
  replay_along script x listing outcome y after (first, before, whole, ends, bytes) = (
    first,
    before,
    follows_along (count_after listing 0 1 header) _ _ _ _ (λ n. below_along (below_names (lines_of script)) x (written listing 0 header) n first y before) (λ halt h. (ap part h.0, h.1, h.2)) whole,
    ends,
    bytes,
  )
