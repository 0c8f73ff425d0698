-- A replay over calls whose rule is a function of a model leaves what that function gives.
use Rattle.std.proofs.Common.{◌≡◌, ℕ, ◌+◌, List, [], ◌∷◌, Option, Some, None, Result, Ok, Err, refl, sym, ap, ◌∙◌, subst}
use Rattle.page.specs.Refusals.{on_line}
use Rattle.page.specs.declared.faults.Fault.{Fault}
use Rattle.replay.specs.Listing.{count_after, halt_at, header, line_of, written, run_entry}
use Rattle.replay.specs.Replaying.{Follows, IsReplay, Replayed, ReplaysBelow, ReplaysLines, ReplaysRead, ReplaysScript, after_line, left_as, replayed, replayed_below, replayed_lines, replayed_read, replayed_script, script_end}
use Rattle.replay.specs.Script.{below_names, lines_of, read_call, unread}
use Rattle.replay.specs.declared.listing.Detail.{Detail}
use Rattle.replay.specs.declared.listing.Halt.{Halt}
use Rattle.replay.specs.declared.script.Call.{Call}

module _ {X V : Type 0} (runs : X → Call → Result Detail Fault → X → Type 0) (run : V → Call → Result Detail Fault × V) (Models : X → V → Type 0) (step : (x : X) (v : V) (call : Call) (answer : Result Detail Fault) (y : X) → Models x v → runs x call answer y → (answer ≡ (run v call).0) × Models y (run v call).1) where
  -- a replay left this
  abbrev pub Leaves : Replayed V → Result ℕ Halt → X → List ℕ → Type 0
  Leaves r outcome y after = (outcome ≡ r.outcome) × Models y r.runner × (after ≡ r.listing)

  left_end : (outcome : Result ℕ Halt) (x y : X) (v : V) (after : List ℕ) (o : Result ℕ Halt) (l : List ℕ) → Models x v → y ≡ x → after ≡ l → outcome ≡ o → Leaves (left_as o v l) outcome y after
  left_end outcome x y v after o l m same bytes counts =
      let P : X → Type 0 = λ z. Models z v in
      (counts, subst P (sym same) m, bytes)

  -- on from the bytes that are written, or halted
  by_count : (first : Result ℕ Halt) (z : X) (w : V) (l : List ℕ) (rest : V → List ℕ → ℕ → Replayed V) (On : X → List ℕ → ℕ → Type 0) (outcome : Result ℕ Halt) (y : X) (after : List ℕ) → Models z w → Follows first (λ n. On z l n) (λ halt. (y ≡ z) × (after ≡ l) × (outcome ≡ Err halt)) → ((n : ℕ) → On z l n → Leaves (rest w l n) outcome y after) → Leaves (after_line first w l rest) outcome y after
  by_count (Ok n) z w l rest On outcome y after m follows more = more n follows
  by_count (Err halt) z w l rest On outcome y after m (same, bytes, counts) more = left_end outcome z y w after (Err halt) l m same bytes counts

  read_leaves : (number : ℕ) (o : Option Call) (x : X) (v : V) (listing : List ℕ) (count : ℕ) (outcome : Result ℕ Halt) (y : X) (after : List ℕ) → Models x v → ReplaysRead runs number o x listing count outcome y after → Leaves (replayed_read run number o v listing count) outcome y after
  read_leaves number None x v listing count outcome y after m (same, bytes, counts) =
      left_end outcome x y v after (Err (halt_at count (on_line number unread))) listing m same bytes counts
  read_leaves number (Some call) x v listing count outcome y after m (answer, did, (bytes, counts)) =
      let line : Result Detail Fault → List ℕ = λ a. line_of (run_entry number call a) in
      let now = step x v call answer y m did in
      (counts ∙ ap (λ a. count_after listing count number (line a)) now.0, now.1, bytes ∙ ap (λ a. written listing count (line a)) now.0)

  lines_leave : (number : ℕ) (lines : List (List ℕ)) (x : X) (v : V) (listing : List ℕ) (count : ℕ) (outcome : Result ℕ Halt) (y : X) (after : List ℕ) → Models x v → ReplaysLines runs number lines x listing count outcome y after → Leaves (replayed_lines run number lines v listing count) outcome y after
  lines_leave number [] x v listing count outcome y after m (same, bytes, counts) =
      left_end outcome x y v after (Ok count) listing m same bytes counts
  lines_leave number (line ∷ lines) x v listing count outcome y after m (z, between, first, ran, follows) =
      let left = replayed_read run number (read_call line) v listing count in
      let here = read_leaves number (read_call line) x v listing count first z between m ran in
      let On : X → List ℕ → ℕ → Type 0 = λ u l n. ReplaysLines runs (number + 1) lines u l n outcome y after in
      let P : Result ℕ Halt → List ℕ → Type 0 = λ o l. Follows o (λ n. On z l n) (λ halt. (y ≡ z) × (after ≡ l) × (outcome ≡ Err halt)) in
      let goes : P left.outcome left.listing = subst (λ l. P left.outcome l) here.2 (subst (λ o. P o between) here.0 follows) in
      by_count left.outcome z left.runner left.listing (λ w l n. replayed_lines run (number + 1) lines w l n) On outcome y after here.1 goes (λ n on. lines_leave (number + 1) lines z left.runner left.listing n outcome y after here.1 on)

  below_leaves : (below : Result (List (List ℕ)) Fault) (x : X) (v : V) (listing : List ℕ) (count : ℕ) (outcome : Result ℕ Halt) (y : X) (after : List ℕ) → Models x v → ReplaysBelow runs below x listing count outcome y after → Leaves (replayed_below run below v listing count) outcome y after
  below_leaves (Ok lines) x v listing count outcome y after m on = lines_leave 2 lines x v listing count outcome y after m on
  below_leaves (Err fault) x v listing count outcome y after m (same, bytes, counts) =
      left_end outcome x y v after (Err (halt_at count fault)) listing m same bytes counts

  script_leaves : (script : List ℕ) (x : X) (v : V) (listing : List ℕ) (outcome : Result ℕ Halt) (y : X) (after : List ℕ) → Models x v → ReplaysScript runs script x listing outcome y after → Leaves (replayed_script run script v listing) outcome y after
  script_leaves script x v listing outcome y after m whole =
      let below = below_names (lines_of script) in
      by_count (count_after listing 0 1 header) x v (written listing 0 header) (λ w l n. replayed_below run below w l n) (λ u l n. ReplaysBelow runs below u l n outcome y after) outcome y after m whole (λ n on. below_leaves below x v (written listing 0 header) n outcome y after m on)

  pub replay_leaves : (script : List ℕ) (x : X) (v : V) (listing : List ℕ) (outcome : Result ℕ Halt) (y : X) (after : List ℕ) → Models x v → IsReplay runs script x listing outcome y after → Leaves (replayed run script v listing) outcome y after
  replay_leaves script x v listing outcome y after m (first, before, whole, ends, bytes) =
      let left = script_leaves script x v listing first y before m whole in
      let r = replayed_script run script v listing in
      let same : script_end first before ≡ script_end r.outcome r.listing = rw (left.0, left.2) refl in
      (ends ∙ ap (λ e. e.0) same, left.1, bytes ∙ ap (λ e. e.1) same)
