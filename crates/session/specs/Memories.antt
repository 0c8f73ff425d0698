-- A replay over memory servers, as a function of the script, the bytes that are lent, and the listing's buffer.
use Rattle.std.specs.Prelude.{ℕ, ℤ, List, Result, map}
use Rattle.memory.specs.Store.{Store, made}
use Rattle.parity_log.specs.LogState.{unmade_log}
use Rattle.replay.specs.Listing.{answer_of}
use Rattle.replay.specs.Replaying.{Replayed, replayed}
use Rattle.replay.specs.declared.listing.Halt.{Halt}
use Rattle.session.specs.Calls.{Model, model, run_model}
use Rattle.session.specs.Model.{Row}

-- what a replay comes to: how many bytes it wrote or why it halted, the memories, and the listing's buffer
pub record Listed (O M : Type 0) : Type 0 where
  pub outcome : O
  pub memories : List M
  pub listing : List ℕ

abbrev pub listed : {O M : Type 0} → O → List M → List ℕ → Listed O M
listed outcome memories listing = record { outcome = outcome; memories = memories; listing = listing }

abbrev pub come_to : Replayed Model → Listed (Result ℕ Halt) Store
come_to r = listed r.outcome r.runner.row r.listing

-- a replay over these servers, of which no pager is made yet
abbrev pub replay_on : List ℕ → Row → List ℕ → Listed (Result ℕ Halt) Store
replay_on script servers listing = come_to (replayed run_model script (model unmade_log servers) listing)

abbrev pub in_bytes : {O : Type 0} → Listed O Store → Listed O (List ℕ)
in_bytes l = listed l.outcome (map (λ x. x.bytes) l.memories) l.listing

-- a replay over servers that hold nothing and have these bytes
abbrev pub replay_over : List ℕ → List (List ℕ) → List ℕ → Listed (Result ℕ Halt) (List ℕ)
replay_over script lent listing = in_bytes (replay_on script (map (λ bytes. made bytes 0) lent) listing)

-- the same with the outcome as one number
abbrev pub with_answer : {M : Type 0} → Listed (Result ℕ Halt) M → Listed ℤ M
with_answer l = listed (answer_of l.outcome) l.memories l.listing
