-- What comes of a script that is listed from a reader to a writer, by the bytes of both, where those are known.
use Rattle.std.specs.Prelude.{◌≡◌, ℕ, List, Option, Result, Ok, Err, IfSome, replicate, take}
use Rattle.std.specs.Io.KnownBytes.{Appends, Keeps}
use Rattle.lister.specs.declared.error.ListError.{ListError}
use Rattle.lister.specs.declared.error.ListError.TheVariants.{Input, Output, Halted}
use Rattle.replay.specs.Transcript.{bytes_counted}
use Rattle.replay.specs.declared.listing.Halt.{Halt}
use Rattle.session.specs.Memories.{Listed, replay_over}

-- the script that is read of an input: its first 8,192 bytes
abbrev pub IsScriptOf : Option (List ℕ) → List ℕ → Type 0
IsScriptOf input script = IfSome input (λ bytes. script ≡ take 8192 bytes)

-- what each memory and the listing have at first
abbrev pub blank_bytes : List ℕ
blank_bytes = replicate 8192 0

-- a replay of a script over five memories and a listing of as many zeros
abbrev pub listing_of : List ℕ → Listed (Result ℕ Halt) (List ℕ)
listing_of script = replay_over script (replicate 5 blank_bytes) blank_bytes

-- the bytes of its listing, without those behind them in the buffer
abbrev pub listed_bytes : List ℕ → List ℕ
listed_bytes script = take (bytes_counted (listing_of script).outcome) (listing_of script).listing

-- some of the first of these bytes are written
abbrev pub AppendsPart : Option (List ℕ) → Option (List ℕ) → List ℕ → Type 0
AppendsPart before after bytes = (n : ℕ) × Appends before after (take n bytes)

-- The whole listing is printed, or what there is of it where its replay was halted. Where the input fails nothing is printed, and where the output does, nothing but the listing's first bytes.
abbrev pub Lists : Option (List ℕ) → Option (List ℕ) → Option (List ℕ) → Result ℕ ListError → Type 0
Lists input before after (Ok count) =
    (script : List ℕ) × IsScriptOf input script × ((listing_of script).outcome ≡ Ok count) × Appends before after (listed_bytes script)
Lists input before after (Err (Halted halt)) =
    (script : List ℕ) × IsScriptOf input script × ((listing_of script).outcome ≡ Err halt) × Appends before after (listed_bytes script)
Lists input before after (Err (Output error)) =
    (script : List ℕ) × IsScriptOf input script × AppendsPart before after (listed_bytes script)
Lists input before after (Err (Input error)) = Keeps before after
