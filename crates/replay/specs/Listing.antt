-- What a replay writes: the bytes of each line, and how they are laid into a buffer that may be too short.
use Rattle.std.specs.Prelude.{◌≡◌, ℕ, ◌+◌, ◌≤◌, Bool, not, List, ◌++◌, map, length, slice_index, take, drop, Option, Some, None, Result, Ok, Err, ℤ, pos, negsuc, if◌then◌else◌, ◌==◌, nat_le, codes, bit_and, decimal, min}
use Rattle.std.specs.List.{filter, join_with_byte, range_with_len}
use Rattle.page.specs.Refusals.{fault_of, named, on_line}
use Rattle.page.specs.declared.faults.Fault.{Fault}
use Rattle.page.specs.declared.faults.Refusal.{Refusal}
use Rattle.page.specs.declared.faults.Layer.TheVariants.{Replay}
use Rattle.page.specs.declared.faults.Refusal.TheVariants.{Full, Lost}
use Rattle.parity_log.specs.Tables.{weight}
use Rattle.replay.specs.Script.{number_of, word_of}
use Rattle.replay.specs.declared.listing.Detail.{Detail}
use Rattle.replay.specs.declared.listing.Detail.TheVariants.{Nothing, Pages, Byte, Groups}
use Rattle.replay.specs.declared.listing.Entry.{Entry}
use Rattle.replay.specs.declared.listing.Halt.{Halt}
use Rattle.replay.specs.declared.script.Call.{Call}

-- a line that can't be read
abbrev pub unread_entry : ℕ → Fault → Entry
unread_entry number fault = record { line = number; call = None; answer = Err fault }

-- an answer whose fault has its line
abbrev pub told_line : ℕ → Result Detail Fault → Result Detail Fault
told_line number (Ok detail) = Ok detail
told_line number (Err fault) = Err (on_line number fault)

-- a call that has run
abbrev pub run_entry : ℕ → Call → Result Detail Fault → Entry
run_entry number call answer = record { line = number; call = Some call; answer = told_line number answer }

-- the listing's first line
abbrev pub header : List ℕ
header = codes "line,call,number,answer,detail\n"

-- a call's word and number, or no call's
abbrev pub called : Option Call → List ℕ
called None = codes "-,-"
called (Some call) = word_of call ++ codes "," ++ decimal (number_of call)

abbrev pub answer_word : Result Detail Fault → List ℕ
answer_word (Ok detail) = codes "done"
answer_word (Err fault) = (named fault.refusal).word

-- a replay's data servers, and the number that its parity server goes by
abbrev pub data_servers : ℕ
data_servers = 4

-- what each server adds to a missing set
abbrev pub weights : List ℕ
weights = map (weight data_servers) (range_with_len 0 (data_servers + 1))

abbrev pub is_missing : ℕ → ℕ → Bool
is_missing set server = not (bit_and set (slice_index weights server) == 0)

-- the servers of a missing set in ascending order
abbrev pub missing_text : ℕ → List ℕ
missing_text set = join_with_byte 43 (map decimal (filter (is_missing set) (range_with_len 0 (data_servers + 1))))

abbrev pub detail_text : Detail → List ℕ
detail_text Nothing = codes "-"
detail_text (Pages count) = decimal count
detail_text (Byte byte) = decimal byte
detail_text (Groups rebuilt failed) = decimal rebuilt ++ codes "/" ++ decimal failed

-- of a refusal: for a lost page, the servers that were missing
abbrev pub refusal_text : Refusal → Option ℕ → List ℕ
refusal_text Lost (Some set) = missing_text set
refusal_text _ _ = codes "-"

abbrev pub answer_text : Result Detail Fault → List ℕ
answer_text (Ok detail) = detail_text detail
answer_text (Err fault) = refusal_text fault.refusal fault.missing

-- an entry's line, with its end
abbrev pub line_of : Entry → List ℕ
line_of entry =
    decimal entry.line ++ codes "," ++ called entry.call ++ codes "," ++ answer_word entry.answer ++ codes "," ++ answer_text entry.answer ++ codes "\n"

-- whether a line fits behind the bytes that are written
abbrev pub fits : List ℕ → ℕ → List ℕ → Bool
fits listing count line = nat_le (count + length line) (length listing)

-- a listing after a line: the line stands whole behind the bytes that were written, or nowhere
abbrev pub written : List ℕ → ℕ → List ℕ → List ℕ
written listing count line = if fits listing count line then take count listing ++ line ++ drop (count + length line) listing else listing

-- why a replay ends before its script does, and how many bytes are written by then
abbrev pub halt_at : ℕ → Fault → Halt
halt_at count fault = record { count = count; fault = fault }

-- a line of the listing does not fit
abbrev pub full : Fault
full = fault_of Replay Full

-- how many bytes are written after a line, which is of this line of the script
abbrev pub count_after : List ℕ → ℕ → ℕ → List ℕ → Result ℕ Halt
count_after listing count number line =
    if fits listing count line then Ok (count + length line) else Err (halt_at count (on_line number full))

-- an outcome whose count is at most this
abbrev pub outcome_within : ℕ → Result ℕ Halt → Result ℕ Halt
outcome_within most (Ok count) = Ok (min count most)
outcome_within most (Err halt) = Err (halt_at (min halt.count most) halt.fault)

-- a replay's outcome as one number: the bytes written, and below 0 where the next line did not fit
abbrev pub answer_of : Result ℕ Halt → ℤ
answer_of (Ok count) = pos count
answer_of (Err halt) = negsuc halt.count

-- a replay ends with no more bytes than a buffer has, and halts only where it is full, on a known line
abbrev pub EndsWithin : ℕ → Result ℕ Halt → Type 0
EndsWithin most (Ok count) = count ≤ most
EndsWithin most (Err halt) = (halt.count ≤ most) × (line : ℕ) × (halt.fault ≡ on_line line full)
