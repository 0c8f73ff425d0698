-- What a script says: its lines, the line of names, and the call of a line.
use Rattle.std.specs.Prelude.{ℕ, ◌-◌, ◌^◌, Bool, false, not, ◌&&◌, List, [], ◌∷◌, length, take, slice_index, Option, Some, None, Result, Ok, Err, if◌then◌else◌, ◌==◌, nat_lt, codes, bytes_eq}
use Rattle.std.specs.Borrow.{Bor}
use Rattle.std.specs.Char.{is_ascii_digit}
use Rattle.std.specs.List.{slice_split}
use Rattle.std.specs.Str.{all_ascii_digits}
use Rattle.std.specs.Str.Parse.{digits_value}
use Rattle.page.specs.Refusals.{fault_of, on_line}
use Rattle.page.specs.declared.faults.Fault.{Fault}
use Rattle.page.specs.declared.faults.Layer.TheVariants.{Replay}
use Rattle.page.specs.declared.faults.Refusal.TheVariants.{Unread}
use Rattle.replay.specs.declared.parts.Parts.{Parts}
use Rattle.replay.specs.declared.script.Call.{Call}
use Rattle.replay.specs.declared.script.Call.TheVariants.{Out, In, Free, Make, Fall, Back, Rebuild}

-- a call's word
abbrev pub word_of : Call → List ℕ
word_of (Out page value) = codes "out"
word_of (In page) = codes "in"
word_of (Free page) = codes "free"
word_of (Make groups spares) = codes "make"
word_of (Fall server) = codes "fall"
word_of (Back server) = codes "back"
word_of (Rebuild server) = codes "rebuild"

-- a call's number
abbrev pub number_of : Call → ℕ
number_of (Out page value) = page
number_of (In page) = page
number_of (Free page) = page
number_of (Make groups spares) = groups
number_of (Fall server) = server
number_of (Back server) = server
number_of (Rebuild server) = server

-- the parts of a text between the bytes that are this one
abbrev pub parts : ℕ → List ℕ → List (List ℕ)
parts separator text = slice_split (λ b. b == separator) text

abbrev pub parts_of_rest : ℕ → Option (Bor (List ℕ)) → List (List ℕ)
parts_of_rest separator None = []
parts_of_rest separator (Some text) = parts separator text.now

-- the parts that are still to come
abbrev pub parts_left : Parts → List (List ℕ)
parts_left p = parts_of_rest p.separator p.rest

-- a script without the end of its last line, which may be there or not
abbrev pub unended : List ℕ → List ℕ
unended script = if slice_index script (length script - 1) == 10 then take (length script - 1) script else script

-- A script's lines. An empty script is one empty line.
abbrev pub lines_of : List ℕ → List (List ℕ)
lines_of script = parts 10 (unended script)

-- the first line of a script
abbrev pub names : List ℕ
names = codes "call,number,value"

abbrev pub unread : Fault
unread = fault_of Replay Unread

-- the lines below the line of names
abbrev pub below_names : List (List ℕ) → Result (List (List ℕ)) Fault
below_names [] = Err (on_line 1 unread)
below_names (line ∷ lines) = if bytes_eq line names then Ok lines else Err (on_line 1 unread)

-- digits of which the first is no zero, or the one digit 0
abbrev pub is_plain : List ℕ → Bool
is_plain [] = false
is_plain (d ∷ []) = is_ascii_digit d
is_plain (d ∷ e ∷ more) = is_ascii_digit d && not (d == 48)

-- a number's only spelling: decimal digits that begin with no needless zero, for a number below 2 ^ 32
abbrev pub is_number : List ℕ → Bool
is_number digits = is_plain digits && (all_ascii_digits digits && nat_lt (digits_value 10 digits) (2 ^ 32))

abbrev pub read_number : List ℕ → Option ℕ
read_number digits = if is_number digits then Some (digits_value 10 digits) else None

-- a number that is a byte
abbrev pub byte_of : Option ℕ → Option ℕ
byte_of None = None
byte_of (Some n) = if nat_lt n 256 then Some n else None

-- how many groups are kept free: 2, where a making does not say
abbrev pub read_spares : List ℕ → Option ℕ
read_spares value = if bytes_eq value (codes "-") then Some 2 else read_number value

abbrev pub out_call : ℕ → Option ℕ → Option Call
out_call page None = None
out_call page (Some value) = Some (Out page value)

abbrev pub make_call : ℕ → Option ℕ → Option Call
make_call groups None = None
make_call groups (Some spares) = Some (Make groups spares)

-- a call that has no value
abbrev pub plain_call : List ℕ → ℕ → Option Call
plain_call word n =
    if bytes_eq word (codes "in") then Some (In n)
    else if bytes_eq word (codes "free") then Some (Free n)
    else if bytes_eq word (codes "fall") then Some (Fall n)
    else if bytes_eq word (codes "back") then Some (Back n)
    else if bytes_eq word (codes "rebuild") then Some (Rebuild n)
    else None

-- the call of a word, a number that was read, and the bytes of a value
abbrev pub call_of : List ℕ → Option ℕ → List ℕ → Option Call
call_of word None value = None
call_of word (Some n) value =
    if bytes_eq word (codes "out") then out_call n (byte_of (read_number value))
    else if bytes_eq word (codes "make") then make_call n (read_spares value)
    else if bytes_eq value (codes "-") then plain_call word n
    else None

-- the call of a line's fields
abbrev pub read_fields : List (List ℕ) → Option Call
read_fields (word ∷ number ∷ value ∷ []) = call_of word (read_number number) value
read_fields _ = None

-- the call of a line: its word, its number and its value, with commas between
abbrev pub read_call : List ℕ → Option Call
read_call line = read_fields (parts 44 line)

abbrev pub call_or_unread : Option Call → Result Call Fault
call_or_unread None = Err unread
call_or_unread (Some call) = Ok call
