-- A script and its listing, worked out by hand, and the numbers that a script can spell.
use Rattle.std.specs.Prelude.{◌≡◌, ℕ, ◌^◌, ◌<◌, List, [], ◌∷◌, Some, None, Ok, Err, codes, decimal}
use Rattle.parity_log.specs.Faults.{lost_page}
use Rattle.replay.specs.Listing.{line_of, run_entry, unread_entry}
use Rattle.replay.specs.Script.{lines_of, names, read_call, read_number, unread}
use Rattle.replay.specs.declared.listing.Detail.TheVariants.{Nothing, Pages, Byte, Groups}
use Rattle.replay.specs.declared.script.Call.TheVariants.{Out, In, Free, Make, Fall, Back, Rebuild}

-- a number is read from the digits that a listing writes of it
abbrev pub NumbersAreRead : Type 0
NumbersAreRead = (n : ℕ) → n < 2 ^ 32 → read_number (decimal n) ≡ Some n

-- and from no others
abbrev pub NumbersHaveOneSpelling : Type 0
NumbersHaveOneSpelling = (digits : List ℕ) (n : ℕ) → read_number digits ≡ Some n → digits ≡ decimal n

pub record WorkedLines : Type 0 where
  pub none : lines_of [] ≡ [] ∷ []
  pub ended : lines_of (codes "call,number,value\n") ≡ names ∷ []
  pub unended : lines_of (codes "call,number,value\nback,0,-") ≡ names ∷ codes "back,0,-" ∷ []
  pub empty : lines_of (codes "call,number,value\n\n") ≡ names ∷ [] ∷ []

pub record WorkedCalls : Type 0 where
  pub make : read_call (codes "make,3,-") ≡ Some (Make 3 2)
  pub make_with : read_call (codes "make,32,31") ≡ Some (Make 32 31)
  pub out : read_call (codes "out,0,10") ≡ Some (Out 0 10)
  pub in_page : read_call (codes "in,4294967295,-") ≡ Some (In 4294967295)
  pub free : read_call (codes "free,10,-") ≡ Some (Free 10)
  pub fall : read_call (codes "fall,0,-") ≡ Some (Fall 0)
  pub back : read_call (codes "back,4,-") ≡ Some (Back 4)
  pub rebuild : read_call (codes "rebuild,0,-") ≡ Some (Rebuild 0)

-- none of these is a call
pub record WorkedUnread : Type 0 where
  pub large_value : read_call (codes "out,0,256") ≡ None
  pub large_number : read_call (codes "in,4294967296,-") ≡ None
  pub leading_zero : read_call (codes "in,01,-") ≡ None
  pub sign : read_call (codes "in,+1,-") ≡ None
  pub space : read_call (codes "in, 1,-") ≡ None
  pub carriage_return : read_call (codes "in,1,-\r") ≡ None
  pub missing_field : read_call (codes "in,1") ≡ None
  pub extra_field : read_call (codes "in,1,-,") ≡ None
  pub no_value : read_call (codes "out,1,-") ≡ None
  pub extra_value : read_call (codes "in,1,1") ≡ None
  pub no_word : read_call (codes "In,1,-") ≡ None
  pub empty : read_call [] ≡ None

pub record WorkedListing : Type 0 where
  pub made : line_of (run_entry 2 (Make 3 2) (Ok (Pages 4))) ≡ codes "2,make,3,done,4\n"
  pub out : line_of (run_entry 3 (Out 0 10) (Ok Nothing)) ≡ codes "3,out,0,done,-\n"
  pub read : line_of (run_entry 6 (In 0) (Ok (Byte 10))) ≡ codes "6,in,0,done,10\n"
  pub lost : line_of (run_entry 8 (In 1) (Err (lost_page 1 0 3))) ≡ codes "8,in,1,lost,0+1\n"
  pub lost_with_parity : line_of (run_entry 8 (In 1) (Err (lost_page 1 0 264))) ≡ codes "8,in,1,lost,3+4\n"
  pub rebuilt : line_of (run_entry 10 (Rebuild 0) (Ok (Groups 0 1))) ≡ codes "10,rebuild,0,done,0/1\n"
  pub unreadable : line_of (unread_entry 11 unread) ≡ codes "11,-,-,unread,-\n"
