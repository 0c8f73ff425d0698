-- The value last written to a page, as entries are added; and that a value which was read is a byte.
use Rattle.std.proofs.Common.{◌≡◌, ℕ, ◌<◌, Bool, true, false, cond, not, List, [], ◌∷◌, ◌++◌, Option, Some, None, Ok, refl, ap, ◌∙◌, append_assoc, ltb-true}
use Rattle.std.specs.Prelude.{bytes_eq, codes, nat_lt}
use Rattle.std.proofs.lemmas.Bool.{cond_both}
use Rattle.std.proofs.lemmas.List.Folds.{list_all-append}
use Rattle.replay.specs.LastWritten.{LastWritten, replaces}
use Rattle.replay.specs.Listing.{run_entry}
use Rattle.replay.specs.Script.{byte_of, call_of, make_call, out_call, parts, plain_call, read_call, read_fields, read_number, read_spares}
use Rattle.replay.specs.declared.listing.Detail.TheVariants.{Nothing}
use Rattle.replay.specs.declared.listing.Entry.{Entry}
use Rattle.replay.specs.declared.script.Call.{Call}
use Rattle.replay.specs.declared.script.Call.TheVariants.{Out, In, Free, Make, Fall, Back, Rebuild}

pub written_now : (line page value : ℕ) (es : List Entry) → LastWritten page value (es ++ (run_entry line (Out page value) (Ok Nothing) ∷ []))
written_now line page value es = record { line = line; above = es; below = []; in_order = refl; since = refl }

pub written_still : (page value : ℕ) (es : List Entry) (e : Entry) → replaces page e.call e.answer ≡ false → LastWritten page value es → LastWritten page value (es ++ (e ∷ []))
written_still page value es e other w = record {
  line = w.line;
  above = w.above;
  below = w.below ++ (e ∷ []);
  in_order = ap (λ t. t ++ (e ∷ [])) w.in_order ∙ append_assoc w.above _ (e ∷ []);
  since = list_all-append (λ f. not (replaces page f.call f.answer)) w.below (e ∷ []) ∙ rw (w.since, other) refl;
}

-- a call whose value, if it has one, is a byte
abbrev pub HasByte : Call → Type 0
HasByte (Out page value) = value < 256
HasByte (In page) = Unit {0}
HasByte (Free page) = Unit {0}
HasByte (Make groups spares) = Unit {0}
HasByte (Fall server) = Unit {0}
HasByte (Back server) = Unit {0}
HasByte (Rebuild server) = Unit {0}

abbrev pub MayHaveByte : Option Call → Type 0
MayHaveByte None = Unit {0}
MayHaveByte (Some call) = HasByte call

out_byte : (page : ℕ) (o : Option ℕ) → MayHaveByte (out_call page (byte_of o))
out_byte page None = tt
out_byte page (Some n) = by_test (nat_lt n 256) refl
  where
    by_test : (b : Bool) → nat_lt n 256 ≡ b → MayHaveByte (out_call page (cond b (Some n) None))
    by_test true e = ltb-true n 256 e
    by_test false e = tt

make_byte : (groups : ℕ) (o : Option ℕ) → MayHaveByte (make_call groups o)
make_byte groups None = tt
make_byte groups (Some spares) = tt

plain_byte : (word : List ℕ) (n : ℕ) → MayHaveByte (plain_call word n)
plain_byte word n =
    cond_both (bytes_eq word (codes "in")) _ _ MayHaveByte (λ _. tt)
    (λ _. cond_both (bytes_eq word (codes "free")) _ _ MayHaveByte (λ _. tt)
    (λ _. cond_both (bytes_eq word (codes "fall")) _ _ MayHaveByte (λ _. tt)
    (λ _. cond_both (bytes_eq word (codes "back")) _ _ MayHaveByte (λ _. tt)
    (λ _. cond_both (bytes_eq word (codes "rebuild")) _ _ MayHaveByte (λ _. tt) (λ _. tt)))))

call_byte : (word : List ℕ) (o : Option ℕ) (value : List ℕ) → MayHaveByte (call_of word o value)
call_byte word None value = tt
call_byte word (Some n) value =
    cond_both (bytes_eq word (codes "out")) _ _ MayHaveByte (λ _. out_byte n (read_number value))
    (λ _. cond_both (bytes_eq word (codes "make")) _ _ MayHaveByte (λ _. make_byte n (read_spares value))
    (λ _. cond_both (bytes_eq value (codes "-")) _ _ MayHaveByte (λ _. plain_byte word n) (λ _. tt)))

fields_byte : (fields : List (List ℕ)) → MayHaveByte (read_fields fields)
fields_byte [] = tt
fields_byte (word ∷ []) = tt
fields_byte (word ∷ number ∷ []) = tt
fields_byte (word ∷ number ∷ value ∷ []) = call_byte word (read_number number) value
fields_byte (word ∷ number ∷ value ∷ more ∷ rest) = tt

-- the value of a call that was read is a byte
pub read_byte : (line : List ℕ) → MayHaveByte (read_call line)
read_byte line = fields_byte (parts 44 line)
