-- Bytes that are written one after another.
use Rattle.std.proofs.Common.{◌≡◌, ℕ, ◌+◌, ◌-◌, ◌≤◌, List, ◌++◌, length, take, drop, Option, Some, None, sym, ap, ◌∙◌, append_assoc, subst}
use lib.Seq.{take-add, take-take}
use Rattle.std.specs.Option.{option_map}
use Rattle.std.specs.Io.KnownBytes.{Appends, Keeps}
use Rattle.std.specs.Prelude.{IfSome}
use Rattle.lister.specs.Printing.{IsScriptOf}

appended_then : (u v w : Option (List ℕ)) (a b : List ℕ) → Appends u v a → Appends v w b → Appends u w (a ++ b)
appended_then None v w a b x y = tt
appended_then (Some xs) None w a b x y = absurd x
appended_then (Some xs) (Some ys) None a b x y = y
appended_then (Some xs) (Some ys) (Some zs) a b x y = y ∙ ap (λ (t : List ℕ). t ++ b) x ∙ append_assoc xs a b

-- so many more bytes of a text, of those that are left
pub more_written : (u v w : Option (List ℕ)) (count more : ℕ) (bytes : List ℕ) → more ≤ length bytes - count → Appends u v (take count bytes) → Appends v w (take more (take (length bytes - count) (drop count bytes))) → Appends u w (take (count + more) bytes)
more_written u v w count more bytes fits x y =
    let left = take-take more (length bytes - count) (drop count bytes) fits in
    subst (Appends u w) (ap (λ t. take count bytes ++ t) left ∙ sym (take-add count more bytes)) (appended_then u v w (take count bytes) _ x y)

pub kept_written : (u v w : Option (List ℕ)) (bytes : List ℕ) → Appends u v bytes → Keeps v w → Appends u w bytes
kept_written None v w bytes x y = tt
kept_written (Some xs) None w bytes x y = absurd x
kept_written (Some xs) (Some ys) None bytes x y = absurd y
kept_written (Some xs) (Some ys) (Some zs) bytes x y = y ∙ x

-- what is read of known bytes as far as there is room
pub script_read : (known : Option (List ℕ)) (script : List ℕ) → IfSome (option_map (take 8192) known) (λ xs. script ≡ xs) → IsScriptOf known script
script_read None script h = tt
script_read (Some bytes) script h = h
