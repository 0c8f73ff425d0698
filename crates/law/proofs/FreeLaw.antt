-- What holds at the end of a pageout or a free, and that a free keeps it.
use Rattle.std.proofs.Common.{◌≡◌, ℕ, ◌<◌, ◌⊎◌, List, [], Some, None, Ok as Done, Err, Option, Result, refl, ◌∙◌, inl, arith}
use Rattle.page.specs.declared.faults.Fault.{Fault}
use Rattle.page.specs.declared.faults.Refusal.TheVariants.{Lost}
use Rattle.page.specs.Pages.{page_size}
use Rattle.parity_log.specs.declared.records.PageState.{PageState}
use Rattle.parity_log.specs.declared.records.PageState.TheVariants.{NotOut, Out}
use Rattle.parity_log.specs.declared.records.Tables.{Tables}
use Rattle.parity_log.specs.LogState.{LogState, with_tables}
use Rattle.parity_log.specs.Tables.{capacity, page_state, group_of, with_page}
use Rattle.parity_log.specs.Faults.{lost_page, objection}
use Rattle.parity_log.specs.Order.{Sound, SettledLog}
use Rattle.parity_log.specs.Paging.{Told, told, release_old, free_unless, free}
use Rattle.parity_log.specs.Reading.{Finding}
use Rattle.parity_log.specs.Rule.{give, Runs}
use Rattle.parity_log.proofs.Keeping.{free_leaves}
use Rattle.parity_log.proofs.SoundLaws.{puts_nowhere, sound_entered}
use Rattle.law.specs.Rows.{Row}
use Rattle.law.specs.Book.{Entry, nothing, Book, written, found, heard, latest}
use Rattle.law.specs.Invariant.{FoundAt}
use Rattle.law.proofs.RuleLaws.{through}
use Rattle.law.proofs.Invariant.{Last, written_here, written_there, Inv}
use Rattle.law.proofs.FaultLaws.{Plain, plain_lost, Objects, objects}
use Rattle.law.proofs.ChangeLaws.{set_page}
use Rattle.law.proofs.ReleaseLaws.{Ok, old_law}
use Rattle.law.proofs.Mode.{Mode}

-- an answer that refuses as lost names the page's latest finding, which is right
abbrev pub LostRight : ℕ → Last → Result (Unit {0}) Fault → Type 0
LostRight p l (Done x) = Unit {0}
LostRight p l (Err f) = f.refusal ≡ Lost → (g : ℕ) × (s : ℕ) × (f ≡ lost_page p g s) × FoundAt g s (l p)

abbrev pub NotLost : Result (Unit {0}) Fault → Type 0
NotLost (Done x) = Unit {0}
NotLost (Err f) = f.refusal ≡ Lost → ⊥

-- a page's entry made one that is out nowhere
pub sound_nowhere : (v : Tables) (p : ℕ) (s : PageState) → Sound v → p < capacity v.shape → ((g i : ℕ) → s ≡ Out g i → ⊥) → Sound (with_page v p s)
sound_nowhere v p s sound lt h = sound_entered v p s v.filled sound lt (omega arith) sound.filled (puts_nowhere v p s v.filled h)

module _ (M : Mode) where
  -- nothing found, and the answer is not lost; or two members of a group may be missing
  abbrev pub News : Result (Unit {0}) Fault → List (Finding × Row) → Type 0
  News a ns = ((ns ≡ []) × NotLost a) ⊎ M.finds

  -- of a call that, where it is done, writes x for the page p
  pub record Ended (p : ℕ) (x : Entry) (k : Book) (l : Last) (ns : List (Finding × Row)) (r : Told) (e : Row) : Type 0 where
    pub settled : SettledLog r.log
    pub ok : Ok M r.log e (heard p x r.said (found ns k)) (λ q. latest q ns (l q))
    pub said : LostRight p (λ q. latest q ns (l q)) r.said
    pub news : News r.said ns

  -- refused before any server is asked
  pub objected : (v : LogState) (b : Row) (k : Book) (l : Last) (c : ℕ → ℕ → List ℕ) (p : ℕ) (x : Entry) (f : Fault) → SettledLog v → Inv M v b k l c → Plain f → Ended p x k l [] (told (Err f) v) b
  objected v b k l c p x f settled inv plain = record { settled = settled; ok = (c, rw plain.not_lost inv); said = λ y. absurd (plain_lost f plain y); news = inl (refl, plain_lost f plain) }

  module _ (v : LogState) (b : Row) (k : Book) (l : Last) (c : ℕ → ℕ → List ℕ) (p : ℕ) (inv : Inv M v b k l c) (settled : SettledLog v) where
    unless_law : (o : Option Fault) → Objects v.tables p page_size o → (ns : List (Finding × Row)) (r : Told) (e : Row) → Runs M.steps (free_unless o v p) b ns r e → (ns ≡ []) × Ended p nothing k l ns r e
    unless_law (Some f) plain ns r e (x, y, z) = rw (x, y, z) (refl, objected v b k l c p nothing f settled inv plain)
    unless_law None fine ns r e run =
        let sound = settled.tables.sound in
        let v₁ = with_tables v (with_page v.tables p NotOut) in
        let sound₁ = sound_nowhere v.tables p NotOut sound fine.1 (λ g i y. let z : ◌≡◌ {A = ℕ} 0 1 = cc in omega arith) in
        let inv₁ = set_page M v b b k l c inv sound (written p nothing k) l p NotOut fine.1 (λ j ne. (written_there p j nothing k ne, refl)) (written_here p nothing k) in
        through M.steps (release_old (group_of (page_state v.tables p)) v₁) (λ w. give (told (Done tt) w)) b ns r e run λ w m ns₁ ns₂ first q notes.
        let part = old_law M v₁ b (written p nothing k) l c inv₁ sound₁ (group_of (page_state v.tables p)) ns₁ w m first in
        let quiet : ns ≡ [] = notes ∙ rw (part.quiet, q.0) refl in
        rw (quiet, q.1, q.2) (refl, record { settled = rw part.is (free_leaves v p settled fine.1); ok = part.ok; said = tt; news = inl (refl, tt) })

    -- a free finds nothing lost
    pub free_law : (ns : List (Finding × Row)) (r : Told) (e : Row) → Runs M.steps (free v p) b ns r e → (ns ≡ []) × Ended p nothing k l ns r e
    unfolding free
    free_law = unless_law (objection v.tables p page_size) (objects v.tables p page_size)
