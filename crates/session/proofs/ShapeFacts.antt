-- A pager that is not made refuses all but a make, and one that is made refuses that.
use Rattle.std.proofs.Common.{◌≡◌, ℕ, true, false, refl}
use Rattle.parity_log.specs.Paging.{pageout, free}
use Rattle.parity_log.specs.Reading.{pagein}
use Rattle.parity_log.specs.Tables.{within}
use Rattle.replay.specs.declared.script.Call.{Call}
use Rattle.replay.specs.declared.script.Call.TheVariants.{Out, In, Free, Make, Fall, Back, Rebuild}
use Rattle.session.specs.Calls.{Model, run_model}
use Rattle.session.specs.ShapeLaws.{ShapeLaws, is_make, refused}

made_first : (m : Model) (call : Call) → within m.log.tables.shape ≡ false → is_make call ≡ false → run_model m call ≡ refused m
unfolding pageout pagein free
made_first m (Out page value) v other = rw v refl
made_first m (In page) v other = rw v refl
made_first m (Free page) v other = rw v refl
made_first m (Make groups spares) v other = absurd cc
made_first m (Fall server) v other = rw v refl
made_first m (Back server) v other = rw v refl
made_first m (Rebuild server) v other = rw v refl

made_once : (m : Model) (groups spares : ℕ) → within m.log.tables.shape ≡ true → run_model m (Make groups spares) ≡ refused m
made_once m groups spares v = rw v refl

pub shape_laws : ShapeLaws
shape_laws = record { made_first = made_first; made_once = made_once }
