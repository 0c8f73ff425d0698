-- A page that is written and read back.
use Rattle.std.specs.Prelude.{ℕ, List, length, Ok, Err, Result}
use Rattle.page.specs.declared.faults.Fault.{Fault}
use Rattle.server.specs.Calls.{filled}
use Rattle.law.specs.Runs.{Moment, makes, pages_in, pages_out, Happens}
use Rattle.pager.specs.Moments.{Turns}

-- A pager is made, page 0 is paged out with the bytes x and paged into a buffer, which holds y before and z after: up to the first call that is refused.
pub data WritesThenReads : Moment → List ℕ → List ℕ → List ℕ → Result (Unit {0}) Fault → Moment → Type 0 where
  make_refused : {m n : Moment} {x y : List ℕ} {f : Fault} → Happens m (makes 3 2 (Err f)) n → WritesThenReads m x y y (Err f) n
  pageout_refused : {m n o : Moment} {x y : List ℕ} {f : Fault} {pages : ℕ}
      → Happens m (makes 3 2 (Ok pages)) n → Turns n (λ fs. pages_out 0 x (Err f) fs) o
      → WritesThenReads m x y y (Err f) o
  read_back : {m n o r : Moment} {x y z : List ℕ} {a : Result (Unit {0}) Fault} {pages : ℕ}
      → Happens m (makes 3 2 (Ok pages)) n → Turns n (λ fs. pages_out 0 x (Ok tt) fs) o
      → Turns o (λ fs. pages_in 0 (length y) (filled a z) fs) r
      → WritesThenReads m x y z a r
