-- The sequence of draws, and what two draws bring a call.
use Rattle.std.specs.Prelude.{ℕ, ◌+◌, ◌*◌, ◌/◌, ◌%◌, ◌^◌, cond, Some, None, Option, ◌==◌, nat_lt}
use Rattle.fickle.specs.declared.mishaps.Mishap.{Mishap}
use Rattle.fickle.specs.declared.mishaps.Mishap.TheVariants.{Page, Fall}
use Rattle.fickle.specs.declared.mishaps.Odds.{Odds}
use Rattle.fickle.specs.declared.mishaps.Strike.{Strike}

-- the seed after a draw
abbrev pub next : ℕ → ℕ
next seed = (seed * 1664525 % 2 ^ 32 + 1013904223) % 2 ^ 32

abbrev pub drawn : ℕ → ℕ → ℕ
drawn seed end = next seed / 2 ^ 16 % end

-- one draw in four takes the named slot, the others any
abbrev pub victim : ℕ → ℕ → ℕ → ℕ
victim draw slot size = cond (draw % 4 == 0) slot (draw / 4 % size)

-- the lowest draws lose a page, the next make the server fall
abbrev pub mishap_by : Odds → ℕ → Option Mishap
mishap_by odds draw = cond (nat_lt draw odds.pages) (Some Page) (cond (nat_lt draw (odds.pages + odds.falls)) (Some Fall) None)

abbrev pub strike_at : ℕ → Option Mishap → Option Strike
strike_at slot None = None
strike_at slot (Some m) = Some (record { mishap = m; slot = slot })

abbrev pub drawn_strike : Odds → ℕ → (slot size : ℕ) → Option Strike
drawn_strike odds seed slot size = strike_at (victim (drawn (next seed) 65536) slot size) (mishap_by odds (drawn seed 1024))
