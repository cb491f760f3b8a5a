-- The vertex at a place of a run. Assumes nothing.
use mathlib.Core.Path.{◌≡◌}
use mathlib.Core.Bool.{Bool, true, false}
use Prim.Native.Nat.{ℕ, zero, suc, ◌+◌, ◌-◌, ◌<◌}
use native.Mathlib.Omega.{arith}
use lib.ListN.{get_or}
use Rattle.rules.specs.Tools.{pick, up_from, down_to}
use Rattle.straight.specs.Runs.{run}

pub up_at : (a n i : ℕ) → i < n → get_or (up_from a n) i 0 ≡ a + i
up_at a zero i h = absurd (omega arith)
up_at a (suc n) zero h = omega arith
up_at a (suc n) (suc i) h = omega (arith, up_at (suc a) n i (omega arith))

pub down_at : (a n i : ℕ) → i < n → get_or (down_to a n) i 0 ≡ a + (n - 1 - i)
down_at a zero i h = absurd (omega arith)
down_at a (suc n) zero h = omega arith
down_at a (suc n) (suc i) h = omega (arith, down_at a n i (omega arith))

pub run_below : (b : Bool) (a n i : ℕ) → i < n → get_or (run b a n) i 0 < a + n
unfolding run pick
run_below true a n i h = omega (arith, down_at a n i h)
run_below false a n i h = omega (arith, up_at a n i h)
