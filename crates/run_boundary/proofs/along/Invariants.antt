-- The first k points are set, and each second number is as it was.
use Rattle.std.proofs.Common.{◌≡◌, ℕ, ◌+◌, ◌*◌, ◌<◌, get_or, pos, Float}
use Rattle.std.specs.Float.{binary64}
use Rattle.std.specs.Float.Ieee.{of_int}
use Rattle.run_boundary.proofs.along.Given as goal

abbrev pub invariant-loop-k : goal.invariant-loop-k
invariant-loop-k l =
    ((j : ℕ) (d : Float) → j < l.k → get_or l.xs (2 * j) d ≡ of_int binary64 (pos j))
    × ((j : ℕ) (d : Float) → get_or l.xs (2 * j + 1) d ≡ get_or l.initial.xs (2 * j + 1) d)
