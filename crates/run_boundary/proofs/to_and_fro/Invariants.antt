-- The first k coordinates are set.
use Rattle.std.proofs.Common.{◌≡◌, ℕ, ◌%◌, ◌<◌, get_or, Float}
use Rattle.run_boundary.proofs.to_and_fro.Given as goal

abbrev pub invariant-loop-k : goal.invariant-loop-k
invariant-loop-k l = (j : ℕ) (d : Float) → j < l.k → get_or l.xs j d ≡ get_or l.ends (j % 4) d
