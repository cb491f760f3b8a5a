-- How many numbers below a bound pass a test. Assumes nothing.
use Rattle.std.specs.Prelude.{Bool, true, false, ℕ, zero, suc, ◌+◌, ◌≤◌}
use Rattle.std.proofs.Common.{arith}
use Rattle.rules.specs.Tools.{pick}

unfoldable pub tally : (ℕ → Bool) → ℕ → ℕ
tally P zero = 0
tally P (suc m) = pick (P m) 1 0 + tally P m

pub tally_most : (P : ℕ → Bool) (m : ℕ) → tally P m ≤ m
unfolding tally pick
tally_most P zero = omega arith
tally_most P (suc m) = go (P m) (tally_most P m)
  where
    go : (b : Bool) → tally P m ≤ m → pick b 1 0 + tally P m ≤ suc m
    go true h = omega arith
    go false h = omega arith
