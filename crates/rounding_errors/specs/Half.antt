-- The whole number that is nearest to a fraction is within a half of it. Assumes nothing.
use Rattle.std.specs.Prelude.{◌≡◌}
use Prim.Native.Nat.{ℕ, ◌+◌, ◌*◌, ◌/◌, ◌%◌, ◌≤◌, ◌<◌, compare}
use Rattle.std.proofs.Common.{mul-le-mul_right, div-add-mod', mod-lt, arith}
use Rattle.std.proofs.Math.Decide.{dec_lt}
use Rattle.std.specs.Float.Ieee.{nearest}
use Rattle.std.specs.Float.Ieee.Nearest.{closest}
use Rattle.rounding.specs.Compare.{is_lt, is_eq, is_gt}

-- w is within a half of n / u
pub record WithinHalf (w n u : ℕ) : Type 0 where
  pub over : w * u * 2 ≤ n * 2 + u
  pub under : n * 2 ≤ w * u * 2 + u

-- r is what is left of n after w times u
near : (w r u n : ℕ) → w * u + r ≡ n → r < u → WithinHalf (nearest w (compare (r * 2) u)) n u
near w r u n e l = go (dec_lt (r * 2) u) (dec_lt u (r * 2))
  where
    even : (b : ℕ) → b ≤ 1 → u ≡ r * 2 → WithinHalf (w + b) n u
    even b h t = let k = mul-le-mul_right u h in record { over = omega (arith, k); under = omega arith }

    go : Dec (r * 2 < u) → Dec (u < r * 2) → WithinHalf (nearest w (compare (r * 2) u)) n u
    go (yes h) k = rw (is_lt (r * 2) u h) (record { over = omega arith; under = omega arith })
    go (no h) (yes k) = rw (is_gt (r * 2) u k) (record { over = omega arith; under = omega arith })
    go (no h) (no k) = rw (is_eq (r * 2) u (omega arith)) (even (w % 2) (omega arith) (omega arith))

pub closest_near : (n u : ℕ) → 0 < u → WithinHalf (closest n u) n u
closest_near n u U = near (n / u) (n % u) u n (div-add-mod' n u) (mod-lt n U)
