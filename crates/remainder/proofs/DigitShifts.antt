-- A remainder by a few digits at a time. Assumes nothing.
use Rattle.std.specs.Prelude.{◌≡◌, ℕ, ◌+◌, ◌-◌, ◌*◌, ◌%◌, ◌^◌, ◌≤◌, ◌<◌}
use Rattle.std.proofs.Common.{sym, ap, ◌∙◌, lt_of_lt_of_le, mul_assoc, mod-eq_of_lt, arith, pow-add, pow_mono, shl_lt}
use Rattle.std.proofs.lemmas.Nat.{mul-mod_first}

-- a significand has room for 11 digits more
pub shift_fits : (r d : ℕ) → r < 2 ^ 53 → d ≤ 11 → r * 2 ^ d % 18446744073709551616 ≡ r * 2 ^ d
shift_fits r d h g =
    let places : 53 + d ≤ 64 = omega arith in
    mod-eq_of_lt (lt_of_lt_of_le (shl_lt 53 d h) (pow_mono places))

-- k of d digits are shifted in, and the others wait
pub shift_in : (r k d m : ℕ) → k ≤ d → r * 2 ^ k % m * 2 ^ (d - k) % m ≡ r * 2 ^ d % m
shift_in r k d m h =
    mul-mod_first (r * 2 ^ k) (2 ^ (d - k)) m
    ∙ ap (λ (x : ℕ). x % m) (mul_assoc r (2 ^ k) (2 ^ (d - k)) ∙ ap (λ (x : ℕ). r * x) (sym (pow-add 2 k (d - k)) ∙ ap (λ (x : ℕ). 2 ^ x) (whole k d h)))
  where
    whole : (k d : ℕ) → k ≤ d → k + (d - k) ≡ d
    whole k d h = omega arith
