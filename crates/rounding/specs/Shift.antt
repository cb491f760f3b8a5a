-- What the shifts of a u64 leave. Assumes nothing.
use Rattle.std.specs.Prelude.{◌≡◌, ℕ, ◌+◌, ◌-◌, ◌*◌, ◌/◌, ◌%◌, ◌^◌, ◌<◌}
use Rattle.std.proofs.Common.{ap, ◌∙◌, lt_of_le_of_lt, mod-eq_of_lt, div-mul-le_self, div-add-mod', arith}
use Rattle.std.proofs.Math.Pow.{pow-lt}

-- `(q >> d) << d` is q without its last d digits, and q less that is those digits
shifted_back : (q d : ℕ) → q < 2 ^ 64 → q / 2 ^ d * 2 ^ d % 18446744073709551616 ≡ q / 2 ^ d * 2 ^ d
shifted_back q d h = mod-eq_of_lt (lt_of_le_of_lt (div-mul-le_self q (2 ^ d)) h)

pub shifted_out : (q d : ℕ) → q < 2 ^ 64 → q - q / 2 ^ d * 2 ^ d % 18446744073709551616 ≡ q % 2 ^ d
shifted_out q d h = let e : q / 2 ^ d * 2 ^ d + q % 2 ^ d ≡ q = div-add-mod' q (2 ^ d) in ap (λ (x : ℕ). q - x) (shifted_back q d h) ∙ omega arith

pub one_shifted : (d : ℕ) → d < 64 → 1 * 2 ^ d % 18446744073709551616 ≡ 2 ^ d
one_shifted d h = ap (λ (x : ℕ). x % 18446744073709551616) (omega arith) ∙ mod-eq_of_lt (pow-lt h)
