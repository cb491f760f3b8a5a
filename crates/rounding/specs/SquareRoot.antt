-- The square root, rounded once: the digits of the root that rounding needs, by the sticky law, and the root of a zero. Assumes nothing.
use Rattle.std.specs.Prelude.{◌≡◌, refl, Bool, true, false, T, ℤ, Float}
use Rattle.std.proofs.Math.Path.{sym, ap, ap₂}
use Rattle.std.proofs.Common.{◌∙◌, subst, le_of_eq, lt_of_le_of_lt, zero-mul, mul-one, mul_assoc, mul-pos, mul-le-mul, mul-le-mul_right, mul-lt-mul_of_pos_right, mod-eq_of_lt, lit≤, pow_pos, pow_mono}
use Prim.Native.Nat.{ℕ, zero, suc, ◌+◌, ◌-◌, ◌*◌, ◌/◌, ◌%◌, ◌^◌, ◌≤◌, ◌<◌, compare}
use Rattle.std.proofs.Math.Nat.{le_trans, lt_of_lt_of_le}
use native.Mathlib.Omega.{arith}
use Rattle.std.proofs.Math.Pow.{pow-add}
use Rattle.std.specs.Float.{nan, inf, fin, binary64}
use Rattle.std.specs.Float.Ieee.{up, down}
use Rattle.std.specs.Float.Ieee.Fits.{up_pos, down_pos}
use Rattle.rules.specs.Distances.{round_root, sqrt}
use Rattle.rounding.specs.StickyBit.{sticky_bit, factor_zero}
use Rattle.rounding.specs.Sticky.{sticky}
use Rattle.rounding.specs.FloorRoot.{IsRoot, root_with_sticky, root_ge, root_lt, root_order}
use Rattle.rounding.specs.RoundRoot.{root_rounds}
use Rattle.rounding.specs.Magnitude.{non_negative, IsMagnitude, Normalized, zero_magnitude, normalized_value}
use Rattle.rounding.specs.Pack.{rounded_from}

-- ---- the radicand: a significand of 61 digits, doubled where its exponent is odd

pub record Between (low high n : ℕ) : Type 0 where
  pub least : low ≤ n
  pub below : n < high

doubled_lt : (a x : ℕ) → a < 2 ^ 61 → a * 2 ^ (x % 2) < 2 ^ 62
doubled_lt a x h = lt_of_le_of_lt (mul-le-mul {m₁ = 2 ^ (x % 2)} {m₂ = 2 ^ 1} (le_of_eq refl) (pow_mono (one_at_most x))) (twice a h)
  where
    one_at_most : (x : ℕ) → x % 2 ≤ 1
    one_at_most x = omega arith

    twice : (a : ℕ) → a < 2 ^ 61 → a * 2 ^ 1 < 2 ^ 62
    twice a h = omega arith

doubled : (a x : ℕ) → a < 2 ^ 61 → a * 2 ^ (x % 2) % 18446744073709551616 ≡ a * 2 ^ (x % 2)
doubled a x h = mod-eq_of_lt (lt_of_lt_of_le (doubled_lt a x h) (lit≤ {m = 2 ^ 62} {n = 2 ^ 64} tt))

doubled_ge : (a x : ℕ) → 2 ^ 60 ≤ a → 2 ^ 60 ≤ a * 2 ^ (x % 2)
doubled_ge a x h = le_trans h (le_trans (le_of_eq (sym (mul-one a))) (mul-le-mul {n₁ = a} (le_of_eq refl) (pow_pos (x % 2))))

pub radicand_range : (a x : ℕ) → 2 ^ 60 ≤ a → a < 2 ^ 61 → Between (2 ^ 60) (2 ^ 62) (a * 2 ^ (x % 2) % 18446744073709551616)
radicand_range a x h l =
    record { least = le_trans (doubled_ge a x h) (le_of_eq (sym (doubled a x l))); below = lt_of_le_of_lt (le_of_eq (doubled a x l)) (doubled_lt a x l) }

-- ---- the root

sqrt_opened : (m : ℕ) (e : ℤ) → sqrt binary64 (fin false (suc m) e) ≡ round_root binary64 (suc m * up e) (down e)
unfolding sqrt
sqrt_opened m e = refl

sqrt_zero : (s : Bool) (e : ℤ) → sqrt binary64 (fin s zero e) ≡ fin s zero e
unfolding sqrt
sqrt_zero s e = refl

-- r is the whole part of the root of the radicand with 48 digits more, a * 2 ^ x being the number in units of 2^-1138
module _ (a x r : ℕ) (A : 2 ^ 60 ≤ a) (B : a < 2 ^ 61) (I : IsRoot (a * 2 ^ (x % 2) % 18446744073709551616 * 2 ^ 48) r) where
  n : ℕ
  n = a * 2 ^ (x % 2)

  low : 2 ^ 54 * 2 ^ 54 ≤ n * 2 ^ 48
  unfolding n
  low = le_trans (lit≤ {m = 2 ^ 54 * 2 ^ 54} {n = 2 ^ 60 * 2 ^ 48} tt) (mul-le-mul_right (2 ^ 48) (doubled_ge a x A))

  high : n * 2 ^ 48 < 2 ^ 55 * 2 ^ 55
  unfolding n
  high = lt_of_lt_of_le (mul-lt-mul_of_pos_right (doubled_lt a x B) (pow_pos 48)) (lit≤ {m = 2 ^ 62 * 2 ^ 48} {n = 2 ^ 55 * 2 ^ 55} tt)

  isr : IsRoot (n * 2 ^ 48) r
  unfolding n
  isr = subst (λ (z : ℕ). IsRoot (z * 2 ^ 48) r) (doubled a x B) I

  pub root_range : Between (2 ^ 54) (2 ^ 55) r
  root_range = record { least = root_ge (n * 2 ^ 48) r (2 ^ 54) isr low; below = root_lt (n * 2 ^ 48) r (2 ^ 55) isr high }

  scaled : (U de : ℕ) → U * 2 ^ 1138 ≡ a * 2 ^ x * de → U * (2 ^ 2276 * 2 ^ 2276) ≡ n * 2 ^ 48 * (2 ^ (x / 2 + 1683) * 2 ^ (x / 2 + 1683)) * de
  unfolding n
  scaled U de h =
      let i = x / 2 + 1683 in
      let e : x + 3414 ≡ x % 2 + 48 + (i + i) = places x in
      let p : 2 ^ x * 2 ^ 3414 ≡ 2 ^ (x % 2) * 2 ^ 48 * (2 ^ i * 2 ^ i) =
      sym (pow-add 2 x 3414) ∙ ap (λ (z : ℕ). 2 ^ z) e ∙ pow-add 2 (x % 2 + 48) (i + i) ∙ ap₂ (λ (z w : ℕ). z * w) (pow-add 2 (x % 2) 48) (pow-add 2 i i) in
      sym (mul_assoc U (2 ^ 1138) (2 ^ 3414)) ∙ ap (λ (z : ℕ). z * 2 ^ 3414) h ∙ turn a (2 ^ x) de (2 ^ 3414) ∙ ap (λ (z : ℕ). a * z * de) p ∙ back a (2 ^ (x % 2)) (2 ^ 48) (2 ^ i * 2 ^ i) de
    where
      places : (x : ℕ) → x + 3414 ≡ x % 2 + 48 + (x / 2 + 1683 + (x / 2 + 1683))
      places x = omega arith

      turn : (a p d q : ℕ) → a * p * d * q ≡ a * (p * q) * d
      turn a p d q = omega arith

      back : (a o k s d : ℕ) → a * (o * k * s) * d ≡ a * o * k * s * d
      back a o k s d = omega arith

  rounds_root : (m : ℕ) (e : ℤ) → suc m * up e * 2 ^ 1138 ≡ a * 2 ^ x * down e → round_root binary64 (suc m * up e) (down e) ≡ rounded_from r (sticky_bit (a * 2 ^ (x % 2) % 18446744073709551616 * 2 ^ 48 - r * r)) (x / 2 + 1683)
  unfolding n
  rounds_root m e h =
      let i = x / 2 + 1683 in
      let R = n * 2 ^ 48 in
      sticky binary64 false (λ (k : ℕ). compare R (k * k)) i 2276 (root_with_sticky R r) (round_root binary64 (suc m * up e) (down e))
      (root_rounds binary64 (suc m * up e) (down e) R i 2276 (down_pos e) (scaled (suc m * up e) (down e) h) (le_trans (lit≤ {m = 2 ^ 53 * 2 ^ 53} {n = 2 ^ 54 * 2 ^ 54} tt) low)) (λ (k : ℕ). root_order R r k isr)
      ∙ ap (λ (z : ℕ). rounded_from r (sticky_bit (z * 2 ^ 48 - r * r)) i) (sym (doubled a x B))

  pub root_nonzero : (v : Float) (sa ea : ℕ) → T (non_negative v) → IsMagnitude v sa ea → (sa ≡ 0 → ⊥) → Normalized sa ea a x
      → rounded_from r (sticky_bit (a * 2 ^ (x % 2) % 18446744073709551616 * 2 ^ 48 - r * r)) (x / 2 + 1683) ≡ sqrt binary64 v
  root_nonzero nan sa ea g M nz D = absurd g
  root_nonzero (inf t) sa ea g M nz D = absurd g
  root_nonzero (fin true m e) sa ea g M nz D = absurd g
  root_nonzero (fin false zero e) sa ea g M nz D =
      absurd (nz (factor_zero sa (2 ^ ea * down e) (mul-pos (pow_pos ea) (down_pos e)) (sym (mul_assoc sa (2 ^ ea) (down e)) ∙ sym M.value ∙ ap (λ (z : ℕ). z * 2 ^ 1074) (zero-mul (up e)) ∙ zero-mul (2 ^ 1074))))
  root_nonzero (fin false (suc m) e) sa ea g M nz D = sym (sqrt_opened m e ∙ rounds_root m e (normalized_value false (suc m) e sa ea a x M D))

pub root_zero : (x : Float) (sa ea : ℕ) → T (non_negative x) → IsMagnitude x sa ea → sa ≡ 0 → x ≡ sqrt binary64 x
root_zero nan sa ea g A z = absurd g
root_zero (inf t) sa ea g A z = absurd g
root_zero (fin s zero e) sa ea g A z = sym (sqrt_zero s e)
root_zero (fin s (suc m) e) sa ea g A z = absurd (no m (factor_zero (suc m) (up e) (up_pos e) (zero_magnitude s (suc m) e sa ea A z)))
  where
    no : (m : ℕ) → suc m ≡ 0 → ⊥
    no m h = omega arith
