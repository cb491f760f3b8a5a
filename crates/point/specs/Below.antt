-- A float below the rounded square of x is not above the exact square, and so its sum with z is not above x * x + z, rounded once.
-- Assumes nothing.
use Rattle.std.specs.Prelude.{◌≡◌, refl, true, false, not, ℕ, ◌+◌, ◌*◌, ◌/◌, ◌%◌, ◌≤◌, ◌<◌, T, ℤ, Float}
use Rattle.std.proofs.Common.{mul-pos, mul-le-mul_right, lt_of_lt_of_le, arith, pow_mono, shl_lt}
use Rattle.std.proofs.Math.Decide.{dec_lt, ℕ_discrete}
use Rattle.std.proofs.lemmas.Float as float
use Rattle.std.specs.Float.{nan, inf, fin, Format, binary64}
use Rattle.std.specs.Float.Ieee.{up, down, round, sum, add, mul, lt, le, fits, is_nan, to_bits}
use Rattle.std.specs.Float.Ieee.Exact.{HasValue, round_exact}
use Rattle.std.specs.Float.Ieee.Fits.{down_pos}
use Rattle.std.specs.Float.Ieee.Order.{le_of_values, round_mono}
use Rattle.rounding.specs.Magnitude.{IsMagnitude, subnormal_magnitude, normal_magnitude}
use Rattle.rules.specs.Distances.{mul_add}
use Rattle.plate_laws.specs.FiniteDistances.{unlike_self}
use Rattle.point.specs.Squares.{unsigned, rounded}
use Rattle.point.specs.Order.{infinity_top}

-- ---- a number of the format: rounding does not change it, and where it is below a rounded fraction it is not above the fraction

module _ (m : ℕ) (e : ℤ) (h : T (fits binary64 (fin false m e))) where
  abbrev own : Float
  own = round binary64 false (m * up e) (down e)

  by_magnitude : (significand exponent : ℕ) → IsMagnitude (fin false m e) significand exponent → HasValue own false (m * up e) (down e)
  by_magnitude significand exponent is =
      let places : 53 + exponent ≤ 2098 = omega (arith, is.range) in
      round_exact binary64 false (m * up e) (down e) significand exponent (down_pos e) is.small
      (lt_of_lt_of_le (shl_lt 53 exponent is.small) (pow_mono places)) is.value

  own_value : HasValue own false (m * up e) (down e)
  own_value = go (ℕ_discrete (to_bits binary64 (fin false m e) % 9223372036854775808 / 4503599627370496) 0)
    where
      go : Dec (to_bits binary64 (fin false m e) % 9223372036854775808 / 4503599627370496 ≡ 0) → HasValue own false (m * up e) (down e)
      go (yes z) = by_magnitude _ _ (subnormal_magnitude (fin false m e) h tt z)
      go (no z) = by_magnitude _ _ (normal_magnitude (fin false m e) h tt z)

  pub below_rounded : (a b : ℕ) → 0 < b → T (lt (fin false m e) (round binary64 false a b)) → m * up e * b ≤ a * down e
  below_rounded a b B l = go (dec_lt (a * down e) (m * up e * b))
    where
      y : Float
      y = fin false m e

      go : Dec (a * down e < m * up e * b) → m * up e * b ≤ a * down e
      go (no n) = omega arith
      go (yes k) =
          let up_to : T (le (round binary64 false a b) own) = round_mono binary64 a b (m * up e) (down e) B (down_pos e) (omega arith) in
          let same : T (le own y) = le_of_values own y (m * up e) (down e) (m * up e) (down e) (down_pos e) (down_pos e) own_value (refl, refl) (omega arith) in
          let first : T (lt y own) = float.lt_of_lt_of_le y (round binary64 false a b) own l up_to in
          absurd (float.lt_irrefl y (float.lt_of_lt_of_le y own y first same))

-- ---- below a rounded square

-- y is a number with a clear sign, and at most the exact square of x
abbrev pub AtMostSquare : Float → Float → Type 0
AtMostSquare nan x = ⊥
AtMostSquare (inf s) x = ⊥
AtMostSquare (fin true n d) x = ⊥
AtMostSquare (fin false n d) nan = ⊥
AtMostSquare (fin false n d) (inf s) = Unit {0}
AtMostSquare (fin false n d) (fin s m e) = n * up d * (down e * down e) ≤ m * up e * (m * up e) * down d

pub below_square : (y x : Float) → T (fits binary64 y) → T (unsigned y) → T (lt y (mul binary64 x x)) → AtMostSquare y x
unfolding lt mul
below_square nan x h u l = elim l [ ]
below_square (inf true) x h u l = elim u [ ]
below_square (fin false n d) nan h u l = elim l [ ]
below_square (fin true n d) x h u l = elim u [ ]
below_square (inf false) x h u l = absurd (infinity_top (mul binary64 x x) l)
below_square (fin false n d) (inf s) h u l = tt
below_square (fin false n d) (fin s m e) h u l =
    below_rounded n d h (m * up e * (m * up e)) (down e * down e) (mul-pos (down_pos e) (down_pos e)) (rw (unlike_self s) at l)

-- ---- the sum with z

-- where Y / y is at most A / a, Y / y + Z / z is at most A / a + Z / z
plus : (Y A Z a y z : ℕ) → Y * a ≤ A * y → (Y * z + Z * y) * (a * z) ≤ (A * z + Z * a) * (y * z)
plus Y A Z a y z h = omega (arith, mul-le-mul_right (z * z) h)

at_most_infinity : (f : Format) (a b : ℕ) → T (le (round f false a b) (inf false))
unfolding le
at_most_infinity = rounded (λ (x : Float). T (le x (inf false))) tt (λ (m : ℕ) (e : ℤ). tt)

pub sum_at_most : (f : Format) (y x z : Float) → AtMostSquare y x → T (unsigned z) → T (not (is_nan z)) → T (le (add f y z) (mul_add f x x z))
unfolding mul_add mul add sum is_nan
sum_at_most f nan _ z h u k = elim h [ ]
sum_at_most f (inf _) _ z h u k = elim h [ ]
sum_at_most f (fin false n d) nan z h u k = elim h [ ]
sum_at_most f (fin false n d) (inf s) nan h u k = elim k [ ]
sum_at_most f (fin false n d) (inf s) (inf true) h u k = elim u [ ]
sum_at_most f (fin false n d) (inf s) (fin true l c) h u k = elim u [ ]
sum_at_most f (fin false n d) (fin s m e) nan h u k = elim k [ ]
sum_at_most f (fin false n d) (fin s m e) (inf true) h u k = elim u [ ]
sum_at_most f (fin false n d) (fin s m e) (fin true l c) h u k = elim u [ ]
sum_at_most f (fin true n d) _ z h u k = elim h [ ]
sum_at_most f (fin false n d) (inf s) (inf false) h u k = rw (unlike_self s) (unfold le in tt)
sum_at_most f (fin false n d) (inf s) (fin false l c) h u k = rw (unlike_self s) (at_most_infinity f _ _)
sum_at_most f (fin false n d) (fin s m e) (inf false) h u k = unfold le in tt
sum_at_most f (fin false n d) (fin s m e) (fin false l c) h u k =
    rw (unlike_self s)
    (round_mono f _ _ _ _ (mul-pos (down_pos d) (down_pos c)) (mul-pos (mul-pos (down_pos e) (down_pos e)) (down_pos c))
    (plus (n * up d) (m * up e * (m * up e)) (l * up c) (down e * down e) (down d) (down c) h))
