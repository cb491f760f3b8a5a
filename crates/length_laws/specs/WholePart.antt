-- How the code computes a length: the distance times 1,024 is exact, and its whole part has 32 bits. Assumes nothing.
use Rattle.std.specs.Prelude.{◌≡◌, true, false, ℕ, ◌+◌, ◌*◌, ◌/◌, ◌^◌, ◌<◌, min, pos, Float}
use Rattle.std.proofs.Common.{sym, ap, ◌∙◌, lt_of_le_of_lt, lt_of_lt_of_le, le_trans, le_of_eq, true≢false, mul-pos, zero-lt-suc, mul-lt-mul_of_pos_right, lt_of_mul-lt-mul_right, div-lt_iff_lt-mul, arith, lit≤, pow-add, pow_mono}
use Rattle.std.specs.Float.{nan, inf, fin, binary64}
use Rattle.std.specs.Float.Ieee.{up, down, mul, to_unsigned, round}
use Rattle.std.specs.Float.Ieee.Exact.{HasValue, round_exact}
use Rattle.std.specs.Float.Ieee.Fits.{down_pos}
use Rattle.std.specs.Float.Ieee.Nearest.{div_same}
use Rattle.rules.specs.Distances.{distance}
use Rattle.rules.specs.Lengths.{in_1024ths, pair_length}
use Rattle.rules.specs.declared.Point.{Point}
use Rattle.plate_laws.specs.FiniteDistances.{OnPlate}
use Rattle.length_laws.specs.Roots.{Short, short_distance}

-- the whole part of a / c, which has 32 bits
whole_part : (x : Float) (a c : ℕ) → 0 < c → HasValue x false a c → a < 4294967296 * c → to_unsigned 32 x ≡ a / c
unfolding to_unsigned
whole_part nan a c C v h = absurd v
whole_part (inf s) a c C v h = absurd v
whole_part (fin true m e) a c C v h = absurd (true≢false v.0)
whole_part (fin false m e) a c C v h =
    ap (λ (i : ℕ). min i 4294967295) (div_same (m * up e) (down e) a c (down_pos e) C v.1) ∙ few (a / c) ((div-lt_iff_lt-mul C).1 h)
  where
    few : (i : ℕ) → i < 4294967296 → min i 4294967295 ≡ i
    few i h = omega arith

-- u / d is q * 2 ^ j units, and below 2 ^ 22. So times 1,024 it is that many units too, with 10 more places, and below 2 ^ 32.
module _ (u d q j : ℕ) (D : 0 < d) (value : u * 2 ^ 1074 ≡ q * 2 ^ j * d) (below : q * 2 ^ j < 2 ^ 22 * 2 ^ 1074) where
  scaled : u * (1 * 2 ^ 10) * 2 ^ 1074 ≡ q * 2 ^ (j + 10) * (d * 1)
  scaled = go u d (2 ^ 1074) (q * 2 ^ j) value ∙ ap (λ (i : ℕ). i * (d * 1)) (back q (2 ^ j) ∙ ap (λ (i : ℕ). q * i) (sym (pow-add 2 j 10)))
    where
      go : (u d L v : ℕ) → u * L ≡ v * d → u * (1 * 2 ^ 10) * L ≡ v * 2 ^ 10 * (d * 1)
      go u d L v h = omega arith

      back : (q a : ℕ) → q * a * 2 ^ 10 ≡ q * (a * 2 ^ 10)
      back q a = omega arith

  no_overflow : q * 2 ^ (j + 10) < 2 ^ 2098
  no_overflow =
      lt_of_lt_of_le (lt_of_le_of_lt (le_of_eq (ap (λ (i : ℕ). q * i) (pow-add 2 j 10))) (go q (2 ^ j) (2 ^ 1074) below))
      (le_trans (le_of_eq (sym (pow-add 2 32 1074))) (pow_mono {i = 1106} {j = 2098} (lit≤ tt)))
    where
      go : (q a L : ℕ) → q * a < 2 ^ 22 * L → q * (a * 2 ^ 10) < 2 ^ 32 * L
      go q a L h = omega arith

  in_32_bits : u * (1 * 2 ^ 10) < 4294967296 * (d * 1)
  in_32_bits = lt_of_mul-lt-mul_right (2 ^ 1074) (go u d (2 ^ 1074) (q * 2 ^ j) value (mul-lt-mul_of_pos_right below D))
    where
      go : (u d L v : ℕ) → u * L ≡ v * d → v * d < 2 ^ 22 * L * d → u * (1 * 2 ^ 10) * L < 4294967296 * (d * 1) * L
      go u d L v h g = omega arith

times_1024 : (x : Float) → Short x → to_unsigned 32 (mul binary64 x (fin false 1 (pos 10))) ≡ in_1024ths x
unfolding mul in_1024ths
times_1024 nan s = absurd s.value
times_1024 (inf t) s = absurd s.value
times_1024 (fin true m e) s = absurd (true≢false s.value.0)
times_1024 (fin false m e) s =
    let u = m * up e in
    let d = down e in
    let D : 0 < d * 1 = mul-pos (down_pos e) (zero-lt-suc 0) in
    let exact = round_exact binary64 false (u * (1 * 2 ^ 10)) (d * 1) s.q (s.j + 10) D s.few (no_overflow u d s.q s.j (down_pos e) s.value.1 s.below)
    (scaled u d s.q s.j (down_pos e) s.value.1 s.below) in
    whole_part (round binary64 false (u * (1 * 2 ^ 10)) (d * 1)) (u * (1 * 2 ^ 10)) (d * 1) D exact (in_32_bits u d s.q s.j (down_pos e) s.value.1 s.below)
    ∙ div_same (u * (1 * 2 ^ 10)) (d * 1) (u * 1024) d D (down_pos e) (same u d)
  where
    same : (u d : ℕ) → u * (1 * 2 ^ 10) * d ≡ u * 1024 * (d * 1)
    same u d = omega arith

pub length_is : (a b : Point) → OnPlate a.x → OnPlate a.y → OnPlate b.x → OnPlate b.y →
    to_unsigned 32 (mul binary64 (distance a b) (fin false 1 (pos 10))) ≡ pair_length a b
unfolding pair_length
length_is a b ax ay bx by = times_1024 (distance a b) (short_distance a b ax ay bx by)
