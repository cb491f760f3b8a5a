-- The sticky law: the one fact about rounding, over a format's significand width, that both leaves rest on.
-- The fused sum (SquareSum.antt) and the square root (SquareRoot.antt) cite it: `sticky`, the last line of this file.
--
-- In plain words: rounding to nearest, ties to even, sees a number x only by how x compares with whole ulps and with the middle between two of them.
-- Where x has more binary digits before its point than the format's significand has, all of these are whole numbers. So x may be replaced by
-- (2 q + t) / 2, q being the whole part of x and t its sticky bit, which is 1 if the cut took something off and 0 if not: the two compare alike with
-- every whole number. Assumes nothing.
use Rattle.std.specs.Prelude.{◌≡◌, ◌⊎◌, Bool, Float}
use Rattle.std.proofs.Common.{sym, ap, ◌∙◌, inl, inr, le_trans, le_of_eq, lt_of_lt_of_le, lt_of_le_of_lt, zero-lt-suc, mul_assoc, mul_left_comm, mul-pos, mul-le-mul_right, mul-le-mul_left, mul-lt-mul_of_pos_right, le_antisymm, le_of_suc-le-suc, le-div_iff_mul-le, div-lt_iff_lt-mul, arith, pow-add, pow_pos}
use Prim.Native.Nat.{ℕ, suc, ◌+◌, ◌-◌, ◌*◌, ◌/◌, ◌^◌, ◌≤◌, ◌<◌, compare, Ordering}
use Rattle.std.proofs.Math.Nat.{pow-succ'}
use Rattle.std.specs.Float.{Format}
use Rattle.std.specs.Float.Ieee.{prec, low, nearest, units, round}
use Rattle.std.specs.Float.Ieee.Nearest.{closest, closest_same}
use Rattle.rounding.specs.Compare.{lt_of, ge_of, double_order}
use Rattle.rounding.specs.Significand.{Drops, round_at, closest_by, regroup}

-- v is x × 2^i / 2^j with the sign s, rounded to the format f. Of x it is known how x compares with each whole number.
pub record Rounds (f : Format) (s : Bool) (x : ℕ → Ordering) (i j : ℕ) (v : Float) : Type 0 where
  -- v's ulp is 2^exponent of the format's smallest numbers, and 2^(dropped + 1) of x's units
  pub exponent : ℕ
  pub dropped : ℕ
  pub ulp : j + exponent ≡ i + low f + suc dropped
  -- x is at least `significand` ulps, and less than one more
  pub significand : ℕ
  pub reached : x (significand * 2 ^ suc dropped) ≡ Ordering.lt → ⊥
  pub next : x (suc significand * 2 ^ suc dropped) ≡ Ordering.lt
  -- they fit the format's width, and fill it unless v is subnormal
  pub most : significand < 2 ^ prec f
  pub least : (exponent ≡ 0) ⊎ (2 ^ (prec f - 1) ≤ significand)
  -- v is the nearer of the two by the middle between them, at a tie the even one
  pub value : v ≡ units f s (nearest significand (x ((2 * significand + 1) * 2 ^ dropped))) exponent

-- ---- the number y / 2 in x's place

-- the ulp in x and in the format's smallest numbers: J * K = U * W, with J = 2^j, K = 2^exponent, U = 2^(i + low f), W = 2^(dropped + 1)
below_ulp : (y q p J K U W : ℕ) → J * K ≡ U * W → 0 < U → y < 2 * (suc q * W) → suc q ≤ p → y * U < p * K * (2 * J)
below_ulp y q p J K U W e u h g =
    lt_of_lt_of_le (mul-lt-mul_of_pos_right h u) (le_trans (mul-le-mul_right U (mul-le-mul_left 2 (mul-le-mul_right W g))) (le_of_eq (turn p U W ∙ ap (λ (x : ℕ). 2 * (p * x)) (sym e) ∙ back p K J)))
  where
    turn : (p u w : ℕ) → 2 * (p * w) * u ≡ 2 * (p * (u * w))
    turn p u w = omega arith

    back : (p k j : ℕ) → 2 * (p * (j * k)) ≡ p * k * (2 * j)
    back p k j = omega arith

above_ulp : (y q p J K U W : ℕ) → J * K ≡ U * W → 2 * (q * W) ≤ y → p ≤ q → p * K * (2 * J) ≤ y * U
above_ulp y q p J K U W e h g =
    le_trans (le_of_eq (turn p K J ∙ ap (λ (x : ℕ). 2 * (p * x)) e ∙ back p U W)) (mul-le-mul_right U (le_trans (mul-le-mul_left 2 (mul-le-mul_right W g)) h))
  where
    turn : (p k j : ℕ) → p * k * (2 * j) ≡ 2 * (p * (j * k))
    turn p k j = omega arith

    back : (p u w : ℕ) → 2 * (p * (u * w)) ≡ 2 * (p * w) * u
    back p u w = omega arith

module _ (f : Format) (i j y k d q : ℕ) (ulp : j + k ≡ i + low f + suc d) (reached : 2 * (q * 2 ^ suc d) ≤ y) (next : y < 2 * (suc q * 2 ^ suc d)) where
  scale : 2 ^ j * 2 ^ k ≡ 2 ^ i * 2 ^ low f * 2 ^ suc d
  scale = sym (pow-add 2 j k) ∙ ap (λ (z : ℕ). 2 ^ z) ulp ∙ pow-add 2 (i + low f) (suc d) ∙ ap (λ (z : ℕ). z * 2 ^ suc d) (pow-add 2 i (low f))

  digits_dropped : q < 2 ^ prec f → (k ≡ 0) ⊎ (2 ^ (prec f - 1) ≤ q) → Drops (prec f) (y * 2 ^ i * 2 ^ low f) (2 * 2 ^ j) k
  digits_dropped most least = (
    lt_of_le_of_lt (le_of_eq (mul_assoc y (2 ^ i) (2 ^ low f)))
        (lt_of_lt_of_le (below_ulp y q (2 ^ prec f) (2 ^ j) (2 ^ k) (2 ^ i * 2 ^ low f) (2 ^ suc d) scale (mul-pos (pow_pos i) (pow_pos (low f))) next most)
        (le_of_eq (ap (λ (z : ℕ). z * (2 * 2 ^ j)) (sym (pow-add 2 (prec f) k))))),
    go least,
  )
    where
      go : (k ≡ 0) ⊎ (2 ^ (prec f - 1) ≤ q) → (k ≡ 0) ⊎ (2 ^ (prec f - 1 + k) * (2 * 2 ^ j) ≤ y * 2 ^ i * 2 ^ low f)
      go (inl z) = inl z
      go (inr h) =
          inr (le_trans (le_of_eq (ap (λ (z : ℕ). z * (2 * 2 ^ j)) (pow-add 2 (prec f - 1) k)))
          (le_trans (above_ulp y q (2 ^ (prec f - 1)) (2 ^ j) (2 ^ k) (2 ^ i * 2 ^ low f) (2 ^ suc d) scale reached h) (le_of_eq (sym (mul_assoc y (2 ^ i) (2 ^ low f))))))

  -- in units of half of x's last digit an ulp is 2 * 2 ^ suc d
  whole_ulps : y / (2 * 2 ^ suc d) ≡ q
  whole_ulps =
      le_antisymm
      (le_of_suc-le-suc ((div-lt_iff_lt-mul (mul-pos (zero-lt-suc 1) (pow_pos (suc d)))).1 (lt_of_lt_of_le next (le_of_eq (mul_left_comm 2 (suc q) (2 ^ suc d))))))
      ((le-div_iff_mul-le (mul-pos (zero-lt-suc 1) (pow_pos (suc d)))).1 (le_trans (le_of_eq (mul_left_comm q 2 (2 ^ suc d))) reached))

  significand_is : closest (y * 2 ^ i * 2 ^ low f) (2 * 2 ^ j * 2 ^ k) ≡ nearest q (compare y (2 * ((2 * q + 1) * 2 ^ d)))
  significand_is =
      closest_same (y * 2 ^ i * 2 ^ low f) (2 * 2 ^ j * 2 ^ k) y (2 * 2 ^ suc d) (mul-pos (mul-pos (zero-lt-suc 1) (pow_pos j)) (pow_pos k)) (mul-pos (zero-lt-suc 1) (pow_pos (suc d)))
      (regroup y (2 ^ i) (2 ^ low f) (2 ^ suc d) (2 ^ j) (2 ^ k) scale)
      ∙ closest_by y (2 * 2 ^ suc d)
      ∙ ap (λ (z : ℕ). nearest z (compare (2 * y) ((2 * z + 1) * (2 * 2 ^ suc d)))) whole_ulps
      ∙ ap (λ (z : ℕ). nearest q (compare (2 * y) ((2 * q + 1) * (2 * z)))) (pow-succ' 2 d)
      ∙ ap (λ (z : ℕ). nearest q (compare (2 * y) z)) (middle (2 * q + 1) (2 ^ d))
      ∙ ap (λ (o : Ordering). nearest q o) (double_order y (2 * ((2 * q + 1) * 2 ^ d)))
    where
      middle : (a b : ℕ) → a * (2 * (2 * b)) ≡ 2 * (2 * (a * b))
      middle a b = omega arith

-- ---- the law

pub sticky : (f : Format) (s : Bool) (x : ℕ → Ordering) (i j y : ℕ) (v : Float) → Rounds f s x i j v → ((m : ℕ) → x m ≡ compare y (2 * m))
    → v ≡ round f s (y * 2 ^ i) (2 * 2 ^ j)
sticky f s x i j y v R same =
    let k = R.exponent in
    let d = R.dropped in
    let q = R.significand in
    let reached : 2 * (q * 2 ^ suc d) ≤ y = ge_of y (2 * (q * 2 ^ suc d)) (λ (e : compare y (2 * (q * 2 ^ suc d)) ≡ Ordering.lt). R.reached (same (q * 2 ^ suc d) ∙ e)) in
    let next : y < 2 * (suc q * 2 ^ suc d) = lt_of y (2 * (suc q * 2 ^ suc d)) (sym (same (suc q * 2 ^ suc d)) ∙ R.next) in
    R.value
    ∙ ap (λ (o : Ordering). units f s (nearest q o) k) (same ((2 * q + 1) * 2 ^ d))
    ∙ ap (λ (n : ℕ). units f s n k) (sym (significand_is f i j y k d q R.ulp reached next))
    ∙ sym (round_at f s (y * 2 ^ i) (2 * 2 ^ j) k (mul-pos (zero-lt-suc 1) (pow_pos j)) (digits_dropped f i j y k d q R.ulp reached next R.most R.least))
