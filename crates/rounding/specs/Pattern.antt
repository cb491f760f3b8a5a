-- From a significand and the exponent of its ulp to the bit pattern of the rounded number. Assumes nothing.
use Rattle.std.specs.Prelude.{◌≡◌, refl, ◌⊎◌, ℕ, suc, ◌+◌, ◌-◌, ◌*◌, ◌/◌, ◌%◌, ◌^◌, ◌≤◌, ◌<◌, Bool, true, not, T, ltb, Float}
use Rattle.std.proofs.Math.Path.{sym, ap}
use Rattle.std.proofs.Common.{ap₂, ◌∙◌, subst, inl, inr, le_trans, le_of_eq, le_antisymm, lt_of_le_of_lt, zero-lt-suc, eq-or-lt_of_le, mul-pos, mul-le-mul, mul-le-mul_right, le_of_mul-le-mul_right, mul-div_cancel, mod-eq_of_lt, arith, true≢false, ltb→lt, nltb→le, pow-add, pow_pos, pow_mono, shl_lt}
use Rattle.std.proofs.Math.Nat.{pow-succ'}
use Rattle.std.proofs.Math.Bool.{false}
use Rattle.std.proofs.Math.Arith.{le→nltb}
use Rattle.std.proofs.Math.Pow.{pow-lt}
use Rattle.std.specs.Float.{nan, inf, fin, Format}
use Rattle.std.specs.Float.Ieee.{binary64, prec, emax, low, hid, up, down, size, odd, units, round, fits, of_bits, to_bits, nan_bits}
use Rattle.std.specs.Float.Ieee.Digits.{size-le}
use Rattle.std.specs.Float.Ieee.Fits.{two, two-le_pos, round-fits, down_pos}
use Rattle.std.specs.Float.Ieee.Exact.{HasValue, units_val}
use Rattle.std.specs.Float.Ieee.Nearest.{closest}
use Rattle.std.specs.Float.Ieee.Bits.{of_bits-to_bits, cond_no, nan_bits_above}
use Rattle.rounding.specs.Significand.{Drops, round_at, size_gt, size_drops, pow_lt_back, significand_most, significand_least}

-- ---- the pattern of q * 2 ^ k of the format's smallest numbers

to_bits_val : (f : Format) (x : Float) (n : ℕ) → HasValue x false n (2 ^ low f) → to_bits f x ≡ (size n - prec f) * hid f + n / 2 ^ (size n - prec f)
unfolding to_bits
to_bits_val f nan n h = absurd h
to_bits_val f (inf t) n h = absurd h
to_bits_val f (fin true m e) n h = absurd (true≢false h.0)
to_bits_val f (fin false m e) n h =
    let v : m * up e * 2 ^ low f / down e ≡ n = ap (λ (x : ℕ). x / down e) h.1 ∙ mul-div_cancel n (down_pos e) in
    ap (λ (x : ℕ). 0 + (size x - prec f) * hid f + x / 2 ^ (size x - prec f)) v ∙ zero_plus ((size n - prec f) * hid f) (n / 2 ^ (size n - prec f))
  where
    zero_plus : (a b : ℕ) → 0 + a + b ≡ a + b
    zero_plus a b = omega arith

-- the leading digit adds one to the exponent's field, also where q was rounded up to 2 ^ p
fields_of : (p q k : ℕ) → 0 < p → q ≤ 2 ^ p → (k ≡ 0) ⊎ (2 ^ (p - 1) ≤ q) → (size (q * 2 ^ k) - p) * 2 ^ (p - 1) + q * 2 ^ k / 2 ^ (size (q * 2 ^ k) - p) ≡ k * 2 ^ (p - 1) + q
fields_of p q k P h g = go (eq-or-lt_of_le h)
  where
    n : ℕ
    n = q * 2 ^ k

    at : (i : ℕ) → size n - p ≡ i → (size n - p) * 2 ^ (p - 1) + n / 2 ^ (size n - p) ≡ i * 2 ^ (p - 1) + n / 2 ^ i
    at i e = ap (λ (x : ℕ). x * 2 ^ (p - 1) + n / 2 ^ x) e

    low_end : (k ≡ 0) ⊎ (2 ^ (p - 1) ≤ q) → (k ≡ 0) ⊎ (p - 1 + k < size n)
    low_end (inl z) = inl z
    low_end (inr l) = inr (size_gt n (p - 1 + k) (le_trans (le_of_eq (pow-add 2 (p - 1) k)) (mul-le-mul_right (2 ^ k) l)))

    go : (q ≡ 2 ^ p) ⊎ (q < 2 ^ p) → (size n - p) * 2 ^ (p - 1) + n / 2 ^ (size n - p) ≡ k * 2 ^ (p - 1) + q
    go (inr l) = at k (size_drops p k (size n) P (size-le n (p + k) (shl_lt p k l)) (low_end g)) ∙ ap (λ (x : ℕ). k * 2 ^ (p - 1) + x) (mul-div_cancel q (pow_pos k))
    go (inl e) =
        let n_is : n ≡ 2 ^ (p + k) = ap (λ (x : ℕ). x * 2 ^ k) e ∙ sym (pow-add 2 p k) in
        let twice : 2 ^ p ≡ 2 * 2 ^ (p - 1) = ap (λ (x : ℕ). 2 ^ x) (pred_suc p P) ∙ pow-succ' 2 (p - 1) in
        let z : size n - p ≡ suc k = above p k (size n) (size_gt n (p + k) (le_of_eq (sym n_is))) (size-le n (suc (p + k)) (lt_of_le_of_lt (le_of_eq n_is) (grows (p + k)))) in
        let d : n / 2 ^ suc k ≡ 2 ^ (p - 1) = ap (λ (x : ℕ). x * 2 ^ k / 2 ^ suc k) (e ∙ twice) ∙ ap (λ (x : ℕ). 2 * 2 ^ (p - 1) * 2 ^ k / x) (pow-succ' 2 k) ∙ ap (λ (x : ℕ). x / (2 * 2 ^ k)) (turn (2 ^ (p - 1)) (2 ^ k)) ∙ mul-div_cancel (2 ^ (p - 1)) (mul-pos (zero-lt-suc 1) (pow_pos k)) in
        at (suc k) z ∙ ap (λ (x : ℕ). suc k * 2 ^ (p - 1) + x) d ∙ last k (2 ^ (p - 1)) q (e ∙ twice)
      where
        pred_suc : (p : ℕ) → 0 < p → p ≡ suc (p - 1)
        pred_suc p h = omega arith

        above : (p k z : ℕ) → p + k < z → z ≤ suc (p + k) → z - p ≡ suc k
        above p k z h g = omega arith

        grows : (a : ℕ) → 2 ^ a < 2 ^ suc a
        grows a = let h : 0 < 2 ^ a = pow_pos a in omega arith

        turn : (a b : ℕ) → 2 * a * b ≡ a * (2 * b)
        turn a b = omega arith

        last : (k h q : ℕ) → q ≡ 2 * h → suc k * h + h ≡ k * h + q
        last k h q e = omega arith

units_bits : (f : Format) (q k : ℕ) → q ≤ 2 ^ prec f → (k ≡ 0) ⊎ (2 ^ (prec f - 1) ≤ q) → q * 2 ^ k < 2 ^ (low f + suc (emax f)) → to_bits f (units f false q k) ≡ k * hid f + q
units_bits f q k h g o = to_bits_val f (units f false q k) (q * 2 ^ k) (units_val f false q k o) ∙ fields_of (prec f) q k (two-le_pos (prec f) (two f)) h g

too_big : (f : Format) (q k : ℕ) → 2 ^ (low f + suc (emax f)) ≤ q * 2 ^ k → units f false q k ≡ inf false
unfolding units
too_big f q k h = cond_no (ltb (q * 2 ^ k) (2 ^ (low f + suc (emax f)))) (odd (suc (prec f)) false q k (low f)) (inf false) (le→nltb (q * 2 ^ k) (2 ^ (low f + suc (emax f))) h)

-- ---- binary64

pub inf_bits : of_bits binary64 9218868437227405312 ≡ inf false
unfolding of_bits
inf_bits = refl

-- a pattern up to infinity's is no NaN's
pub not_nan : (n : ℕ) → n ≤ 9218868437227405312 → T (not (nan_bits binary64 n))
not_nan n h =
    subst (λ (b : Bool). T (not b)) (sym (nan_bits_above binary64 n))
    (le→nltb 9218868437227405312 (n % 9223372036854775808) (le_trans (le_of_eq (mod-eq_of_lt (omega arith))) h))

-- k is the count of dropped digits: up to 2045 the pattern is the rounded number's, which may be infinity's; beyond, the number overflows
module _ (num den k : ℕ) (D : 0 < den) (d : Drops 53 (num * 2 ^ 1074) den k) where
  q : ℕ
  q = closest (num * 2 ^ 1074) (den * 2 ^ k)

  is_units : round binary64 false num den ≡ units binary64 false q k
  unfolding q
  is_units = round_at binary64 false num den k D d

  q_most : q ≤ 2 ^ 53
  unfolding q
  q_most = significand_most 53 (num * 2 ^ 1074) den k D d

  q_least : (k ≡ 0) ⊎ (2 ^ 52 ≤ q)
  unfolding q
  q_least = significand_least 53 (num * 2 ^ 1074) den k D d

  in_range_lem : q * 2 ^ k < 2 ^ 2098 → of_bits binary64 (k * 2 ^ 52 + q) ≡ units binary64 false q k
  in_range_lem h =
      ap (λ (n : ℕ). of_bits binary64 n) (sym (units_bits binary64 q k q_most q_least h))
      ∙ of_bits-to_bits binary64 (units binary64 false q k) (subst (λ (v : Float). T (fits binary64 v)) is_units (round-fits binary64 false num den))

  at_end : k ≤ 2045 → 2 ^ 2098 ≤ q * 2 ^ k → of_bits binary64 (k * 2 ^ 52 + q) ≡ units binary64 false q k
  at_end h o =
      let a : 2 ^ 2098 ≤ 2 ^ (53 + k) = le_trans o (le_trans (mul-le-mul_right (2 ^ k) q_most) (le_of_eq (sym (pow-add 2 53 k)))) in
      let b : 2098 ≤ 53 + k = pow_le_back 2098 (53 + k) a in
      let e : k ≡ 2045 = omega arith in
      let o' : 2 ^ 53 * 2 ^ 2045 ≤ q * 2 ^ 2045 = subst (λ (x : ℕ). 2 ^ 2098 ≤ q * 2 ^ x) e o in
      let g : q ≡ 2 ^ 53 = le_antisymm q_most (le_of_mul-le-mul_right o' (pow_pos 2045)) in
      ap₂ (λ (x y : ℕ). of_bits binary64 (x * 2 ^ 52 + y)) e g ∙ inf_bits ∙ sym (too_big binary64 q k o)
    where
      pow_le_back : (i p : ℕ) → 2 ^ i ≤ 2 ^ p → i ≤ p
      pow_le_back i p h = let a = pow_lt_back i (suc p) (lt_of_le_of_lt h (pow-lt (step p))) in omega arith
        where
          step : (p : ℕ) → p < suc p
          step p = omega arith

  split_at : (b : Bool) → (T b → q * 2 ^ k < 2 ^ 2098) → (T (not b) → 2 ^ 2098 ≤ q * 2 ^ k) → k ≤ 2045 → of_bits binary64 (k * 2 ^ 52 + q) ≡ units binary64 false q k
  split_at true t f h = in_range_lem (t tt)
  split_at false t f h = at_end h (f tt)

  pub rounded_bits : (m : ℕ) → m ≡ closest (num * 2 ^ 1074) (den * 2 ^ k) → k ≤ 2045 → of_bits binary64 (k * 2 ^ 52 + m) ≡ round binary64 false num den
  unfolding q
  rounded_bits m e h = ap (λ (x : ℕ). of_bits binary64 (k * 2 ^ 52 + x)) e ∙ split_at (ltb (q * 2 ^ k) (2 ^ 2098)) (ltb→lt (q * 2 ^ k) (2 ^ 2098)) (nltb→le (q * 2 ^ k) (2 ^ 2098)) h ∙ sym is_units

  pub overflowed : 2046 ≤ k → inf false ≡ round binary64 false num den
  overflowed h = sym (is_units ∙ too_big binary64 q k (go q_least))
    where
      none : (k : ℕ) → k ≡ 0 → 2046 ≤ k → ⊥
      none k e h = omega arith

      go : (k ≡ 0) ⊎ (2 ^ 52 ≤ q) → 2 ^ 2098 ≤ q * 2 ^ k
      go (inl z) = absurd (none k z h)
      go (inr l) = le_trans (le_of_eq (pow-add 2 52 2046)) (mul-le-mul l (pow_mono h))
