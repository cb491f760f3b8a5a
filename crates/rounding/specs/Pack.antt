-- A number of up to 63 digits with its sticky bit, rounded once and packed into a bit pattern. Assumes nothing.
use Rattle.std.specs.Prelude.{◌≡◌, ◌⊎◌, false, Float}
use Rattle.std.proofs.Common.{sym, ap, ap₂, ◌∙◌, subst, inl, inr, le_of_eq, lt_of_lt_of_le, lt_of_le_of_lt, zero-lt-suc, mul_comm, mul_left_comm, mul-pos, mul-le-mul_right, mul-le-mul_left, mul-lt-mul_of_pos_right, mod-eq_of_lt, mod-lt, div-add-mod', arith, pow-add, pow_pos, pow_mono}
use Prim.Native.Nat.{ℕ, suc, ◌+◌, ◌-◌, ◌*◌, ◌/◌, ◌%◌, ◌^◌, ◌≤◌, ◌<◌, compare, Ordering}
use Rattle.std.proofs.Math.Nat.{le_trans, div-eq_of_lt}
use Rattle.std.proofs.Math.Arith.{digits_div, digits_mod}
use Rattle.std.specs.Int.Count.{count_leading_zeros}
use Rattle.std.proofs.lemmas.Nat.{leading_top}
use Rattle.std.specs.Float.{binary64}
use Rattle.std.specs.Float.Ieee.{nearest, round, of_bits}
use Rattle.std.specs.Float.Ieee.Nearest.{closest, closest_same}
use Rattle.rounding.specs.Compare.{is_lt, double_order}
use Rattle.rounding.specs.Significand.{Drops, pow_lt_back, significand_most, regroup}
use Rattle.rounding.specs.Pattern.{rounded_bits, overflowed, inf_bits}

-- ---- definitions

-- (q + t / 2) × 2^e units of 2^-2276, rounded once: q a number's leading digits, t its sticky bit
abbrev pub rounded_from : ℕ → ℕ → ℕ → Float
rounded_from q t e = round binary64 false ((2 * q + t) * 2 ^ e) (2 * 2 ^ 2276)

-- how many digits a u64 has
abbrev pub digits : ℕ → ℕ
digits q = 64 - count_leading_zeros 64 q

-- the ulp of the result, for a number of z digits, is 2^k times the smallest number
pub record UlpExponent (z e k : ℕ) : Type 0 where
  pub most : z + e ≤ 1255 + k
  pub least : (k ≡ 0) ⊎ (k + 1255 ≡ z + e)

-- ---- `rounded_shift`

pub shift_rounds : (q t cut : ℕ) → t ≤ 1 → nearest (q / 2 ^ cut) (compare (2 * (q % 2 ^ cut) + t) (2 ^ cut)) ≡ closest (2 * q + t) (2 * 2 ^ cut)
shift_rounds q t cut h =
    let C = 2 ^ cut in
    let m = q / C in
    let r = q % C in
    let small : 2 * r + t < 2 * C = tail_lt r t C h (mod-lt q (pow_pos cut)) in
    let e : m * C + r ≡ q = div-add-mod' q C in
    let y : m * (2 * C) + (2 * r + t) ≡ 2 * q + t = omega arith in
    let d : (2 * q + t) / (2 * C) ≡ m = ap (λ (x : ℕ). x / (2 * C)) (sym y) ∙ digits_div m small in
    let w : (2 * q + t) % (2 * C) ≡ 2 * r + t = ap (λ (x : ℕ). x % (2 * C)) (sym y) ∙ digits_mod m small in
    ap (λ (o : Ordering). nearest m o) (sym (double_order (2 * r + t) C) ∙ ap (λ (x : ℕ). compare x (2 * C)) (mul_comm 2 (2 * r + t)))
    ∙ ap₂ (λ (a b : ℕ). nearest a (compare (b * 2) (2 * C))) (sym d) (sym w)
  where
    tail_lt : (r t c : ℕ) → t ≤ 1 → r < c → 2 * r + t < 2 * c
    tail_lt r t c h l = omega arith

-- ---- `round_pack`

pub record HasDigits (q : ℕ) : Type 0 where
  pub many : 54 ≤ digits q
  pub zeros : count_leading_zeros 64 q ≤ 10
  pub below : q < 2 ^ digits q
  pub least : 2 ^ (digits q - 1) ≤ q

pub digits_of : (q : ℕ) → 2 ^ 53 ≤ q → q < 2 ^ 63 → HasDigits q
digits_of q L H =
    let t = leading_top 64 q (lt_of_lt_of_le (pow_pos 53) L) (lt_of_lt_of_le H (pow_mono {i = 63} {j = 64} (omega arith))) in
    let j = t.0 in
    let e : count_leading_zeros 64 q + suc j ≡ 64 = t.1 in
    let a : 53 < suc j = pow_lt_back 53 (suc j) (lt_of_le_of_lt L t.3) in
    let s : suc j ≡ digits q = omega arith in
    let p : j ≡ digits q - 1 = omega arith in
    record { many = omega arith; zeros = omega arith; below = subst (λ (x : ℕ). q < 2 ^ x) s t.3; least = subst (λ (x : ℕ). 2 ^ x ≤ q) p t.2 }

pub bits_most : (k m : ℕ) → k ≤ 2045 → m ≤ 2 ^ 53 → k * 4503599627370496 + m ≤ 9218868437227405312
bits_most k m h g = omega arith

-- with the facts that `round_pack` has of its arguments and of k
module _ (q t e k : ℕ) (L : 2 ^ 53 ≤ q) (H : q < 2 ^ 63) (T1 : t ≤ 1) (K : UlpExponent (digits q) e k) where
  y : ℕ
  y = 2 * q + t

  y_lt : y < 2 * 2 ^ digits q
  unfolding y
  y_lt = omega (arith, (digits_of q L H).below)

  y_ge : 2 * 2 ^ (digits q - 1) ≤ y
  unfolding y
  y_ge = omega (arith, (digits_of q L H).least)

  pub cut_fits : e < k + 1202
  cut_fits = omega (arith, K.most, (digits_of q L H).many)

  den_pos : 0 < 2 * 2 ^ 2276
  den_pos = mul-pos (zero-lt-suc 1) (pow_pos 2276)

  drops : Drops 53 (y * 2 ^ e * 2 ^ 1074) (2 * 2 ^ 2276) k
  drops = (
    lt_of_lt_of_le (mul-lt-mul_of_pos_right (mul-lt-mul_of_pos_right y_lt (pow_pos e)) (pow_pos 1074))
        (le_trans (le_of_eq (group (2 ^ digits q) (2 ^ e) (2 ^ 1074) (2 ^ (digits q + e)) (2 ^ (digits q + e + 1074)) (pow-add 2 (digits q) e) (pow-add 2 (digits q + e) 1074)))
        (le_trans (mul-le-mul_left 2 (pow_mono (high_end (digits q) e k K.most))) (le_of_eq (turn (2 ^ (53 + k)) (2 ^ 2276) (2 ^ (53 + k + 2276)) (pow-add 2 (53 + k) 2276))))),
    go K.least,
  )
    where
      group : (a b c ab abc : ℕ) → ab ≡ a * b → abc ≡ ab * c → 2 * a * b * c ≡ 2 * abc
      group a b c ab abc h g = assoc a b c ∙ ap (λ (x : ℕ). 2 * (x * c)) (sym h) ∙ ap (λ (x : ℕ). 2 * x) (sym g)
        where
          assoc : (a b c : ℕ) → 2 * a * b * c ≡ 2 * (a * b * c)
          assoc a b c = omega arith

      turn : (a b ab : ℕ) → ab ≡ a * b → 2 * ab ≡ a * (2 * b)
      turn a b ab h = ap (λ (x : ℕ). 2 * x) h ∙ mul_left_comm 2 a b

      high_end : (z e k : ℕ) → z + e ≤ 1255 + k → z + e + 1074 ≤ 53 + k + 2276
      high_end z e k h = omega arith

      low_end : (z e k : ℕ) → 54 ≤ z → k + 1255 ≡ z + e → 52 + k + 2276 ≤ z - 1 + e + 1074
      low_end z e k Z h = omega arith

      go : (k ≡ 0) ⊎ (k + 1255 ≡ digits q + e) → (k ≡ 0) ⊎ (2 ^ (52 + k) * (2 * 2 ^ 2276) ≤ y * 2 ^ e * 2 ^ 1074)
      go (inl h) = inl h
      go (inr h) =
          inr (le_trans (le_of_eq (sym (turn (2 ^ (52 + k)) (2 ^ 2276) (2 ^ (52 + k + 2276)) (pow-add 2 (52 + k) 2276))))
          (le_trans (mul-le-mul_left 2 (pow_mono (low_end (digits q) e k (digits_of q L H).many h)))
          (le_trans (le_of_eq (sym (group (2 ^ (digits q - 1)) (2 ^ e) (2 ^ 1074) (2 ^ (digits q - 1 + e)) (2 ^ (digits q - 1 + e + 1074)) (pow-add 2 (digits q - 1) e) (pow-add 2 (digits q - 1 + e) 1074))))
          (mul-le-mul_right (2 ^ 1074) (mul-le-mul_right (2 ^ e) y_ge)))))

  significand_is : closest (y * 2 ^ e * 2 ^ 1074) (2 * 2 ^ 2276 * 2 ^ k) ≡ closest y (2 * 2 ^ (k + 1202 - e))
  significand_is =
      closest_same (y * 2 ^ e * 2 ^ 1074) (2 * 2 ^ 2276 * 2 ^ k) y (2 * 2 ^ (k + 1202 - e)) (mul-pos den_pos (pow_pos k)) (mul-pos (zero-lt-suc 1) (pow_pos (k + 1202 - e)))
      (regroup y (2 ^ e) (2 ^ 1074) (2 ^ (k + 1202 - e)) (2 ^ 2276) (2 ^ k)
      (sym (pow-add 2 2276 k) ∙ ap (λ (x : ℕ). 2 ^ x) (split e k cut_fits) ∙ pow-add 2 (e + 1074) (k + 1202 - e) ∙ ap (λ (x : ℕ). x * 2 ^ (k + 1202 - e)) (pow-add 2 e 1074)))
    where
      split : (e k : ℕ) → e < k + 1202 → 2276 + k ≡ e + 1074 + (k + 1202 - e)
      split e k h = omega arith

  pub packs : k ≤ 2045 → of_bits binary64 (k * 4503599627370496 + closest (2 * q + t) (2 * 2 ^ (k + 1202 - e))) ≡ rounded_from q t e
  unfolding y
  packs h = rounded_bits (y * 2 ^ e) (2 * 2 ^ 2276) k den_pos drops (closest y (2 * 2 ^ (k + 1202 - e))) (sym significand_is) h

  pub packs_infinity : 2046 ≤ k → of_bits binary64 9218868437227405312 ≡ rounded_from q t e
  unfolding y
  packs_infinity h = inf_bits ∙ overflowed (y * 2 ^ e) (2 * 2 ^ 2276) k den_pos drops h

  pub significand_fits : closest (2 * q + t) (2 * 2 ^ (k + 1202 - e)) ≤ 2 ^ 53
  unfolding y
  significand_fits = le_trans (le_of_eq (sym significand_is)) (significand_most 53 (y * 2 ^ e * 2 ^ 1074) (2 * 2 ^ 2276) k den_pos drops)

  pub packs_zero : 64 ≤ k + 1202 - e → of_bits binary64 0 ≡ rounded_from q t e
  packs_zero C =
      let k_zero : k ≡ 0 = none (digits q) e k (omega arith) C K.least in
      let all : 2 ^ 64 ≤ 2 ^ (k + 1202 - e) = pow_mono C in
      sym (ap (λ (x : ℕ). of_bits binary64 (x * 4503599627370496 + 0)) k_zero)
      ∙ ap (λ (x : ℕ). of_bits binary64 (k * 4503599627370496 + x)) (sym (nothing (2 * q + t) (2 * 2 ^ (k + 1202 - e)) (under q t (2 ^ (k + 1202 - e)) H T1 all)))
      ∙ packs (omega arith)
    where
      none : (z e k : ℕ) → z ≤ 64 → 64 ≤ k + 1202 - e → (k ≡ 0) ⊎ (k + 1255 ≡ z + e) → k ≡ 0
      none z e k b c (inl h) = h
      none z e k b c (inr h) = omega arith

      under : (q t c : ℕ) → q < 2 ^ 63 → t ≤ 1 → 2 ^ 64 ≤ c → (2 * q + t) * 2 < 2 * c
      under q t c h a b = omega arith

      nothing : (y c : ℕ) → y * 2 < c → closest y c ≡ 0
      nothing y c h =
          let l : y < c = omega arith in
          ap₂ (λ (a b : ℕ). nearest a (compare (b * 2) c)) (div-eq_of_lt l) (mod-eq_of_lt l) ∙ ap (λ (o : Ordering). nearest 0 o) (is_lt (y * 2) c h)
