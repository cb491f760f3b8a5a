-- A finite f64 as a significand times a power of two: read off its bit pattern, and normalized. Assumes nothing.
use Rattle.std.specs.Prelude.{◌≡◌, refl, ◌⊎◌, ℕ, zero, suc, ◌+◌, ◌-◌, ◌*◌, ◌/◌, ◌%◌, ◌^◌, ◌≤◌, ◌<◌, Bool, true, false, not, cond, T, leb, eqb, ℤ, Float}
use Rattle.std.proofs.Common.{sym, ap, ◌∙◌, subst, inl, inr, le_trans, le_of_eq, lt_of_lt_of_le, lt_of_le_of_lt, zero-mul, mul_comm, mul_assoc, mul-le-mul_right, mod-eq_of_lt, arith, pow-add, pow_pos, pow_mono, shl_lt}
use Rattle.std.specs.Int.Count.{count_leading_zeros}
use Rattle.std.proofs.lemmas.Nat.{leading_top}
use Rattle.std.specs.Float.{nan, inf, fin, binary64}
use Rattle.std.specs.Float.Ieee.{up, down, odd, of_fields, of_bits, to_bits, fits, is_nan}
use Rattle.std.specs.Float.Ieee.Digits.{Equals, odd_val}
use Rattle.std.specs.Float.Ieee.Scale.{finite}
use Rattle.std.specs.Float.Ieee.Bits.{of_bits-to_bits}
use Rattle.rounding.specs.StickyBit.{factor_zero}
use Rattle.rounding.specs.Significand.{pow_lt_back}

-- ---- definitions

-- a number with the sign bit clear: so not -0
abbrev pub non_negative : Float → Bool
non_negative nan = false
non_negative (inf s) = false
non_negative (fin s m e) = not s

-- significand × 2^exponent units of 2^-1074 are the magnitude of x; only a subnormal number has fewer than 53 digits
pub record IsMagnitude (x : Float) (significand exponent : ℕ) : Type 0 where
  pub value : Equals x (significand * 2 ^ exponent) (2 ^ 1074)
  pub small : significand < 2 ^ 53
  pub leading : (exponent ≡ 0) ⊎ (2 ^ 52 ≤ significand)
  pub range : exponent ≤ 2045

-- the same number in units that are 2^64 times smaller, with 61 digits
pub record Normalized (significand exponent significand' exponent' : ℕ) : Type 0 where
  pub same : significand' * 2 ^ exponent' ≡ significand * 2 ^ (exponent + 64)
  pub least : 2 ^ 60 ≤ significand'
  pub most : significand' < 2 ^ 61
  pub range : exponent' ≤ 2101

-- ---- classes of numbers

pub finite_not_nan : (x : Float) → T (finite x) → T (not (is_nan x))
unfolding is_nan
finite_not_nan nan h = h
finite_not_nan (inf s) h = tt
finite_not_nan (fin s m e) h = tt

-- ---- the fields of a pattern

abbrev body : Float → ℕ
body x = to_bits binary64 x % 9223372036854775808

-- the significand by the exponent's field e and the digits t
abbrev digits_of : ℕ → ℕ → ℕ
digits_of zero t = t
digits_of (suc e) t = 4503599627370496 + t

abbrev HasFields : Float → ℕ → ℕ → Type 0
HasFields x e t = Equals x (digits_of e t * 2 ^ (e - 1)) (2 ^ 1074) × (e ≡ 2047 → ⊥)

says : (s : Bool) (e t : ℕ) → T (finite (of_fields binary64 s e t)) → HasFields (of_fields binary64 s e t) e t
unfolding of_fields
says s zero t h = (odd_val 53 s t 0 1074, not_2047)
  where
    not_2047 : ◌≡◌ {A = ℕ} 0 2047 → ⊥
    not_2047 h = omega arith
says s (suc x) t h = go (eqb (suc x) 2047) (eqb t 0) (back x) h
  where
    back : (x : ℕ) → suc x ≡ 2047 → T (eqb (suc x) 2047)
    back x e = subst (λ (y : ℕ). T (eqb y 2047)) (sym e) tt

    minus_one : (x : ℕ) → suc x - 1 ≡ x
    minus_one x = omega arith

    go : (b z : Bool) → (suc x ≡ 2047 → T b) → T (finite (cond b (cond z (inf s) nan) (odd 53 s (4503599627370496 + t) x 1074)))
        → HasFields (cond b (cond z (inf s) nan) (odd 53 s (4503599627370496 + t) x 1074)) (suc x) t
    go true true n h = absurd h
    go true false n h = absurd h
    go false z n h = (subst (λ (y : ℕ). Equals (odd 53 s (4503599627370496 + t) x 1074) ((4503599627370496 + t) * 2 ^ y) (2 ^ 1074)) (sym (minus_one x)) (odd_val 53 s (4503599627370496 + t) x 1074), n)

read : (x : Float) → T (fits binary64 x) → T (finite x) → HasFields x (body x / 4503599627370496) (body x % 4503599627370496)
unfolding of_bits
read x held h =
    let b = to_bits binary64 x in
    let m : b % 4503599627370496 ≡ body x % 4503599627370496 = omega arith in
    let is : of_fields binary64 (leb 9223372036854775808 b) (body x / 4503599627370496) (body x % 4503599627370496) ≡ x =
    ap (λ (t : ℕ). of_fields binary64 (leb 9223372036854775808 b) (body x / 4503599627370496) t) (sym m) ∙ of_bits-to_bits binary64 x held in
    subst (λ (v : Float). HasFields v (body x / 4503599627370496) (body x % 4503599627370496)) is
    (says (leb 9223372036854775808 b) (body x / 4503599627370496) (body x % 4503599627370496) (subst (λ (v : Float). T (finite v)) (sym is) h))

-- ---- `magnitude`

pub subnormal_magnitude : (x : Float) → T (fits binary64 x) → T (finite x) → body x / 4503599627370496 ≡ 0 → IsMagnitude x (body x % 4503599627370496) 0
subnormal_magnitude x held h e =
    record {
      value = subst (λ (y : ℕ). Equals x (digits_of y (body x % 4503599627370496) * 2 ^ (y - 1)) (2 ^ 1074)) e (read x held h).0;
      small = omega arith;
      leading = inl refl;
      range = omega arith;
    }

pub normal_magnitude : (x : Float) → T (fits binary64 x) → T (finite x) → (body x / 4503599627370496 ≡ 0 → ⊥)
    → IsMagnitude x (4503599627370496 + body x % 4503599627370496) (body x / 4503599627370496 - 1)
normal_magnitude x held h ne =
    let r = read x held h in
    record {
      value = subst (λ (y : ℕ). Equals x (y * 2 ^ (body x / 4503599627370496 - 1)) (2 ^ 1074)) (leading (body x / 4503599627370496) ne) r.0;
      small = omega arith;
      leading = inr (omega arith);
      range = bound (body x) (body_lt x) r.1;
    }
  where
    leading : (e : ℕ) → (e ≡ 0 → ⊥) → digits_of e (body x % 4503599627370496) ≡ 4503599627370496 + body x % 4503599627370496
    leading zero n = absurd (n refl)
    leading (suc e) n = refl

    body_lt : (x : Float) → body x < 9223372036854775808
    body_lt x = omega arith

    bound : (b : ℕ) → b < 9223372036854775808 → (b / 4503599627370496 ≡ 2047 → ⊥) → b / 4503599627370496 - 1 ≤ 2045
    bound b l n = omega arith

-- a significand of 0 is the number 0
pub zero_magnitude : (s : Bool) (m : ℕ) (e : ℤ) (sig exp : ℕ) → IsMagnitude (fin s m e) sig exp → sig ≡ 0 → m * up e ≡ 0
zero_magnitude s m e sig exp M z =
    factor_zero (m * up e) (2 ^ 1074) (pow_pos 1074)
    (M.value ∙ ap (λ (x : ℕ). x * 2 ^ exp * down e) z ∙ ap (λ (x : ℕ). x * down e) (zero-mul (2 ^ exp)) ∙ zero-mul (down e))

-- ---- `normalized`

pub normalize_normal : (sig exp : ℕ) → 2 ^ 52 ≤ sig → sig < 2 ^ 53 → exp ≤ 2045 → Normalized sig exp (sig * 256) (exp + 56)
normalize_normal sig exp L H R =
    record {
      same = mul_assoc sig 256 (2 ^ (exp + 56)) ∙ ap (λ (n : ℕ). sig * n) (mul_comm 256 (2 ^ (exp + 56)) ∙ sym (pow-add 2 (exp + 56) 8) ∙ ap (λ (n : ℕ). 2 ^ n) (places exp));
      least = omega arith;
      most = omega arith;
      range = omega arith;
    }
  where
    places : (e : ℕ) → e + 56 + 8 ≡ e + 64
    places e = omega arith

module _ (sig exp : ℕ) (P : 0 < sig) (S : sig < 2 ^ 53) where
  pub zeros : (11 ≤ count_leading_zeros 64 sig) × (count_leading_zeros 64 sig ≤ 63)
  zeros =
      let t = leading_top 64 sig P (lt_of_lt_of_le S (pow_mono {i = 53} {j = 64} (omega arith))) in
      let j_lt : t.0 < 53 = pow_lt_back t.0 53 (lt_of_le_of_lt t.2 S) in
      let e : count_leading_zeros 64 sig + suc t.0 ≡ 64 = t.1 in
      omega arith

  pub normalize : exp ≤ 2045 → Normalized sig exp (sig * 2 ^ (count_leading_zeros 64 sig - 3) % 18446744073709551616) (exp + 67 - count_leading_zeros 64 sig)
  normalize R =
      let t = leading_top 64 sig P (lt_of_lt_of_le S (pow_mono {i = 53} {j = 64} (omega arith))) in
      let z = count_leading_zeros 64 sig in
      let j = t.0 in
      let e : z + suc j ≡ 64 = t.1 in
      let e1 : suc j + (z - 3) ≡ 61 = omega (arith, zeros.0) in
      let e2 : j + (z - 3) ≡ 60 = omega (arith, zeros.0) in
      let e3 : z - 3 + (exp + 67 - z) ≡ exp + 64 = omega (arith, zeros.0, zeros.1) in
      let hi : sig * 2 ^ (z - 3) < 2 ^ 61 = subst (λ (n : ℕ). sig * 2 ^ (z - 3) < 2 ^ n) e1 (shl_lt (suc j) (z - 3) t.3) in
      let lo : 2 ^ 60 ≤ sig * 2 ^ (z - 3) = le_trans (le_of_eq (ap (λ (n : ℕ). 2 ^ n) (sym e2) ∙ pow-add 2 j (z - 3))) (mul-le-mul_right (2 ^ (z - 3)) t.2) in
      let m : sig * 2 ^ (z - 3) % 18446744073709551616 ≡ sig * 2 ^ (z - 3) = mod-eq_of_lt (lt_of_lt_of_le hi (pow_mono {i = 61} {j = 64} (omega arith))) in
      record {
        same = ap (λ (n : ℕ). n * 2 ^ (exp + 67 - z)) m ∙ mul_assoc sig (2 ^ (z - 3)) (2 ^ (exp + 67 - z)) ∙ ap (λ (n : ℕ). sig * n) (sym (pow-add 2 (z - 3) (exp + 67 - z)) ∙ ap (λ (n : ℕ). 2 ^ n) e3);
        least = le_trans lo (le_of_eq (sym m));
        most = lt_of_le_of_lt (le_of_eq m) hi;
        range = omega (arith, zeros.0);
      }

-- m * up e / down e is the normalized number in units of 2^-1138
pub normalized_value : (s : Bool) (m : ℕ) (e : ℤ) (sig exp sig' exp' : ℕ) → IsMagnitude (fin s m e) sig exp → Normalized sig exp sig' exp' → m * up e * 2 ^ 1138 ≡ sig' * 2 ^ exp' * down e
normalized_value s m e sig exp sig' exp' M L =
    ap (λ (z : ℕ). m * up e * z) (pow-add 2 1074 64)
    ∙ lift (m * up e) (2 ^ 1074) (2 ^ 64) sig (2 ^ exp) (sig' * 2 ^ exp') (down e) M.value (L.same ∙ ap (λ (z : ℕ). sig * z) (pow-add 2 exp 64))
  where
    lift : (u k l s a a' de : ℕ) → u * k ≡ s * a * de → a' ≡ s * (a * l) → u * (k * l) ≡ a' * de
    lift u k l s a a' de h g =
        let x : u * k * l ≡ s * a * de * l = ap (λ (z : ℕ). z * l) h in
        sym (mul_assoc u k l) ∙ x ∙ turn s a de l ∙ ap (λ (z : ℕ). z * de) (sym g)
      where
        turn : (s a d l : ℕ) → s * a * d * l ≡ s * (a * l) * d
        turn s a d l = omega arith
