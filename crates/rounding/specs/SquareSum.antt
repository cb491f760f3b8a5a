-- x * x + y, rounded once: the digits of the exact sum that rounding needs, by the sticky law, and the sums with a zero. Assumes nothing.
use Rattle.std.specs.Prelude.{◌≡◌, refl, Bool, true, false, T, ℤ, Float}
use Rattle.std.proofs.Common.{sym, ap, ap₂, ◌∙◌, le_trans, le_of_eq, lt_of_lt_of_le, zero-lt-suc, add_comm, mul_comm, mul_assoc, mul-pos, mul-le-mul_right, mod-lt, div-add-mod', div-le_self, arith, pow-add, pow_pos}
use Prim.Native.Nat.{ℕ, suc, ◌+◌, ◌-◌, ◌*◌, ◌/◌, ◌%◌, ◌^◌, ◌≤◌, ◌<◌, compare}
use Rattle.std.proofs.Math.Arith.{digits_div, digits_mod, digits_lt}
use Rattle.std.specs.Float.{nan, inf, fin, binary64}
use Rattle.std.specs.Float.Ieee.{up, down, sum, add, mul, round, of_bits}
use Rattle.std.specs.Float.Ieee.Fits.{down_pos}
use Rattle.std.specs.Float.Ieee.Scale.{finite, round_same}
use Rattle.rules.specs.Distances.{mul_add}
use Rattle.rounding.specs.StickyBit.{sticky_bit, bit_le, bit_two, bit_times}
use Rattle.rounding.specs.Sticky.{sticky}
use Rattle.rounding.specs.Fraction.{with_sticky, fraction_order, fraction_rounds}
use Rattle.rounding.specs.Magnitude.{non_negative, IsMagnitude, Normalized, zero_magnitude, normalized_value}
use Rattle.rounding.specs.Pack.{rounded_from}
use Rattle.rounding.specs.Wide.{wide, hi_lt, hi_ge}

-- ---- a sum of two wide numbers, the second shifted by d to the right

-- the upper half, and a sticky bit for all below it
aligned : (a b d g hi lo rest : ℕ) → wide hi lo ≡ a + b / 2 ^ d → rest ≡ sticky_bit (b % 2 ^ d) → lo < 2 ^ 64 → 2 ^ 53 ≤ hi
    → round binary64 false (a * 2 ^ (d + g) + b * 2 ^ g) (2 ^ 2276) ≡ rounded_from hi (sticky_bit (rest + sticky_bit lo)) (d + g + 64)
aligned a b d g hi lo rest S R L M =
    let D = 2 ^ d in
    let G = 2 ^ g in
    let e = d + g + 64 in
    let n = a * 2 ^ (d + g) + b * G in
    let r = b % D in
    let unit : 2 ^ e ≡ 2 ^ 64 * (D * G) = pow-add 2 (d + g) 64 ∙ ap (λ (x : ℕ). x * 2 ^ 64) (pow-add 2 d g) ∙ mul_comm (D * G) (2 ^ 64) in
    let n_is : n ≡ hi * 2 ^ e + (lo * D + r) * G = ap (λ (x : ℕ). a * x + b * G) (pow-add 2 d g) ∙ spread a (b / D) r b hi lo D G (div-add-mod' b D) S ∙ ap (λ (x : ℕ). hi * x + (lo * D + r) * G) (sym unit) in
    let small : (lo * D + r) * G < 2 ^ e = lt_of_lt_of_le (mul_lt (lo * D + r) (2 ^ 64 * D) G (pow_pos g) (digits_lt L (mod-lt b (pow_pos d)))) (le_of_eq (mul_assoc (2 ^ 64) D G ∙ sym unit)) in
    let q : n / 2 ^ e ≡ hi = ap (λ (x : ℕ). x / 2 ^ e) n_is ∙ digits_div hi small in
    let t : n % 2 ^ e ≡ (lo * D + r) * G = ap (λ (x : ℕ). x % 2 ^ e) n_is ∙ digits_mod hi small in
    let y : with_sticky n (2 ^ e) ≡ 2 * hi + sticky_bit (rest + sticky_bit lo) = ap₂ (λ (u v : ℕ). 2 * u + sticky_bit v) q t ∙ ap (λ (u : ℕ). 2 * hi + u) (below lo r D G (pow_pos d) (pow_pos g) ∙ ap (λ (u : ℕ). sticky_bit (u + sticky_bit lo)) (sym R)) in
    sticky binary64 false (λ (m : ℕ). compare n (m * 2 ^ e)) e 2276 (with_sticky n (2 ^ e)) (round binary64 false n (2 ^ 2276))
    (fraction_rounds binary64 false n e 2276 (le_trans M (le_of_eq (sym q)))) (λ (m : ℕ). fraction_order n (2 ^ e) m (pow_pos e))
    ∙ ap (λ (u : ℕ). round binary64 false (u * 2 ^ e) (2 * 2 ^ 2276)) y
  where
    mul_lt : (a b c : ℕ) → 0 < c → a < b → a * c < b * c
    mul_lt a b c C h = lt_of_lt_of_le (step a c C) (mul-le-mul_right c h)
      where
        step : (a c : ℕ) → 0 < c → a * c < suc a * c
        step a c C = omega arith

    spread : (a f r b hi lo D G : ℕ) → f * D + r ≡ b → hi * 2 ^ 64 + lo ≡ a + f → a * (D * G) + b * G ≡ hi * (2 ^ 64 * (D * G)) + (lo * D + r) * G
    spread a f r b hi lo D G h s =
        let u : (hi * 2 ^ 64 + lo) * (D * G) ≡ (a + f) * (D * G) = ap (λ (x : ℕ). x * (D * G)) s in
        let v : (f * D + r) * G ≡ b * G = ap (λ (x : ℕ). x * G) h in
        omega arith

    below : (lo r D G : ℕ) → 0 < D → 0 < G → sticky_bit ((lo * D + r) * G) ≡ sticky_bit (sticky_bit r + sticky_bit lo)
    below lo r D G dp gp = bit_times (lo * D + r) G gp ∙ bit_two lo r D dp ∙ ap sticky_bit (add_comm (sticky_bit lo) (sticky_bit r))

-- as the code has it: (ph, pl) plus (qh, ql) shifted, which is (ch, cl) and the sticky bit cs, is (wh, wl)
module _ (ph pl qh ql d ch cl cs : ℕ) (P' : 2 ^ 53 ≤ ph) (P : ph < 2 ^ 62) (PL : pl < 2 ^ 64) (Q : qh < 2 ^ 62) (QL : ql < 2 ^ 64)
    (C : wide ch cl ≡ wide qh ql / 2 ^ d) (S : cs ≡ sticky_bit (wide qh ql % 2 ^ d)) where
  shifted_lt : wide ch cl < 2 ^ 62 * 18446744073709551616
  shifted_lt = few (wide ch cl) qh ql (le_trans (le_of_eq C) (div-le_self (wide qh ql) (2 ^ d))) Q QL
    where
      few : (n qh ql : ℕ) → n ≤ wide qh ql → qh < 2 ^ 62 → ql < 2 ^ 64 → n < 2 ^ 62 * 18446744073709551616
      few n qh ql h a b = omega arith

  module _ (wh wl : ℕ) (E : wide wh wl ≡ wide ph pl + wide ch cl) (L : wl < 2 ^ 64) where
    pub sum_range : (2 ^ 53 ≤ wh) × (wh < 2 ^ 63) × (cs ≤ 1)
    sum_range = (
      le_trans P' (hi_ge wh wl (wide ph pl + wide ch cl) ph E L (more ph pl (wide ch cl))),
      hi_lt wh wl (wide ph pl + wide ch cl) (2 ^ 62 + 2 ^ 62) E (both (wide ph pl) (wide ch cl) (2 ^ 62) (2 ^ 62) (upper ph pl P PL) shifted_lt),
      le_trans (le_of_eq S) (bit_le (wide qh ql % 2 ^ d)),
    )
      where
        more : (h l n : ℕ) → h * 18446744073709551616 ≤ wide h l + n
        more h l n = omega arith

        upper : (h l : ℕ) → h < 2 ^ 62 → l < 2 ^ 64 → wide h l < 2 ^ 62 * 18446744073709551616
        upper h l a b = omega arith

        both : (m n j k : ℕ) → m < j * 18446744073709551616 → n < k * 18446744073709551616 → m + n < (j + k) * 18446744073709551616
        both m n j k a b = omega arith

    pub sum_is : (e : ℕ) → d ≤ e → rounded_from wh (sticky_bit (cs + sticky_bit wl)) (e + 64) ≡ round binary64 false (wide ph pl * 2 ^ e + wide qh ql * 2 ^ (e - d)) (2 ^ 2276)
    sum_is e h =
        let g : d + (e - d) ≡ e = omega arith in
        ap (λ (u : ℕ). rounded_from wh (sticky_bit (cs + sticky_bit wl)) (u + 64)) (sym g)
        ∙ sym (aligned (wide ph pl) (wide qh ql) d (e - d) wh wl cs (E ∙ ap (λ (u : ℕ). wide ph pl + u) C) S L sum_range.0)
        ∙ ap (λ (u : ℕ). round binary64 false (wide ph pl * 2 ^ u + wide qh ql * 2 ^ (e - d)) (2 ^ 2276)) g

-- ---- `mul_add` of a number with itself

den_pos : (e d : ℤ) → 0 < down e * down e * down d
den_pos e d = mul-pos (mul-pos (down_pos e) (down_pos e)) (down_pos d)

pub mul_add_opened : (s : Bool) (m : ℕ) (e : ℤ) (n : ℕ) (d : ℤ) → mul_add binary64 (fin s m e) (fin s m e) (fin false n d) ≡ round binary64 false (m * up e * (m * up e) * down d + n * up d * (down e * down e)) (down e * down e * down d)
unfolding mul_add sum
mul_add_opened true m e n d = refl
mul_add_opened false m e n d = refl

-- both are not zero: a and b are their normalized significands
pub both_nonzero : (x y : Float) (sa ea sb eb a i b j : ℕ) → T (finite x) → T (non_negative y) → IsMagnitude x sa ea → IsMagnitude y sb eb → Normalized sa ea a i → Normalized sb eb b j
    → round binary64 false (a * a * 2 ^ (2 * i) + b * 18446744073709551616 * 2 ^ (j + 1074)) (2 ^ 2276) ≡ mul_add binary64 x x y
both_nonzero nan y sa ea sb eb a i b j f g A B C D = absurd f
both_nonzero (inf s) y sa ea sb eb a i b j f g A B C D = absurd f
both_nonzero (fin s m e) nan sa ea sb eb a i b j f g A B C D = absurd g
both_nonzero (fin s m e) (inf t) sa ea sb eb a i b j f g A B C D = absurd g
both_nonzero (fin s m e) (fin true n d) sa ea sb eb a i b j f g A B C D = absurd g
both_nonzero (fin s m e) (fin false n d) sa ea sb eb a i b j f g A B C D =
    let K = 2 ^ 1138 in
    let u = a * 2 ^ i in
    let v = b * 2 ^ j in
    let i2 : 2 ^ (2 * i) ≡ 2 ^ i * 2 ^ i = ap (λ (z : ℕ). 2 ^ z) (double i) ∙ pow-add 2 i i in
    let first : a * a * 2 ^ (2 * i) ≡ u * u = ap (λ (z : ℕ). a * a * z) i2 ∙ squares a (2 ^ i) in
    let second : b * 18446744073709551616 * 2 ^ (j + 1074) ≡ v * K = ap (λ (z : ℕ). b * 18446744073709551616 * z) (pow-add 2 j 1074) ∙ shuffle b (2 ^ 64) (2 ^ j) (2 ^ 1074) ∙ ap (λ (z : ℕ). b * 2 ^ j * z) (sym (pow-add 2 64 1074)) in
    sym (mul_add_opened s m e n d
    ∙ round_same binary64 false (m * up e * (m * up e) * down d + n * up d * (down e * down e)) (down e * down e * down d) (a * a * 2 ^ (2 * i) + b * 18446744073709551616 * 2 ^ (j + 1074)) (2 ^ 2276) (den_pos e d) (pow_pos 2276)
    (ap (λ (z : ℕ). (m * up e * (m * up e) * down d + n * up d * (down e * down e)) * z) (pow-add 2 1138 1138)
    ∙ fractions (m * up e) (n * up d) (down d) (down e) u v K (normalized_value s m e sa ea a i A C) (normalized_value false n d sb eb b j B D)
    ∙ ap₂ (λ (z w : ℕ). (z + w) * (down e * down e * down d)) (sym first) (sym second)))
  where
    double : (x : ℕ) → 2 * x ≡ x + x
    double x = omega arith

    squares : (a p : ℕ) → a * a * (p * p) ≡ a * p * (a * p)
    squares a p = omega arith

    shuffle : (b r q k : ℕ) → b * r * (q * k) ≡ b * q * (r * k)
    shuffle b r q k = omega arith

    fractions : (U W dd de a b K : ℕ) → U * K ≡ a * de → W * K ≡ b * dd → (U * U * dd + W * (de * de)) * (K * K) ≡ (a * a + b * K) * (de * de * dd)
    fractions U W dd de a b K h g =
        let p : U * K * (U * K) * dd ≡ a * de * (a * de) * dd = ap (λ (z : ℕ). z * z * dd) h in
        let q : W * K * (K * (de * de)) ≡ b * dd * (K * (de * de)) = ap (λ (z : ℕ). z * (K * (de * de))) g in
        omega arith

pub mul_opened : (s : Bool) (m : ℕ) (e : ℤ) → mul binary64 (fin s m e) (fin s m e) ≡ round binary64 false (m * up e * (m * up e)) (down e * down e)
unfolding mul
mul_opened true m e = refl
mul_opened false m e = refl

pub second_zero : (x y : Float) (sb eb : ℕ) → T (finite x) → T (non_negative y) → IsMagnitude y sb eb → sb ≡ 0 → mul binary64 x x ≡ mul_add binary64 x x y
second_zero nan y sb eb f g B z = absurd f
second_zero (inf s) y sb eb f g B z = absurd f
second_zero (fin s m e) nan sb eb f g B z = absurd g
second_zero (fin s m e) (inf t) sb eb f g B z = absurd g
second_zero (fin s m e) (fin true n d) sb eb f g B z = absurd g
second_zero (fin s m e) (fin false n d) sb eb f g B z =
    mul_opened s m e
    ∙ round_same binary64 false (m * up e * (m * up e)) (down e * down e) (m * up e * (m * up e) * down d + n * up d * (down e * down e)) (down e * down e * down d) (mul-pos (down_pos e) (down_pos e)) (den_pos e d)
    (cross (m * up e * (m * up e)) (down e * down e) (down d) (n * up d) (zero_magnitude false n d sb eb B z))
    ∙ sym (mul_add_opened s m e n d)
  where
    cross : (u e d w : ℕ) → w ≡ 0 → u * (e * d) ≡ (u * d + w * e) * e
    cross u e d w h = plain u e d ∙ ap (λ (z : ℕ). (u * d + z * e) * e) (sym h)
      where
        plain : (u e d : ℕ) → u * (e * d) ≡ (u * d + 0 * e) * e
        plain u e d = omega arith

zero_plus_opened : (n : ℕ) (d : ℤ) → add binary64 (of_bits binary64 0) (fin false n d) ≡ round binary64 false (0 * 1 * down d + n * up d * 1) (1 * down d)
unfolding add sum of_bits
zero_plus_opened n d = refl

pub first_zero : (x y : Float) (sa ea : ℕ) → T (finite x) → T (non_negative y) → IsMagnitude x sa ea → sa ≡ 0 → add binary64 (of_bits binary64 0) y ≡ mul_add binary64 x x y
first_zero nan y sa ea f g A z = absurd f
first_zero (inf s) y sa ea f g A z = absurd f
first_zero (fin s m e) nan sa ea f g A z = absurd g
first_zero (fin s m e) (inf t) sa ea f g A z = absurd g
first_zero (fin s m e) (fin true n d) sa ea f g A z = absurd g
first_zero (fin s m e) (fin false n d) sa ea f g A z =
    zero_plus_opened n d
    ∙ round_same binary64 false (0 * 1 * down d + n * up d * 1) (1 * down d) (m * up e * (m * up e) * down d + n * up d * (down e * down e)) (down e * down e * down d) (mul-pos (zero-lt-suc 0) (down_pos d)) (den_pos e d)
    (cross (m * up e) (down e * down e) (down d) (n * up d) (zero_magnitude s m e sa ea A z))
    ∙ sym (mul_add_opened s m e n d)
  where
    cross : (u e d w : ℕ) → u ≡ 0 → (0 * 1 * d + w * 1) * (e * d) ≡ (u * u * d + w * e) * (1 * d)
    cross u e d w h = even w e d ∙ ap (λ (z : ℕ). (z * z * d + w * e) * (1 * d)) (sym h)
      where
        even : (w e d : ℕ) → (0 * 1 * d + w * 1) * (e * d) ≡ (0 * 0 * d + w * e) * (1 * d)
        even w e d = omega arith
