-- The remainder of two floats is exact: it is t − k × s for a whole number k, not negative and below s. It is a whole multiple of the
-- smaller of the two numbers' last places and has no more digits than one of their significands, so rounding does not change it. Assumes nothing.
use Rattle.std.specs.Prelude.{◌≡◌, refl, ℕ, zero, suc, ◌+◌, ◌-◌, ◌*◌, ◌/◌, ◌%◌, ◌^◌, ◌≤◌, ◌<◌, T, ltb, ℤ, Float}
use Rattle.std.proofs.Common.{sym, ap, ◌∙◌, subst, true≢false, lt_irrefl, lt_of_lt_of_le, lt_of_le_of_lt, lt_of_mul-lt-mul_right, le_of_eq, le_of_lt, mod-lt, div-add-mod', mul-div_cancel, mul-pos, mul-lt-mul_of_pos_right, mul_right_comm, mul_assoc, arith, ltb→lt, lt→ltb, pow-add, pow_pos, pow_mono, shl_lt}
use Rattle.std.proofs.Math.Bool.{true, false}
use Rattle.std.proofs.Math.Nat.{mod-le, mul-mod_left}
use Rattle.std.proofs.Math.Decide.{dec_lt, ℕ_discrete}
use Rattle.std.proofs.Math.Dec.{eqb-suc-zero}
use Rattle.std.proofs.Math.Arith.{mod-mul}
use Rattle.std.specs.Float.Ieee.{nan, up, down, rem, round, lt, fits, to_bits}
use Rattle.std.specs.Float.{inf, fin, binary64}
use Rattle.std.specs.Float.Ieee.Bits.{is_true}
use Rattle.std.specs.Float.Ieee.Exact.{HasValue, round_exact}
use Rattle.std.specs.Float.Ieee.Fits.{up_pos, down_pos}
use Rattle.std.specs.Float.Ieee.Positive.{num, den, positive, first_pos}
use Rattle.std.specs.Float.Ieee.Scale.{finite}
use Rattle.rounding.specs.Magnitude.{IsMagnitude, non_negative, subnormal_magnitude, normal_magnitude}

-- ---- definition

-- r is the remainder of t by s: t is `times` × s + r exactly, and 0 ≤ r < s. A finite float x is num x / den x.
pub record IsRemainder (t s r : Float) : Type 0 where
  pub times : ℕ
  pub exact : num t * den s * den r ≡ times * num s * den t * den r + num r * den t * den s
  pub sign : T (non_negative r)
  pub below : lt r s ≡ true

-- ---- remainders of whole numbers

-- both numbers c times as large
pub scaled : (a b c : ℕ) → 0 < b → 0 < c → a * c % (b * c) ≡ a % b * c
scaled a b c B C = mod-mul (a * c) B C ∙ rest (mul-div_cancel a C) (mul-mod_left a c)
  where
    rest : a * c / c ≡ a → a * c % c ≡ 0 → a * c / c % b * c + a * c % c ≡ a % b * c
    rest h g = rw (h, g) (omega arith)

-- x / (e * d) is k * s / d and the rest p / g
whole_part : (s e g p d x k r : ℕ) → k * (s * e) + r ≡ x → p * (e * d) ≡ r * g → x * g ≡ k * s * e * g + p * e * d
whole_part s e g p d x k r h f = ap (λ (z : ℕ). z * g) (sym h) ∙ apart k (s * e) r g ∙ ap (λ (z : ℕ). k * (s * e) * g + z) (sym f) ∙ turn k s e g p d
  where
    apart : (k y r g : ℕ) → (k * y + r) * g ≡ k * y * g + r * g
    apart k y r g = omega arith

    turn : (k s e g p d : ℕ) → k * (s * e) * g + p * (e * d) ≡ k * s * e * g + p * e * d
    turn k s e g p d = omega arith

rest_below : (s e g p d r : ℕ) → 0 < g → r < s * e → p * (e * d) ≡ r * g → p * d < s * g
rest_below s e g p d r G h f = lt_of_mul-lt-mul_right e (lt_of_le_of_lt (le_of_eq (first p d e ∙ f)) (lt_of_lt_of_le (mul-lt-mul_of_pos_right h G) (le_of_eq (mul_right_comm s e g))))
  where
    first : (p d e : ℕ) → p * d * e ≡ p * (e * d)
    first p d e = omega arith

-- ---- in units of 2^-1074

-- at most 53 digits, then zeros
record FewDigits (r : ℕ) : Type 0 where
  significand : ℕ
  exponent : ℕ
  value : r ≡ significand * 2 ^ exponent
  small : significand < 2 ^ 53
  range : exponent ≤ 2045

-- 2^i is 2^(i - j) × 2^j
lifted : (n i j : ℕ) → j ≤ i → n * 2 ^ i ≡ n * 2 ^ (i - j) * 2 ^ j
lifted n i j h = ap (λ (x : ℕ). n * x) (ap (λ (x : ℕ). 2 ^ x) (sym (apart i j h)) ∙ pow-add 2 (i - j) j) ∙ sym (mul_assoc n (2 ^ (i - j)) (2 ^ j))
  where
    apart : (i j : ℕ) → j ≤ i → i - j + j ≡ i
    apart i j h = omega arith

module _ (a i b j : ℕ) (A : a < 2 ^ 53) (B : b < 2 ^ 53) (P : 0 < b) (I : i ≤ 2045) (J : j ≤ 2045) where
  short : FewDigits (a * 2 ^ i % (b * 2 ^ j))
  short = go (dec_lt i j)
    where
      go : Dec (i < j) → FewDigits (a * 2 ^ i % (b * 2 ^ j))
      go (yes h) =
          record {
            significand = a % (b * 2 ^ (j - i));
            exponent = i;
            value = ap (λ (x : ℕ). a * 2 ^ i % x) (lifted b j i (le_of_lt h)) ∙ scaled a (b * 2 ^ (j - i)) (2 ^ i) (mul-pos P (pow_pos (j - i))) (pow_pos i);
            small = lt_of_le_of_lt (mod-le a (b * 2 ^ (j - i))) A;
            range = I;
          }
      go (no n) =
          record {
            significand = a * 2 ^ (i - j) % b;
            exponent = j;
            value = ap (λ (x : ℕ). x % (b * 2 ^ j)) (lifted a i j (omega arith)) ∙ scaled (a * 2 ^ (i - j)) b (2 ^ j) P (pow_pos j);
            small = lt_of_lt_of_le (mod-lt (a * 2 ^ (i - j)) P) (le_of_lt B);
            range = J;
          }

-- what a finite float is in units of 2^-1074
record Magnitude (x : Float) : Type 0 where
  significand : ℕ
  exponent : ℕ
  is : IsMagnitude x significand exponent

magnitude : (x : Float) → T (fits binary64 x) → T (finite x) → Magnitude x
magnitude x h f = go (ℕ_discrete (to_bits binary64 x % 9223372036854775808 / 4503599627370496) 0)
  where
    go : Dec (to_bits binary64 x % 9223372036854775808 / 4503599627370496 ≡ 0) → Magnitude x
    go (yes z) = record { significand = _; exponent = _; is = subnormal_magnitude x h f z }
    go (no z) = record { significand = _; exponent = _; is = normal_magnitude x h f z }

-- ---- the remainder of m × 2^e by n × 2^d

opened : (m : ℕ) (e : ℤ) (n : ℕ) (d : ℤ) → 0 < n → rem binary64 (fin false m e) (fin false n d) ≡ round binary64 false (m * up e * down d % (n * up d * down e)) (down e * down d)
unfolding rem
opened m e zero d N = absurd (lt_irrefl 0 N)
opened m e (suc n) d N = rw (eqb-suc-zero n) refl

module _ (m : ℕ) (e : ℤ) (n : ℕ) (d : ℤ) (N : 0 < n) where
  abbrev X : ℕ
  X = m * up e * down d

  abbrev Y : ℕ
  Y = n * up d * down e

  abbrev D : ℕ
  D = down e * down d

  Y_pos : 0 < Y
  Y_pos = mul-pos (mul-pos N (up_pos d)) (down_pos e)

  D_pos : 0 < D
  D_pos = mul-pos (down_pos e) (down_pos d)

  module _ (t : Magnitude (fin false m e)) (s : Magnitude (fin false n d)) where
    abbrev A : ℕ
    A = t.significand * 2 ^ t.exponent

    abbrev B : ℕ
    B = s.significand * 2 ^ s.exponent

    s_pos : 0 < s.significand
    s_pos = first_pos s.significand (2 ^ s.exponent) (first_pos B (down d) (subst (λ (x : ℕ). 0 < x) s.is.value (mul-pos (mul-pos N (up_pos d)) (pow_pos 1074))))

    in_units : X % Y * 2 ^ 1074 ≡ A % B * D
    in_units =
        sym (scaled X Y (2 ^ 1074) Y_pos (pow_pos 1074))
        ∙ ap (λ (x : ℕ). x % (Y * 2 ^ 1074)) (above (m * up e) (down d) (2 ^ 1074) A (down e) t.is.value)
        ∙ ap (λ (x : ℕ). A * D % x) (under (n * up d) (down e) (2 ^ 1074) B (down d) s.is.value)
        ∙ scaled A B D (mul-pos s_pos (pow_pos s.exponent)) D_pos
      where
        above : (x d k a e : ℕ) → x * k ≡ a * e → x * d * k ≡ a * (e * d)
        above x d k a e h = mul_right_comm x d k ∙ ap (λ (z : ℕ). z * d) h ∙ mul_assoc a e d

        under : (y e k b d : ℕ) → y * k ≡ b * d → y * e * k ≡ b * (e * d)
        under y e k b d h = mul_right_comm y e k ∙ ap (λ (z : ℕ). z * e) h ∙ turn b d e
          where
            turn : (b d e : ℕ) → b * d * e ≡ b * (e * d)
            turn b d e = omega arith

    rounds : FewDigits (A % B) → HasValue (round binary64 false (X % Y) D) false (X % Y) D
    rounds h =
        let places : 53 + h.exponent ≤ 2098 = omega (arith, h.range) in
        round_exact binary64 false (X % Y) D h.significand h.exponent D_pos h.small
        (lt_of_lt_of_le (shl_lt 53 h.exponent h.small) (pow_mono places))
        (in_units ∙ ap (λ (x : ℕ). x * D) h.value)

  -- the exact remainder of the two numbers over their common denominator, not rounded
  pub remainder_value : T (fits binary64 (fin false m e)) → T (fits binary64 (fin false n d))
      → HasValue (rem binary64 (fin false m e) (fin false n d)) false (m * up e * down d % (n * up d * down e)) (down e * down d)
  remainder_value h g =
      let t = magnitude (fin false m e) h tt in
      let s = magnitude (fin false n d) g tt in
      subst (λ (r : Float). HasValue r false (X % Y) D) (sym (opened m e n d N))
      (rounds t s (short t.significand t.exponent s.significand s.exponent t.is.small s.is.small (s_pos t s) t.is.range s.is.range))

  remainder_is : (r : Float) → HasValue r false (X % Y) D → IsRemainder (fin false m e) (fin false n d) r
  unfolding lt
  remainder_is nan v = absurd v
  remainder_is (inf t) v = absurd v
  remainder_is (fin true p g) v = absurd (true≢false v.0)
  remainder_is (fin false p g) v =
      record {
        times = X / Y;
        exact = whole_part (n * up d) (down e) (down g) (p * up g) (down d) X (X / Y) (X % Y) (div-add-mod' X Y) v.1;
        sign = tt;
        below = is_true (ltb (p * up g * down d) (n * up d * down g)) (lt→ltb (p * up g * down d) (n * up d * down g) (rest_below (n * up d) (down e) (down g) (p * up g) (down d) (X % Y) (down_pos g) (mod-lt X Y_pos) v.1));
      }

pub remainder : (t s : Float) → T (fits binary64 t) → T (fits binary64 s) → T (non_negative t) → T (positive s) → IsRemainder t s (rem binary64 t s)
remainder nan s h g p q = absurd p
remainder (inf u) s h g p q = absurd p
remainder (fin true m e) s h g p q = absurd p
remainder (fin false m e) nan h g p q = absurd q
remainder (fin false m e) (inf u) h g p q = absurd q
remainder (fin false m e) (fin true n d) h g p q = absurd q
remainder (fin false m e) (fin false n d) h g p q =
    let N = ltb→lt 0 n q in
    remainder_is m e n d N (rem binary64 (fin false m e) (fin false n d)) (remainder_value m e n d N h g)
