-- The remainder of two finite floats by their significands and exponents. Assumes nothing.
use Rattle.std.specs.Prelude.{◌≡◌, refl, ◌⊎◌, ℕ, zero, suc, ◌+◌, ◌-◌, ◌*◌, ◌%◌, ◌^◌, ◌≤◌, ◌<◌, Bool, true, false, not, T, ℤ, Float}
use Rattle.std.proofs.Common.{sym, ap, ◌∙◌, subst, inl, inr, le_of_eq, lt_irrefl, lt_of_lt_of_le, le_trans, mul_assoc, mul_right_comm, mul-pos, mul-le-mul_right, mod-eq_of_lt, arith, true≢false, pow-add, pow_pos, pow_mono, shl_lt}
use Rattle.std.proofs.lemmas.Bool.{false≢true}
use Rattle.std.proofs.Math.Dec.{eqb-suc-zero}
use Rattle.std.specs.Float.{nan, inf, fin, binary64, is_sign_negative}
use Rattle.std.specs.Float.Ieee.{up, down, rem, round, neg, is_nan, fits, of_bits}
use Rattle.std.specs.Float.Ieee.Bits.{of_bits-fits}
use Rattle.std.specs.Float.Ieee.Exact.{HasValue, round_exact}
use Rattle.std.specs.Float.Ieee.Fits.{up_pos, down_pos, round-fits}
use Rattle.std.specs.Float.Ieee.Positive.{first_pos}
use Rattle.std.specs.Float.Ieee.Scale.{finite, round_same}
use Rattle.rounding.specs.Magnitude.{IsMagnitude, zero_magnitude}
use Rattle.rounding.specs.Remainder.{scaled}
use Rattle.rounding.specs.StickyBit.{factor_zero}
use Rattle.remainder.proofs.Signs.{neg_round, same_float}

-- ---- whole numbers

-- the unit of s is a whole number of that of t
by_shift : (a i b j : ℕ) → 0 < b → j ≤ i → a * 2 ^ i % (b * 2 ^ j) ≡ a * 2 ^ (i - j) % b * 2 ^ j
by_shift a i b j B h =
    ap (λ (x : ℕ). x % (b * 2 ^ j)) (ap (λ (x : ℕ). a * x) (ap (λ (x : ℕ). 2 ^ x) (apart i j h) ∙ pow-add 2 (i - j) j) ∙ sym (mul_assoc a (2 ^ (i - j)) (2 ^ j)))
    ∙ scaled (a * 2 ^ (i - j)) b (2 ^ j) B (pow_pos j)
  where
    apart : (i j : ℕ) → j ≤ i → i ≡ i - j + j
    apart i j h = omega arith

-- with all its digits and a greater exponent a number is the greater one
smaller : (a i b j : ℕ) → a < 2 ^ 53 → i < j → (j ≡ 0) ⊎ (2 ^ 52 ≤ b) → a * 2 ^ i < b * 2 ^ j
smaller a i b j A h (inl z) = absurd (none i j h z)
  where
    none : (i j : ℕ) → i < j → j ≡ 0 → ⊥
    none i j h z = omega arith
smaller a i b j A h (inr g) = lt_of_lt_of_le (shl_lt 53 i A) (le_trans (pow_mono places) (le_trans (le_of_eq (pow-add 2 52 j)) (mul-le-mul_right (2 ^ j) g)))
  where
    places : 53 + i ≤ 52 + j
    places = omega arith

-- ---- the remainder in units of 2^-1074

opened : (s u : Bool) (m : ℕ) (e : ℤ) (n : ℕ) (d : ℤ) → 0 < n → rem binary64 (fin s m e) (fin u n d) ≡ round binary64 s (m * up e * down d % (n * up d * down e)) (down e * down d)
unfolding rem
opened s u m e zero d N = absurd (lt_irrefl 0 N)
opened s u m e (suc n) d N = rw (eqb-suc-zero n) refl

at_zero : (s u : Bool) (m : ℕ) (e : ℤ) (n : ℕ) (d : ℤ) → n ≡ 0 → nan ≡ rem binary64 (fin s m e) (fin u n d)
unfolding rem
at_zero s u m e n d z = rw z refl

module _ (s u : Bool) (m : ℕ) (e : ℤ) (n : ℕ) (d : ℤ) (a i b j : ℕ) (A : IsMagnitude (fin s m e) a i) (B : IsMagnitude (fin u n d) b j) (P : 0 < b) where
  n_pos : 0 < n
  n_pos = first_pos n (up d) (first_pos (n * up d) (2 ^ 1074) (subst (λ (x : ℕ). 0 < x) (sym B.value) (mul-pos (mul-pos P (pow_pos j)) (down_pos d))))

  cross : m * up e * down d % (n * up d * down e) * 2 ^ 1074 ≡ a * 2 ^ i % (b * 2 ^ j) * (down e * down d)
  cross =
      sym (scaled (m * up e * down d) (n * up d * down e) (2 ^ 1074) (mul-pos (mul-pos n_pos (up_pos d)) (down_pos e)) (pow_pos 1074))
      ∙ ap (λ (x : ℕ). x % (n * up d * down e * 2 ^ 1074)) (above (m * up e) (down d) (2 ^ 1074) (a * 2 ^ i) (down e) A.value)
      ∙ ap (λ (x : ℕ). a * 2 ^ i * (down e * down d) % x) (under (n * up d) (down e) (2 ^ 1074) (b * 2 ^ j) (down d) B.value)
      ∙ scaled (a * 2 ^ i) (b * 2 ^ j) (down e * down d) (mul-pos P (pow_pos j)) (mul-pos (down_pos e) (down_pos d))
    where
      above : (x d k a e : ℕ) → x * k ≡ a * e → x * d * k ≡ a * (e * d)
      above x d k a e h = mul_right_comm x d k ∙ ap (λ (z : ℕ). z * d) h ∙ mul_assoc a e d

      under : (y e k b d : ℕ) → y * k ≡ b * d → y * e * k ≡ b * (e * d)
      under y e k b d h = mul_right_comm y e k ∙ ap (λ (z : ℕ). z * e) h ∙ mul_right_comm b d e ∙ mul_assoc b e d

  in_units : rem binary64 (fin s m e) (fin u n d) ≡ round binary64 s (a * 2 ^ i % (b * 2 ^ j)) (2 ^ 1074)
  in_units =
      opened s u m e n d n_pos
      ∙ round_same binary64 s (m * up e * down d % (n * up d * down e)) (down e * down d) (a * 2 ^ i % (b * 2 ^ j)) (2 ^ 1074) (mul-pos (down_pos e) (down_pos d)) (pow_pos 1074) cross

-- at most 53 digits, then zeros: a float of that size is what it rounds to
exact : (x : Float) (s : Bool) (q j : ℕ) → T (fits binary64 x) → q < 2 ^ 53 → j ≤ 2045 → HasValue x s (q * 2 ^ j) (2 ^ 1074) → round binary64 s (q * 2 ^ j) (2 ^ 1074) ≡ x
exact x s q j held Q J h =
    same_float binary64 (round binary64 s (q * 2 ^ j) (2 ^ 1074)) x s (q * 2 ^ j) (round-fits binary64 s (q * 2 ^ j) (2 ^ 1074)) held
    (round_exact binary64 s (q * 2 ^ j) (2 ^ 1074) q j (pow_pos 1074) Q (lt_of_lt_of_le (shl_lt 53 j Q) (pow_mono places)) refl)
    h
  where
    places : 53 + j ≤ 2098
    places = omega arith

pub zero_float : (r e : ℕ) → r ≡ 0 → e ≤ 2045 → of_bits binary64 0 ≡ round binary64 false (r * 2 ^ e) (2 ^ 1074)
unfolding of_bits
zero_float r e z E = sym (exact (of_bits binary64 0) false r e (of_bits-fits binary64 0) (few r z) E (refl, nothing r (2 ^ 1074) (2 ^ e) z))
  where
    few : (r : ℕ) → r ≡ 0 → r < 2 ^ 53
    few r z = omega arith

    nothing : (r k c : ℕ) → r ≡ 0 → 0 * 1 * k ≡ r * c * 1
    nothing r k c z = rw z (omega arith)

-- ---- the ways out of `finite_remainder`

pub by_zero : (t s : Float) (b j : ℕ) → T (finite t) → T (finite s) → IsMagnitude s b j → b ≡ 0 → nan ≡ rem binary64 t s
by_zero nan s b j f g B z = absurd f
by_zero (inf v) s b j f g B z = absurd f
by_zero (fin v m e) nan b j f g B z = absurd g
by_zero (fin v m e) (inf u) b j f g B z = absurd g
by_zero (fin v m e) (fin u n d) b j f g B z = at_zero v u m e n d (factor_zero n (up d) (up_pos d) (zero_magnitude u n d b j B z))

pub by_larger : (t s : Float) (a i b j : ℕ) → T (fits binary64 t) → T (finite t) → T (finite s) → IsMagnitude t a i → IsMagnitude s b j → 0 < b → i < j → t ≡ rem binary64 t s
by_larger nan s a i b j held f g A B P h = absurd f
by_larger (inf v) s a i b j held f g A B P h = absurd f
by_larger (fin v m e) nan a i b j held f g A B P h = absurd g
by_larger (fin v m e) (inf u) a i b j held f g A B P h = absurd g
by_larger (fin v m e) (fin u n d) a i b j held f g A B P h =
    sym (in_units v u m e n d a i b j A B P
    ∙ ap (λ (x : ℕ). round binary64 v x (2 ^ 1074)) (mod-eq_of_lt (smaller a i b j A.small h B.leading))
    ∙ exact (fin v m e) v a i held A.small A.range (refl, A.value))

-- the sign is that of t
abbrev signed : Bool → Float → Float
signed true x = x
signed false x = neg x

signed_round : (s : Bool) (num den : ℕ) → signed (not s) (round binary64 false num den) ≡ round binary64 s num den
signed_round true num den = neg_round binary64 num den
signed_round false num den = refl

by_digits : (t s : Float) (a i b j : ℕ) → T (finite t) → T (finite s) → IsMagnitude t a i → IsMagnitude s b j → 0 < b → j ≤ i
    → signed (not (is_sign_negative t)) (round binary64 false (a * 2 ^ (i - j) % b * 2 ^ j) (2 ^ 1074)) ≡ rem binary64 t s
unfolding is_sign_negative
by_digits nan s a i b j f g A B P h = absurd f
by_digits (inf v) s a i b j f g A B P h = absurd f
by_digits (fin v m e) nan a i b j f g A B P h = absurd g
by_digits (fin v m e) (inf u) a i b j f g A B P h = absurd g
by_digits (fin v m e) (fin u n d) a i b j f g A B P h =
    signed_round v (a * 2 ^ (i - j) % b * 2 ^ j) (2 ^ 1074)
    ∙ ap (λ (x : ℕ). round binary64 v x (2 ^ 1074)) (sym (by_shift a i b j P h))
    ∙ sym (in_units v u m e n d a i b j A B P)

module _ (t s : Float) (a i b j r : ℕ) (x : Float) (f : T (finite t)) (g : T (finite s)) (A : IsMagnitude t a i) (B : IsMagnitude s b j) (P : 0 < b) (h : j ≤ i)
    (R : r ≡ a * 2 ^ (i - j) % b) (X : x ≡ round binary64 false (r * 2 ^ j) (2 ^ 1074)) where
  answer : signed (not (is_sign_negative t)) x ≡ rem binary64 t s
  answer = ap (λ (v : Float). signed (not (is_sign_negative t)) v) (X ∙ ap (λ (z : ℕ). round binary64 false (z * 2 ^ j) (2 ^ 1074)) R) ∙ by_digits t s a i b j f g A B P h

  pub answer_above : true ≡ not (is_sign_negative t) → x ≡ rem binary64 t s
  answer_above l = ap (λ (v : Bool). signed v x) l ∙ answer

  pub answer_below : false ≡ not (is_sign_negative t) → neg x ≡ rem binary64 t s
  answer_below l = ap (λ (v : Bool). signed v x) l ∙ answer

-- ---- what is not finite

pub by_infinity : (t s : Float) → finite t ≡ true → finite s ≡ false → is_nan s ≡ false → t ≡ rem binary64 t s
unfolding rem is_nan
by_infinity nan s f g h = absurd (false≢true f)
by_infinity (inf v) s f g h = absurd (false≢true f)
by_infinity (fin v m e) nan f g h = absurd (true≢false h)
by_infinity (fin v m e) (inf u) f g h = refl
by_infinity (fin v m e) (fin u n d) f g h = absurd (true≢false g)

pub by_nan : (t s : Float) → is_nan s ≡ true → nan ≡ rem binary64 t s
unfolding rem is_nan
by_nan nan s h = refl
by_nan (inf v) s h = refl
by_nan (fin v m e) nan h = refl
by_nan (fin v m e) (inf u) h = absurd (false≢true h)
by_nan (fin v m e) (fin u n d) h = absurd (false≢true h)

pub of_not_finite : (t s : Float) → finite t ≡ false → nan ≡ rem binary64 t s
unfolding rem
of_not_finite nan s f = refl
of_not_finite (inf v) s f = refl
of_not_finite (fin v m e) s f = absurd (true≢false f)
