-- A float cut to a whole number of 32 bits: what the tests of `truncated` say, and that shifting the significand cuts. Assumes nothing.
use Rattle.std.specs.Prelude.{◌≡◌, refl, ◌⊎◌, ℕ, ◌+◌, ◌-◌, ◌*◌, ◌/◌, ◌^◌, ◌≤◌, ◌<◌, min, true, false, ◌&&◌, T, eqb, pos, Float}
use Rattle.std.proofs.Common.{sym, ap, ◌∙◌, subst, inl, inr, le_trans, le_of_eq, lt_of_lt_of_le, lt_of_le_of_lt, mul_comm, mul_assoc, mul-le-mul_right, mul-lt-mul_of_pos_right, lt_of_mul-lt-mul_right, le_of_mul-le-mul_right, div-lt_iff_lt-mul, le-div_iff_mul-le, arith, true≢false, eqb→eq, pow-add, pow_pos}
use Rattle.std.proofs.Math.Nat.{div-eq_of_lt, eq_of_mul-eq-mul_right}
use Rattle.std.proofs.lemmas.Bool.{false≢true}
use Rattle.std.specs.Float.{nan, inf, fin}
use Rattle.std.specs.Float.Ieee.{up, down, lt, eq, le, to_unsigned}
use Rattle.std.specs.Float.Ieee.Fits.{down_pos, and_r}
use Rattle.std.specs.Float.Ieee.Nearest.{div_same}
use Rattle.std.specs.Float.Ieee.Scale.{finite}
use Rattle.rounding.specs.Compare.{below, not_below, at_most, above}
use Rattle.rounding.specs.Significand.{pow_lt_back}
use Rattle.rounding.specs.Magnitude.{IsMagnitude}

-- sig × 2^exp units of 2^-1074 without what a shift cuts off them are w, in 32 bits
pub record IsCut (sig exp w : ℕ) : Type 0 where
  pub least : 1022 ≤ exp
  pub most : exp ≤ 1053
  pub fits : sig / 2 ^ (1074 - exp) < 4294967296
  pub whole : sig / 2 ^ (1074 - exp) ≡ w

not_negative : (d u : ℕ) → 0 < d → (eqb (1 * 1 * d) (u * 1) && eqb (1 * 1 * d) 0) ≡ true → ⊥
not_negative d u p g = zero d p (eqb→eq (1 * 1 * d) 0 (and_r (eqb (1 * 1 * d) (u * 1)) (eqb (1 * 1 * d) 0) (subst T (sym g) tt)))
  where
    zero : (d : ℕ) → 0 < d → 1 * 1 * d ≡ 0 → ⊥
    zero d p h = omega arith

-- x is not at least 1
pub cut_none : (x : Float) → le (fin false 1 (pos 0)) x ≡ false → 0 ≡ to_unsigned 32 x
unfolding le lt eq to_unsigned
cut_none nan h = refl
cut_none (inf true) h = refl
cut_none (inf false) h = absurd (true≢false h)
cut_none (fin true m e) h = refl
cut_none (fin false m e) h =
    ap (λ (w : ℕ). min w 4294967295) (sym (div-eq_of_lt (less (m * up e) (down e) (above (1 * 1 * down e) (m * up e * 1) h))))
  where
    less : (u d : ℕ) → u * 1 < 1 * 1 * d → u < d
    less u d h = omega arith

-- it is, and not below 2 ^ 32
pub cut_most : (x : Float) → le (fin false 1 (pos 0)) x ≡ true → lt x (fin false 1 (pos 32)) ≡ false → 4294967295 ≡ to_unsigned 32 x
unfolding le lt eq to_unsigned
cut_most nan g h = absurd (false≢true g)
cut_most (inf true) g h = absurd (false≢true g)
cut_most (inf false) g h = refl
cut_most (fin true m e) g h = absurd (not_negative (down e) (m * up e) (down_pos e) g)
cut_most (fin false m e) g h = last (m * up e / down e) ((le-div_iff_mul-le (down_pos e)).1 (many (m * up e) (down e) (not_below (m * up e * 1) (1 * 2 ^ 32 * down e) h)))
  where
    many : (u d : ℕ) → 1 * 2 ^ 32 * d ≤ u * 1 → 4294967296 * d ≤ u
    many u d h = omega arith

    last : (w : ℕ) → 4294967296 ≤ w → 4294967295 ≡ min w 4294967295
    last w h = omega arith

pub cut_finite : (x : Float) → le (fin false 1 (pos 0)) x ≡ true → lt x (fin false 1 (pos 32)) ≡ true → T (finite x)
unfolding le lt eq
cut_finite nan g h = absurd (false≢true g)
cut_finite (inf true) g h = absurd (false≢true g)
cut_finite (inf false) g h = absurd (false≢true h)
cut_finite (fin s m e) g h = tt

-- between: u / d is x, and sig * 2 ^ exp units of 2^-1074
module _ (u d sig exp : ℕ) (D : 0 < d) (E : u * 2 ^ 1074 ≡ sig * 2 ^ exp * d) (S : sig < 2 ^ 53) (N : (exp ≡ 0) ⊎ (2 ^ 52 ≤ sig)) (L : d ≤ u) (H : u < 4294967296 * d) where
  least : 2 ^ 1074 ≤ sig * 2 ^ exp
  least = le_of_mul-le-mul_right (le_trans (le_of_eq (mul_comm (2 ^ 1074) d)) (le_trans (mul-le-mul_right (2 ^ 1074) L) (le_of_eq E))) D

  most : sig * 2 ^ exp < 2 ^ 32 * 2 ^ 1074
  most = lt_of_mul-lt-mul_right d (lt_of_le_of_lt (le_of_eq (sym E)) (lt_of_lt_of_le (mul-lt-mul_of_pos_right H (pow_pos 1074)) (le_of_eq (turn d (2 ^ 1074)))))
    where
      turn : (d k : ℕ) → 4294967296 * d * k ≡ 4294967296 * k * d
      turn d k = omega arith

  exp_least : 1022 ≤ exp
  exp_least =
      let a : 1074 < 53 + exp = pow_lt_back 1074 (53 + exp) (lt_of_le_of_lt least (lt_of_lt_of_le (mul-lt-mul_of_pos_right S (pow_pos exp)) (le_of_eq (sym (pow-add 2 53 exp))))) in
      omega arith

  exp_most : exp ≤ 1053
  exp_most = go N
    where
      go : (exp ≡ 0) ⊎ (2 ^ 52 ≤ sig) → exp ≤ 1053
      go (inl z) = omega arith
      go (inr l) =
          let a : 52 + exp < 32 + 1074 = pow_lt_back (52 + exp) (32 + 1074) (lt_of_le_of_lt (le_of_eq (pow-add 2 52 exp)) (lt_of_le_of_lt (mul-le-mul_right (2 ^ exp) l) (lt_of_lt_of_le most (le_of_eq (sym (pow-add 2 32 1074)))))) in
          omega arith

  whole : sig / 2 ^ (1074 - exp) ≡ u / d
  whole =
      sym (div_same u d sig (2 ^ (1074 - exp)) D (pow_pos (1074 - exp)) (cancel u d sig (2 ^ (1074 - exp)) (2 ^ exp) (pow_pos exp) (ap (λ (k : ℕ). u * k) (sym (pow-add 2 (1074 - exp) exp) ∙ ap (λ (k : ℕ). 2 ^ k) (back exp exp_most)) ∙ E)))
    where
      back : (e : ℕ) → e ≤ 1053 → 1074 - e + e ≡ 1074
      back e h = omega arith

      cancel : (u d s k e : ℕ) → 0 < e → u * (k * e) ≡ s * e * d → u * k ≡ s * d
      cancel u d s k e p h = eq_of_mul-eq-mul_right e p (u * k) (s * d) (mul_assoc u k e ∙ h ∙ turn s e d)
        where
          turn : (s e d : ℕ) → s * e * d ≡ s * d * e
          turn s e d = omega arith

  cut_is : IsCut sig exp (min (u / d) 4294967295)
  cut_is =
      let w : u / d < 4294967296 = (div-lt_iff_lt-mul D).1 H in
      let s : min (u / d) 4294967295 ≡ u / d = few (u / d) w in
      record { least = exp_least; most = exp_most; fits = lt_of_le_of_lt (le_of_eq whole) w; whole = whole ∙ sym s }
    where
      few : (w : ℕ) → w < 4294967296 → min w 4294967295 ≡ w
      few w h = omega arith

pub cut_some : (x : Float) (sig exp : ℕ) → le (fin false 1 (pos 0)) x ≡ true → lt x (fin false 1 (pos 32)) ≡ true → IsMagnitude x sig exp
    → IsCut sig exp (to_unsigned 32 x)
unfolding le lt eq to_unsigned
cut_some nan sig exp g h M = absurd (false≢true g)
cut_some (inf true) sig exp g h M = absurd (false≢true g)
cut_some (inf false) sig exp g h M = absurd (false≢true h)
cut_some (fin true m e) sig exp g h M = absurd (not_negative (down e) (m * up e) (down_pos e) g)
cut_some (fin false m e) sig exp g h M =
    cut_is (m * up e) (down e) sig exp (down_pos e) M.value M.small M.leading (one (m * up e) (down e) (at_most (1 * 1 * down e) (m * up e * 1) g)) (few (m * up e) (down e) (below (m * up e * 1) (1 * 2 ^ 32 * down e) h))
  where
    one : (u d : ℕ) → 1 * 1 * d ≤ u * 1 → d ≤ u
    one u d h = omega arith

    few : (u d : ℕ) → u * 1 < 1 * 2 ^ 32 * d → u < 4294967296 * d
    few u d h = omega arith
