-- Finite floats as differences of whole numbers of the format's smallest value. Assumes nothing.
use Rattle.std.specs.Prelude.{◌≡◌, refl, Bool, true, false, ◌&&◌, ℕ, zero, suc, ◌+◌, ◌-◌, ◌*◌, ◌%◌, ◌^◌, ◌≤◌, ◌<◌, ℤ, pos, negsuc, T, ltb, leb, eqb, Float}
use Rattle.std.proofs.Common.{sym, ap, ◌∙◌, true≢false, mul-one, mul-pos, mul-le-mul_right, arith, leb→le, eqb→eq, lt→ltb, pow-add, pow_pos}
use Rattle.std.proofs.Math.Decide.{dec_lt}
use Rattle.std.proofs.Math.Pow.{pow-lt}
use Rattle.std.specs.Float.{nan, inf, fin, Format}
use Rattle.std.specs.Float.Ieee.{prec, emax, low, up, down, neg, fits}
use Rattle.std.specs.Float.Ieee.Exact.{HasValue}
use Rattle.std.specs.Float.Ieee.Fits.{down_pos, up_pos, and_l, and_r}
use Rattle.std.specs.Float.Ieee.Positive.{num, den, positive, first_pos}
use Rattle.std.specs.Float.Ieee.Scale.{finite}

-- ---- a number with a sign is a difference, of which one part is 0

abbrev pub plus_part : Bool → ℕ → ℕ
plus_part false a = a
plus_part true a = 0

abbrev pub minus_part : Bool → ℕ → ℕ
minus_part false a = 0
minus_part true a = a

pub plus_times : (s : Bool) (a c : ℕ) → plus_part s (a * c) ≡ plus_part s a * c
plus_times true a c = omega arith
plus_times false a c = refl

pub minus_times : (s : Bool) (a c : ℕ) → minus_part s (a * c) ≡ minus_part s a * c
minus_times true a c = refl
minus_times false a c = omega arith

-- a finite x is (num_plus x - num_minus x) / den x
abbrev pub num_plus : Float → ℕ
num_plus nan = 0
num_plus (inf s) = 0
num_plus (fin s m e) = plus_part s (m * up e)

abbrev pub num_minus : Float → ℕ
num_minus nan = 0
num_minus (inf s) = 0
num_minus (fin s m e) = minus_part s (m * up e)

-- ---- x is finite, and it is (p - n) units of 2 ^ -low

abbrev pub At : Format → Float → ℕ → ℕ → Type 0
At f x p n = T (finite x) × (num_plus x * 2 ^ low f + n * den x ≡ num_minus x * 2 ^ low f + p * den x)

pub neg_at : (f : Format) (x : Float) (p n : ℕ) → At f x p n → At f (neg x) n p
unfolding neg
neg_at f nan p n h = absurd h.0
neg_at f (inf s) p n h = absurd h.0
neg_at f (fin true m e) p n h = (tt, sym h.1)
neg_at f (fin false m e) p n h = (tt, sym h.1)

-- a float that is written as c * 2 ^ j
pub written_at : (f : Format) (c j : ℕ) → At f (fin false c (pos j)) (c * 2 ^ j * 2 ^ low f) 0
written_at f c j = (tt, omega arith)

-- a value of w units, with a sign
pub value_at : (f : Format) (x : Float) (s : Bool) (w : ℕ) → HasValue x s w (2 ^ low f) → At f x (plus_part s w) (minus_part s w)
value_at f nan s w v = absurd v
value_at f (inf t) s w v = absurd v
value_at f (fin true m e) true w v = (tt, omega (arith, v.1))
value_at f (fin false m e) false w v = (tt, omega (arith, v.1))
value_at f (fin true m e) false w v = absurd (true≢false v.0)
value_at f (fin false m e) true w v = absurd (true≢false (sym v.0))

-- ---- more than 0 units

pub positive_at : (f : Format) (x : Float) (p : ℕ) → At f x p 0 → 0 < p → T (positive x) × (num x * 2 ^ low f ≡ p * den x)
positive_at f nan p h P = absurd h.0
positive_at f (inf s) p h P = absurd h.0
positive_at f (fin true m e) p h P = absurd (omega (arith, h.1, mul-pos P (down_pos e)))
positive_at f (fin false m e) p h P =
    let e1 : m * up e * 2 ^ low f ≡ p * down e = omega (arith, h.1) in
    (lt→ltb 0 m (first_pos m (up e) (first_pos (m * up e) (2 ^ low f) (rw e1 (mul-pos P (down_pos e))))), e1)

-- ---- a finite float that the format holds is a whole number of units

pub down_le : (f : Format) (s : Bool) (m : ℕ) (e : ℤ) → T (fits f (fin s m e)) → down e ≤ 2 ^ low f
unfolding fits
down_le f s zero e h =
    let w : up e * down e ≡ 1 = eqb→eq (up e * down e) 1 h in
    omega (arith, mul-le-mul_right (down e) (up_pos e), pow_pos (low f))
down_le f s (suc m) e h =
    let a = eqb (suc m % 2) 1 && ltb (suc m) (2 ^ prec f) in
    let b = leb (down e) (2 ^ low f) in
    leb→le (down e) (2 ^ low f) (and_r a b (and_l (a && b) (ltb (suc m * up e) (2 ^ suc (emax f) * down e)) h))

pub unit_of : (f : Format) (e : ℤ) → down e ≤ 2 ^ low f → (q : ℕ) × (2 ^ low f ≡ q * down e)
unit_of f (pos k) h = (2 ^ low f, sym (mul-one (2 ^ low f)))
unit_of f (negsuc k) h = go (dec_lt (low f) (suc k))
  where
    go : Dec (low f < suc k) → (q : ℕ) × (2 ^ low f ≡ q * 2 ^ suc k)
    go (yes l) = absurd (omega (arith, pow-lt l))
    go (no l) =
        let w : low f - suc k + suc k ≡ low f = omega arith in
        (2 ^ (low f - suc k), ap (λ (n : ℕ). 2 ^ n) (sym w) ∙ pow-add 2 (low f - suc k) (suc k))

-- each part in units, by the number q of units that 1 / den x has
pub fits_at : (f : Format) (x : Float) → T (fits f x) → T (finite x) →
    (q : ℕ) × (2 ^ low f ≡ q * den x) × At f x (num_plus x * q) (num_minus x * q)
fits_at f nan h t = absurd t
fits_at f (inf s) h t = absurd t
fits_at f (fin s m e) h t =
    let w = unit_of f e (down_le f s m e h) in
    (w.0, w.1, (tt, go (plus_part s (m * up e)) (minus_part s (m * up e)) (2 ^ low f) w.0 (down e) w.1))
  where
    go : (a b l q d : ℕ) → l ≡ q * d → a * l + b * q * d ≡ b * l + a * q * d
    go a b l q d h = omega (arith, ap (λ (i : ℕ). a * i) h, ap (λ (i : ℕ). b * i) h)
