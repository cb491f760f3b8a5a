-- Squares are not negative, and what a fused sum and a root are where a square is no finite number. Over both formats. Assumes nothing.
use Rattle.std.specs.Prelude.{◌≡◌, refl, Bool, not, cond, ◌&&◌, T, ltb, ℤ, Float}
use Rattle.std.proofs.Math.Bool.{true, false}
use Prim.Native.Nat.{ℕ, zero, suc, ◌+◌, ◌*◌, ◌^◌}
use Rattle.std.specs.Float.{nan, inf, fin, Format}
use Rattle.std.specs.Float.Ieee.{up, down, prec, emax, low, odd, units, round, sum, add, mul}
use Rattle.std.specs.Float.Ieee.Scale.{finite}
use Rattle.std.specs.Float.Ieee.Fits.{round_is}
use Rattle.rounding.specs.Magnitude.{non_negative}
use Rattle.rules.specs.Tools.{pick}
use Rattle.rules.specs.Distances.{mul_add, sqrt, distance_squared}
use Rattle.rules.specs.declared.Point.{Point}

-- a number whose sign is clear, the positive infinity, or NaN
abbrev pub unsigned : Float → Bool
unsigned nan = true
unsigned (inf s) = not s
unsigned (fin s m e) = not s

-- ---- a fraction with a clear sign rounds to a number with a clear sign or to the positive infinity: what holds of those holds of it

module _ (P : Float → Type 0) (infinite : P (inf false)) (number : (m : ℕ) (e : ℤ) → P (fin false m e)) where
  odd_is : (d q k l : ℕ) → P (odd d false q k l)
  unfolding odd
  odd_is d zero k l = number _ _
  odd_is d (suc q) k l = number _ _

  units_is : (f : Format) (q k : ℕ) → P (units f false q k)
  unfolding units
  units_is f q k = go (ltb (q * 2 ^ k) (2 ^ (low f + suc (emax f))))
    where
      go : (b : Bool) → P (cond b (odd (suc (prec f)) false q k (low f)) (inf false))
      go true = odd_is (suc (prec f)) q k (low f)
      go false = infinite

  pub rounded : (f : Format) (num den : ℕ) → P (round f false num den)
  rounded f num den = rw (round_is f false num den) (units_is f _ _)

unsigned_number : (m : ℕ) (e : ℤ) → T (unsigned (fin false m e))
unsigned_number m e = tt

abbrev Unsigned : Float → Type 0
Unsigned x = T (unsigned x)

pub round_unsigned : (f : Format) (num den : ℕ) → T (unsigned (round f false num den))
round_unsigned = rounded Unsigned tt unsigned_number

-- ---- a square, and a square added to something that is not negative

pub mul_unsigned : (f : Format) (y : Float) → T (unsigned (mul f y y))
unfolding mul
mul_unsigned f nan = tt
mul_unsigned f (inf true) = tt
mul_unsigned f (inf false) = tt
mul_unsigned f (fin true m e) = round_unsigned f (m * up e * (m * up e)) (down e * down e)
mul_unsigned f (fin false m e) = round_unsigned f (m * up e * (m * up e)) (down e * down e)

inf_plus : (f : Format) (z : Float) → T (unsigned z) → T (unsigned (add f (inf false) z))
unfolding add
inf_plus f nan h = tt
inf_plus f (inf true) h = absurd h
inf_plus f (inf false) h = tt
inf_plus f (fin t n d) h = tt

pub mul_add_unsigned : (f : Format) (x z : Float) → T (unsigned z) → T (unsigned (mul_add f x x z))
unfolding mul_add mul sum
mul_add_unsigned f nan z h = tt
mul_add_unsigned f (inf true) z h = inf_plus f z h
mul_add_unsigned f (inf false) z h = inf_plus f z h
mul_add_unsigned f (fin s m e) nan h = tt
mul_add_unsigned f (fin s m e) (inf u) h = h
mul_add_unsigned f (fin s m e) (fin true k c) h = absurd h
mul_add_unsigned f (fin true m e) (fin false k c) h = round_unsigned f (m * up e * (m * up e) * down c + k * up c * (down e * down e)) (down e * down e * down c)
mul_add_unsigned f (fin false m e) (fin false k c) h = round_unsigned f (m * up e * (m * up e) * down c + k * up c * (down e * down e)) (down e * down e * down c)

pub distance_squared_unsigned : (p q : Point) → T (unsigned (distance_squared p q))
unfolding distance_squared
distance_squared_unsigned p q = mul_add_unsigned _ _ _ (mul_unsigned _ _)

-- ---- where one of the numbers is not finite, rounding the product first changes nothing

add_nan : (f : Format) (x : Float) → add f x nan ≡ nan
unfolding add
add_nan f nan = refl
add_nan f (inf s) = refl
add_nan f (fin s m e) = refl

abbrev PlusInf : Format → Float → Type 0
PlusInf f x = add f x (inf false) ≡ inf false

add_inf : (f : Format) (m : ℕ) (e : ℤ) → PlusInf f (fin false m e)
unfolding add
add_inf f m e = refl

inf_inf : (f : Format) → PlusInf f (inf false)
unfolding add
inf_inf f = refl

square_inf : (f : Format) (s : Bool) (m : ℕ) (e : ℤ) → PlusInf f (mul f (fin s m e) (fin s m e))
unfolding mul
square_inf f true m e = rounded (PlusInf f) (inf_inf f) (add_inf f) f (m * up e * (m * up e)) (down e * down e)
square_inf f false m e = rounded (PlusInf f) (inf_inf f) (add_inf f) f (m * up e * (m * up e)) (down e * down e)

pub not_finite_sum : (f : Format) (x z : Float) → T (unsigned z) → T (not (finite x && finite z)) → add f (mul f x x) z ≡ mul_add f x x z
unfolding mul_add add mul
not_finite_sum f nan z h g = refl
not_finite_sum f (inf s) z h g = refl
not_finite_sum f (fin s m e) nan h g = add_nan f (mul f (fin s m e) (fin s m e))
not_finite_sum f (fin s m e) (inf true) h g = absurd h
not_finite_sum f (fin s m e) (inf false) h g = square_inf f s m e
not_finite_sum f (fin s m e) (fin t n d) h g = absurd g

pub not_finite_root : (f : Format) (x : Float) → T (unsigned x) → T (not (finite x)) → x ≡ sqrt f x
unfolding sqrt pick
not_finite_root f nan h g = refl
not_finite_root f (inf true) h g = absurd h
not_finite_root f (inf false) h g = refl
not_finite_root f (fin s m e) h g = absurd g

-- ---- where they are finite

pub finite_unsigned : (x : Float) → T (finite x) → T (unsigned x) → T (non_negative x)
finite_unsigned nan f u = absurd f
finite_unsigned (inf s) f u = absurd f
finite_unsigned (fin s m e) f u = u
