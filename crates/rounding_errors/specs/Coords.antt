-- Coordinates of a plate, in units of 2 ^ -1074. Assumes nothing.
use Rattle.std.specs.Prelude.{◌≡◌, true, false, ℕ, ◌*◌, ◌^◌, ◌≤◌, T, Float}
use Rattle.std.proofs.Common.{mul-le-mul_right, arith}
use Rattle.std.specs.Float.{nan, inf, fin, binary64}
use Rattle.std.specs.Float.Ieee.Positive.{den}
use Rattle.std.specs.Float.Ieee.Scale.{finite}
use Rattle.rules.specs.HandedOver.{IsF64}
use Rattle.plate_laws.specs.FiniteDistances.{AtMost, OnPlate, on_plate_most}
use Rattle.rounding_errors.specs.Units.{num_plus, num_minus, At, fits_at}

-- x is (p - n) units, and neither p nor n is above 1,000,000
pub record Coord (x : Float) (p n : ℕ) : Type 0 where
  pub at : At binary64 x p n
  pub plus : p ≤ 1000000 * 2 ^ 1074
  pub minus : n ≤ 1000000 * 2 ^ 1074

most_finite : (k : ℕ) (x : Float) → AtMost k x → T (finite x)
most_finite k nan h = absurd h
most_finite k (inf s) h = absurd h
most_finite k (fin s m e) h = tt

most_parts : (k : ℕ) (x : Float) → AtMost k x → (num_plus x ≤ k * den x) × (num_minus x ≤ k * den x)
most_parts k nan h = absurd h
most_parts k (inf s) h = absurd h
most_parts k (fin true m e) h = (omega arith, h)
most_parts k (fin false m e) h = (h, omega arith)

pub on_plate_finite : (x : Float) → OnPlate x → T (finite x)
on_plate_finite x t = most_finite 1000000 x (on_plate_most x t)

pub coord_of : (x : Float) → IsF64 x → OnPlate x → (p : ℕ) × (n : ℕ) × Coord x p n
coord_of x h t =
    let u = fits_at binary64 x h (on_plate_finite x t) in
    let m = most_parts 1000000 x (on_plate_most x t) in
    let q = u.0 in (
      num_plus x * q,
      num_minus x * q,
      record {
        at = u.2;
        plus = go (num_plus x) (den x) (2 ^ 1074) q u.1 (mul-le-mul_right q m.0);
        minus = go (num_minus x) (den x) (2 ^ 1074) q u.1 (mul-le-mul_right q m.1);
      },
    )
  where
    go : (a d l q : ℕ) → l ≡ q * d → a * q ≤ 1000000 * d * q → a * q ≤ 1000000 * l
    go a d l q e h = omega arith
