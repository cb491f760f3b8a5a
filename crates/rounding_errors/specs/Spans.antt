-- One side of a sound box in units of 2 ^ -1074: the greatest coordinate less the least, rounded. Assumes nothing.
use Rattle.std.specs.Prelude.{ℕ, ◌+◌, ◌-◌, ◌*◌, ◌^◌, ◌≤◌, T, Float}
use Rattle.std.proofs.Common.{add-sub_of_le, arith}
use Rattle.std.specs.Float.{binary64}
use Rattle.std.specs.Float.Ieee.{sub, le}
use Rattle.rules.specs.HandedOver.{IsF64}
use Rattle.plate_laws.specs.FiniteDistances.{OnPlate}
use Rattle.rounding_errors.specs.Units.{At}
use Rattle.rounding_errors.specs.Order.{le_under, under_at}
use Rattle.rounding_errors.specs.Sums.{sub_up}
use Rattle.rounding_errors.specs.Coords.{Coord, coord_of, on_plate_finite}

-- lo is p - n, hi is p1 - n1, and w is the side
pub record Span (lo hi : Float) : Type 0 where
  pub p : ℕ
  pub n : ℕ
  pub p1 : ℕ
  pub n1 : ℕ
  pub w : ℕ
  pub least : Coord lo p n
  pub greatest : Coord hi p1 n1
  pub order : n1 + p ≤ p1 + n
  pub at : At binary64 (sub binary64 hi lo) w 0
  pub wide : (p1 + n) * 2 ^ 20 ≤ (n1 + p) * 2 ^ 20 + w * (2 ^ 20 + 1)
  pub limit : w ≤ 2000001 * 2 ^ 1074

-- ---- d is the exact side, and L is 2 ^ 1074

small : (L p n q k : ℕ) → n ≤ 1000000 * L → q ≤ 1000000 * L → q + n - (k + p) ≤ 2000000 * L
small L p n q k h g = omega arith

room : (L d : ℕ) → d ≤ 2000000 * L → d ≤ 2 ^ 100 * L
room L d h = omega arith

w_most : (L d w : ℕ) → d ≤ 2000000 * L → w * 2 ^ 53 ≤ d * (2 ^ 53 + 1) → w ≤ 2000001 * L
w_most L d w h g = omega arith

w_least : (x y w : ℕ) → x ≤ y → (y - x) * 2 ^ 53 ≤ w * (2 ^ 53 + 1) → y * 2 ^ 20 ≤ x * 2 ^ 20 + w * (2 ^ 20 + 1)
w_least x y w h g = omega arith

pub span_of : (lo hi : Float) → IsF64 lo → IsF64 hi → OnPlate lo → OnPlate hi → T (le lo hi) → Span lo hi
span_of lo hi fl fh a b u =
    let L = 2 ^ 1074 in
    let x = coord_of lo fl a in
    let y = coord_of hi fh b in
    let under = le_under lo hi (on_plate_finite lo a) (on_plate_finite hi b) u in
    let o : y.1 + x.0 ≤ y.0 + x.1 = omega (arith, under_at binary64 lo hi x.0 x.1 y.0 y.1 x.2.at y.2.at under) in
    let d = y.0 + x.1 - (y.1 + x.0) in
    let D : d ≤ 2000000 * L = small L x.0 x.1 y.0 y.1 x.2.minus y.2.plus in
    let r = sub_up binary64 hi lo y.0 y.1 x.0 x.1 d y.2.at x.2.at (add-sub_of_le o) (room L d D) in
    record {
      p = x.0;
      n = x.1;
      p1 = y.0;
      n1 = y.1;
      w = r.0;
      least = x.2;
      greatest = y.2;
      order = o;
      at = r.1;
      wide = w_least (y.1 + x.0) (y.0 + x.1) r.0 o r.2.under;
      limit = w_most L d r.0 D r.2.over;
    }
