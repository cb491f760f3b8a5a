-- The grid of every sound box: 2 to 54 columns and rows, and how near its numbers are to the exact ones. Assumes nothing.
use Rattle.std.specs.Prelude.{ℕ, ◌+◌, ◌*◌, ◌^◌, ◌≤◌, ◌<◌, Float}
use Rattle.std.proofs.Common.{arith}
use Rattle.std.specs.Float.{binary64}
use Rattle.std.specs.Float.Ieee.{sub}
use Rattle.rules.specs.Limits.{most_cells_along}
use Rattle.rules.specs.HandedOver.{IsF64}
use Rattle.rules.specs.GridAndNearest.{cells_along, cell_size, grid_of}
use Rattle.rules.specs.declared.BoundingBox.{BoundingBox}
use Rattle.rules.specs.declared.SpatialGrid.{SpatialGrid}
use Rattle.rounding_errors.specs.NearFraction.{Near}
use Rattle.rounding_errors.specs.Units.{At}
use Rattle.rounding_errors.specs.Coords.{Coord}
use Rattle.rounding_errors.specs.Boxes.{Sides, SoundBox}
use Rattle.rounding_errors.specs.Origin.{Origin, origin_at}
use Rattle.rounding_errors.specs.Cells.{cells_at}
use Rattle.rounding_errors.specs.Spans.{Span, span_of}
use Rattle.rounding_errors.specs.CellSize.{IsCellSize, size_of, inverse_of}

-- In units of 2 ^ -1074: lo, the box's least coordinate, is p - n, its greatest, hi, is p1 - n1, the origin o is a - b, and S is the cell size.
pub record Axis (lo hi o : Float) (S cells : ℕ) : Type 0 where
  pub p : ℕ
  pub n : ℕ
  pub p1 : ℕ
  pub n1 : ℕ
  pub a : ℕ
  pub b : ℕ
  pub least : Coord lo p n
  pub greatest : Coord hi p1 n1
  pub order : n1 + p ≤ p1 + n
  pub origin : Origin o p n S a b
  pub wide : (p1 + n) * 1024 ≤ (n1 + p) * 1024 + S * 51250
  pub cells_least : 2 ≤ cells
  pub cells_most : cells ≤ most_cells_along

-- S is the cell size, and I its reciprocal
pub record SoundGrid (b : BoundingBox) (g : SpatialGrid) : Type 0 where
  pub S : ℕ
  pub I : ℕ
  pub size : At binary64 g.cell_size S 0
  pub size_some : 0 < S
  pub size_least : 2 ^ 1074 ≤ 51 * S
  pub size_most : S ≤ 40001 * 2 ^ 1074
  pub inverse : At binary64 g.inv_cell_size I 0
  pub near : Near binary64 (I * S) (2 ^ 1074 * 2 ^ 1074)
  pub x : Axis b.min_x b.max_x g.origin_x S g.cols
  pub y : Axis b.min_y b.max_y g.origin_y S g.rows

axis_of : (lo hi s : Float) (S wx wy : ℕ) (c : Span lo hi) → IsCellSize s wx wy S → c.w * 2 ^ 20 ≤ S * 50 * (2 ^ 20 + 1) →
    Axis lo hi (sub binary64 lo s) S (cells_along s (sub binary64 lo s) hi)
axis_of lo hi s S wx wy c z w =
    let o = origin_at lo s c.p c.n S c.least z.at z.least z.most in
    let v = wide (c.p1 + c.n) (c.n1 + c.p) c.w S c.wide w in
    let r = cells_at hi s (sub binary64 lo s) c.p c.n c.p1 c.n1 S o.0 o.1 c.greatest z.at z.some z.most o.2 c.order v in
    record {
      p = c.p;
      n = c.n;
      p1 = c.p1;
      n1 = c.n1;
      a = o.0;
      b = o.1;
      least = c.least;
      greatest = c.greatest;
      order = c.order;
      origin = o.2;
      wide = v;
      cells_least = r.0;
      cells_most = r.1;
    }
  where
    wide : (x y w S : ℕ) → x * 2 ^ 20 ≤ y * 2 ^ 20 + w * (2 ^ 20 + 1) → w * 2 ^ 20 ≤ S * 50 * (2 ^ 20 + 1) → x * 1024 ≤ y * 1024 + S * 51250
    wide x y w S h g = omega arith

pub gridded : (b : BoundingBox) → Sides IsF64 b → SoundBox b → SoundGrid b (grid_of b)
unfolding grid_of
gridded b f s =
    let o = s.on_plate in
    let cx = span_of b.min_x b.max_x f.left f.right o.left o.right s.across in
    let cy = span_of b.min_y b.max_y f.bottom f.top o.bottom o.top s.upward in
    let z = size_of b cx.w cy.w cx.at cy.at cx.limit cy.limit in
    let S = z.0 in
    let i = inverse_of (cell_size b) cx.w cy.w S z.1 in
    record {
      S = S;
      I = i.0;
      size = z.1.at;
      size_some = z.1.some;
      size_least = z.1.least;
      size_most = z.1.most;
      inverse = i.1;
      near = i.2;
      x = axis_of b.min_x b.max_x (cell_size b) S cx.w cy.w cx z.1 z.1.x;
      y = axis_of b.min_y b.max_y (cell_size b) S cx.w cy.w cy z.1 z.1.y;
    }
