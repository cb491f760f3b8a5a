-- "Grid and nearest" of document 01. Definitions only.
use Rattle.std.specs.Prelude.{ℕ, zero, suc, ◌+◌, ◌-◌, ◌*◌, ◌/◌, ◌^◌, min, max, Bool, true, false, ◌&&◌, ◌||◌, List, [], ◌∷◌, pos, leb, ltb, eqb, Float}
use Rattle.std.specs.Float.{nan, inf, fin, binary64}
use Rattle.std.specs.Float.Ieee.{up, down, add, sub, mul, div, of_int, to_unsigned, lt, eq}
use Rattle.rules.specs.Tools.{pick, foldl, greater}
use Rattle.rules.specs.Distances.{distance_squared}
use Rattle.rules.specs.declared.Point.{Point}
use Rattle.rules.specs.declared.BoundingBox.{BoundingBox}
use Rattle.rules.specs.declared.SpatialGrid.{SpatialGrid}
use Rattle.rules.specs.declared.Nearest.{Nearest}
use Rattle.rules.specs.declared.Nearest.TheVariants.{Found, Nothing}

-- ---- the grid

-- s = max(width of box, height of box, 1) / 50
unfoldable pub cell_size : BoundingBox → Float
cell_size b =
    div binary64
    (greater (greater (sub binary64 b.max_x b.min_x) (sub binary64 b.max_y b.min_y)) (fin false 1 (pos 0)))
    (fin false 25 (pos 1))

-- The least whole number that is not below x, as Rust's `.ceil() as` has it for w bits: 0 for a NaN and below 0, and the greatest number of w bits
-- where x is beyond it.
unfoldable pub ceiling : ℕ → Float → ℕ
ceiling w nan = 0
ceiling w (inf s) = pick s 0 (2 ^ w - 1)
ceiling w (fin s m e) = pick s 0 (min ((m * up e + (down e - 1)) / down e) (2 ^ w - 1))

-- columns, or rows: ceiling((greatest − origin + s) / s) + 1
unfoldable pub cells_along : Float → Float → Float → ℕ
cells_along s origin greatest = ceiling 32 (div binary64 (add binary64 (sub binary64 greatest origin) s) s) + 1

unfoldable pub grid_of : BoundingBox → SpatialGrid
grid_of b =
    let s = cell_size b in
    let ox = sub binary64 b.min_x s in
    let oy = sub binary64 b.min_y s in
    record {
      cell_size = s;
      inv_cell_size = div binary64 (fin false 1 (pos 0)) s;
      origin_x = ox;
      origin_y = oy;
      cols = cells_along s ox b.max_x;
      rows = cells_along s oy b.max_y;
    }

-- ---- cells

pub record Cell : Type 0 where
  pub col : ℕ
  pub row : ℕ

-- A column, or a row: floor((x − origin) × (1 / s)), not below 0, at most the number of cells − 1. `to_unsigned` cuts a number that is not negative to
-- its whole part, which is its floor, gives 0 for one that is negative, and stays at 2^32 − 1 beyond that.
unfoldable pub index_along : Float → Float → ℕ → Float → ℕ
index_along origin inverse cells x = min (to_unsigned 32 (mul binary64 (sub binary64 x origin) inverse)) (cells - 1)

unfoldable pub cell_of : SpatialGrid → Point → Cell
cell_of g q =
    record {
      col = index_along g.origin_x g.inv_cell_size g.cols q.x;
      row = index_along g.origin_y g.inv_cell_size g.rows q.y;
    }

-- the square of radius r around a cell, clipped to the grid
pub record Square : Type 0 where
  pub first_col : ℕ
  pub last_col : ℕ
  pub first_row : ℕ
  pub last_row : ℕ

unfoldable pub square : SpatialGrid → Cell → ℕ → Square
square g c r =
    record {
      first_col = c.col - r;
      last_col = min (c.col + r) (g.cols - 1);
      first_row = c.row - r;
      last_row = min (c.row + r) (g.rows - 1);
    }

unfoldable pub within : Square → Cell → Bool
within s c = leb s.first_col c.col && leb c.col s.last_col && leb s.first_row c.row && leb c.row s.last_row

-- a ring is the border of its square, a clipped side too
unfoldable pub on_border : Square → Cell → Bool
on_border s c =
    within s c && (eqb c.col s.first_col || eqb c.col s.last_col || eqb c.row s.first_row || eqb c.row s.last_row)

-- ---- the search

-- a path point as the query sees it
pub record PathPoint : Type 0 where
  pub place : ℕ
  pub cell : Cell
  pub squared : Float

-- the path points from place i on, seen from q
unfoldable pub seen_from : SpatialGrid → Point → ℕ → List Point → List PathPoint
seen_from g q i [] = []
seen_from g q i (p ∷ ps) = record { place = i; cell = cell_of g p; squared = distance_squared q p } ∷ seen_from g q (suc i) ps

unfoldable pub found : PathPoint → Nearest
found c = Found (record { 0 = c.place }) c.squared

-- a smaller squared distance wins; an equal one wins with a higher path place
unfoldable pub wins : PathPoint → ℕ → Float → Bool
wins c i d = lt c.squared d || (eq c.squared d && ltb i c.place)

-- (After Nothing the Rust takes any distance but a NaN: the same, since those of accepted points are numbers.)
unfoldable pub nearer : Nearest → PathPoint → Nearest
nearer Nothing c = found c
nearer (Found i d) c = pick (wins c i.0 d) (found c) (Found i d)

-- one ring: the order within it is free
unfoldable pub scan_ring : SpatialGrid → Cell → List PathPoint → ℕ → Nearest → Nearest
scan_ring g q cs r best = foldl (λ b c. pick (on_border (square g q r) c.cell) (nearer b c) b) best cs

-- (r − 1) × s, rounded, then squared and rounded
unfoldable pub bound : SpatialGrid → ℕ → Float
bound g r = let d = mul binary64 (of_int binary64 (pos (r - 1))) g.cell_size in mul binary64 d d

-- from ring 2 the scan is left at the first ring whose bound is strictly above the best
unfoldable pub beyond : SpatialGrid → ℕ → Nearest → Bool
beyond g r Nothing = false
beyond g r (Found i d) = leb 2 r && lt d (bound g r)

-- n rings from ring r on
unfoldable pub scan_from : SpatialGrid → Cell → List PathPoint → ℕ → ℕ → Nearest → Nearest
scan_from g q cs zero r best = best
scan_from g q cs (suc n) r best =
    elim (beyond g r best) [ true ↦ best | false ↦ scan_from g q cs n (suc r) (scan_ring g q cs r best) ]

-- rings 0 to max(columns, rows) − 1
unfoldable pub nearest : SpatialGrid → List Point → Point → Nearest
nearest g path q = scan_from g (cell_of g q) (seen_from g q 0 path) (max g.cols g.rows) 0 Nothing
