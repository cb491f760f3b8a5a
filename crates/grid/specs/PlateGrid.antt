-- The grid of every accepted plate with a point is sane: at most 54 columns and 54 rows. Assumes nothing.
use Rattle.std.specs.Prelude.{List, ℕ, ◌+◌, ◌*◌, ◌^◌, ◌≤◌, ◌<◌, Float}
use Rattle.std.proofs.Common.{mul-pos, arith, pow_pos}
use Rattle.std.specs.Float.{binary64}
use Rattle.std.specs.Float.Ieee.Fits.{inf-fits}
use Rattle.std.specs.Float.Ieee.Positive.{first_pos}
use Rattle.rules.specs.Tools.{sum}
use Rattle.rules.specs.Box.{box}
use Rattle.rules.specs.GridAndNearest.{grid_of}
use Rattle.rules.specs.HandedOver.{IsF64}
use Rattle.rules.specs.declared.BoundingBox.{BoundingBox}
use Rattle.plate_laws.specs.Lists.{All}
use Rattle.plate_laws.specs.AcceptedInput.{Accepted}
use Rattle.rounding_errors.specs.Units.{positive_at}
use Rattle.rounding_errors.specs.Boxes.{Sides, SoundBox, box_sides, accepted_sound}
use Rattle.rounding_errors.specs.BoxGrid.{gridded}
use Rattle.grid.specs.SaneGrid.{SaneGrid}

inverse_some : (L I S : ℕ) → 0 < L → L * L * 2 ^ 53 ≤ I * S * (2 ^ 53 + 1) → 0 < I
inverse_some L I S l h = first_pos I S (go (L * L) (I * S) (mul-pos l l) h)
  where
    go : (u v : ℕ) → 0 < u → u * 2 ^ 53 ≤ v * (2 ^ 53 + 1) → 0 < v
    go u v h g = omega arith

pub sane_of : (b : BoundingBox) → Sides IsF64 b → SoundBox b → SaneGrid (grid_of b)
sane_of b f s =
    let g = gridded b f s in
    record {
      cols_least = g.x.cells_least;
      cols_most = g.x.cells_most;
      rows_least = g.y.cells_least;
      rows_most = g.y.cells_most;
      size = (positive_at binary64 (grid_of b).cell_size g.S g.size g.size_some).0;
      inverse = (positive_at binary64 (grid_of b).inv_cell_size g.I g.inverse (inverse_some (2 ^ 1074) g.I g.S (pow_pos 1074) g.near.under)).0;
    }

-- a plate that refusals 1 to 4 let pass
pub plate_grid : (xs : List Float) (ns : List ℕ) → All IsF64 xs → Accepted xs ns → 0 < sum ns → SaneGrid (grid_of (box xs))
plate_grid xs ns f a h = sane_of (box xs) (box_sides IsF64 xs (inf-fits binary64) f) (accepted_sound xs ns a h)
