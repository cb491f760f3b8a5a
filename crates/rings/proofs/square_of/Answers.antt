-- `rings::square_of`: its four sides are those of the definition, within the grid.
use Rattle.std.proofs.Common.{arith}
use Rattle.rules.specs.GridAndNearest.{square}
use Rattle.rings.specs.Squares.{square_of}
use Rattle.rings.proofs.square_of.Goals as goal

pub returns : goal.returns
unfolding square_of square
returns c =
    record {
      square = rw (c.saturating_sub.ensures, c.min.ensures, c.saturating_sub-2.ensures, c.min-2.ensures);
      inside = record { wide = omega arith; last_col = omega arith; high = omega arith; last_row = omega arith };
    }
