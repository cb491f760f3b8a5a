-- `grid::cell_size`: the code is the definition.
use lib.Ieee.{of_bits}
use Rattle.rules.specs.GridAndNearest.{cell_size}
use Rattle.grid.proofs.cell_size.Goals as goal

pub returns : goal.returns
unfolding cell_size of_bits
returns c = rw (c.greater-canvas_extent.ensures, c.greater.ensures)
