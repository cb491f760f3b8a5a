-- `Grid::new`: the grid of the definition, which is sane.
use Rattle.std.proofs.Common.{rules}
use lib.Ieee.{of_bits}
use Rattle.rules.specs.GridAndNearest.{grid_of}
use Rattle.rules.specs.HandedOver.{IsF64}
use Rattle.rules.specs.declared.BoundingBox.{BoundingBox}
use Rattle.rounding_errors.specs.Boxes.{SoundBox}
use Rattle.grid.specs.SaneGrid.{SaneGrid}
use Rattle.grid.specs.PlateGrid.{sane_of}
use Rattle.grid.proofs.Grid.new.Goals as goal

-- the parameter's fields are f64
sane : (b : BoundingBox) → IsF64 b.min_x × (IsF64 b.min_y × (IsF64 b.max_x × (IsF64 b.max_y × Unit {0}))) → SoundBox b → SaneGrid (grid_of b)
sane b h s = sane_of b (record { left = h.0; right = h.1.1.0; bottom = h.1.0; top = h.1.1.1.0 }) s

pub cells_along-requires : goal.cells_along-requires
unfolding grid_of
cells_along-requires c = rw c.cell_size-size.ensures (sane c.args.b (search rules) c.requires).cols_most

pub cells_along-requires-2 : goal.cells_along-requires-2
unfolding grid_of
cells_along-requires-2 c = rw c.cell_size-size.ensures (sane c.args.b (search rules) c.requires).rows_most

pub invariant_of-result : goal.invariant_of-result
unfolding grid_of of_bits
invariant_of-result c = record { sane = rw (c.cells_along.ensures, c.cells_along-2.ensures, c.cell_size-size.ensures) (sane c.args.b (search rules) c.requires) }

pub returns : goal.returns
unfolding grid_of of_bits
returns c = rw (c.cells_along.ensures, c.cells_along-2.ensures, c.cell_size-size.ensures)
