-- `run_grid_c::number_cells`: one more cell's number is written.
use Rattle.rules.specs.SamplesAndCache.{cell_at, cell_number}
use Rattle.run_grid_c.proofs.WriteLoop.{writing_start, writing_next}
use Rattle.run_grid_c.proofs.number_cells.Goals as goal

pub loop-v-init : goal.loop-v-init
loop-v-init c = writing_start _ _ _

pub loop-v-preserved : goal.loop-v-preserved
unfolding cell_at cell_number
loop-v-preserved c =
    let k = c.cell_of.ensures in
    writing_next _ _ _ _ c.loop-v.v c.loop-v.invariant c.requires.room c.loop-v-test.true _
    (rw (c.cell_number.ensures.number, k.col, k.row, c.point_at-p.ensures))
