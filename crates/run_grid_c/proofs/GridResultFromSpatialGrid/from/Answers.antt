-- `GridResult::from`: the grid's numbers.
use Rattle.std.proofs.Common.{refl}
use Rattle.run_grid_c.specs.Results.{grid_result}
use Rattle.run_grid_c.proofs.GridResultFromSpatialGrid.from.Goals as goal

pub returns : goal.returns
unfolding grid_result
returns c = refl
