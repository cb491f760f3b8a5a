-- `CenterResult::from`: the two coordinates.
use Rattle.std.proofs.Common.{refl}
use Rattle.run_grid_c.specs.Results.{center_result}
use Rattle.run_grid_c.proofs.CenterResultFromPoint.from.Goals as goal

pub returns : goal.returns
unfolding center_result
returns c = refl
