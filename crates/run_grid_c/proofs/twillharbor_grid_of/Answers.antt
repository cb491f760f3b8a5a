-- `run_grid_c::twillharbor_grid_of`: the numbers of the grid, where the plate has one.
use Rattle.std.proofs.Common.{sym, ap, ◌∙◌, arith}
use lib.Ieee.{of_bits}
use borrow.Author.Tests.{lt-ltb}
use Rattle.rules.specs.Tools.{pick}
use Rattle.run_grid_c.specs.RoomTests.{gridded}
use Rattle.run_grid_c.specs.Results.{grid_result, no_grid}
use Rattle.run_grid_c.proofs.twillharbor_grid_of.Goals as goal

pub grid_for-requires : goal.grid_for-requires
grid_for-requires c = (gridded _ _ _ c.accepted_points.ensures (omega arith)).sound

pub returns-then-accepted_points-eq0 : goal.returns-then-accepted_points-eq0
unfolding no_grid pick of_bits
returns-then-accepted_points-eq0 c =
    let e = c.default.ensures in
    rw (sym c.accepted_points.ensures, c.if-accepted_points-eq0.true)
    (λ i. record { cell_size = e.0 i; inv_cell_size = e.1.0 i; origin_x = e.1.1.0 i; origin_y = e.1.1.1.0 i; cols = e.1.1.1.1.0 i; rows = e.1.1.1.1.1 i })

pub returns : goal.returns
unfolding pick
returns c = rw (sym c.accepted_points.ensures, lt-ltb 0 c.accepted_points.result (omega arith)) (c.into.ensures ∙ ap grid_result c.grid_for.ensures)
