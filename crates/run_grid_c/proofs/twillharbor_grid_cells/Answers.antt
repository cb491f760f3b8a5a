-- `run_grid_c::twillharbor_grid_cells`: where the plate has a grid and the slice has room, the cells are written.
use Rattle.std.proofs.Common.{refl, sym, ◌∙◌, arith}
use Rattle.rules.specs.Tools.{pick}
use Rattle.run_grid_c.specs.RoomTests.{room_told}
use Rattle.run_grid_c.proofs.twillharbor_grid_cells.Goals as goal

pub returns-then-not-has_room : goal.returns-then-not-has_room
unfolding pick
returns-then-not-has_room c = (c.if-not-has_room.ensures ∙ rw c.accepted_points-n.ensures, refl)

pub grid_for-g-requires : goal.grid_for-g-requires
grid_for-g-requires c =
    (room_told _ _ _ c.accepted_points-n.ensures _ (sym c.if-not-has_room.ensures)).grid.sound

pub number_cells-requires : goal.number_cells-requires
number_cells-requires c =
    let w = room_told _ _ _ c.accepted_points-n.ensures _ (sym c.if-not-has_room.ensures) in
    record { points = omega (arith, w.grid.half); room = w.room }

pub returns : goal.returns
unfolding pick
returns c =
    let e = c.accepted_points-n.ensures in (
      c.if-not-has_room.ensures ∙ rw e,
      rw (c.number_cells.ensures, c.grid_for-g.ensures, e),
    )
