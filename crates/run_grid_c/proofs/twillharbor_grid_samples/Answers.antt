-- `run_grid_c::twillharbor_grid_samples`: where the plate has a grid and the slice has room, the samples are marked.
use Rattle.std.proofs.Common.{sym, ◌∙◌, arith, true≢false}
use Rattle.std.proofs.lemmas.List.{length-take-le}
use Rattle.run_grid_c.specs.RoomTests.{room_told}
use Rattle.run_grid_c.proofs.MarkedSamples.{marked_longer, behind_kept}
use Rattle.run_grid_c.proofs.twillharbor_grid_samples.Goals as goal

pub grid_for-g-requires : goal.grid_for-g-requires
grid_for-g-requires c =
    (room_told _ _ _ c.accepted_points-n.ensures _ (sym c.if-not-has_room.ensures)).grid.sound

pub slice_bounds-mark_samples-end : goal.slice_bounds-mark_samples-end
slice_bounds-mark_samples-end c =
    (room_told _ _ _ c.accepted_points-n.ensures _ (sym c.if-not-has_room.ensures)).room

pub slice_bounds-mark_samples-end-2 : goal.slice_bounds-mark_samples-end-2
slice_bounds-mark_samples-end-2 c =
    sym (length-take-le _ _ (room_told _ _ _ c.accepted_points-n.ensures _ (sym c.if-not-has_room.ensures)).room)

pub mark_samples-requires : goal.mark_samples-requires
mark_samples-requires c =
    let w = room_told _ _ _ c.accepted_points-n.ensures _ (sym c.if-not-has_room.ensures) in
    let p = w.grid.plate in
    let l = length-take-le c.accepted_points-n.result c.args.owners.now w.room in
    record {
      contours = p.contours;
      counted = omega (arith, l, w.grid.points);
      few = omega (arith, l, w.grid.points, p.points);
      points = omega (arith, l, w.grid.points, p.counted);
    }

pub returns : goal.returns
returns c =
    let e = c.accepted_points-n.ensures in
    let w = room_told _ _ _ e _ (sym c.if-not-has_room.ensures) in
    let n = c.accepted_points-n.result in
    let owners = c.args.owners.now in
    let l = c.mark_samples.auto.owners ∙ length-take-le n owners w.room in (
      c.if-not-has_room.ensures ∙ rw e,
      λ t. (
        marked_longer _ _ _ _ _ (omega (arith, l, w.grid.points)) (rw c.grid_for-g.ensures at c.mark_samples.ensures),
        rw (sym e) (behind_kept c.mark_samples.new.owners owners n l),
      ),
      λ f. absurd (true≢false f),
    )
