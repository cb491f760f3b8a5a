-- `run_grid_c::twillharbor_grid_nearest`: where the plate has a grid and the slices have room, the answers are written.
use Rattle.std.proofs.Common.{refl, sym, ◌∙◌, ◌*◌, arith, true≢false}
use Rattle.std.proofs.lemmas.List.{length-take}
use Rattle.rules.specs.Tools.{pick}
use Rattle.plate_laws.specs.Lists.{all_take}
use Rattle.plate_laws.specs.FiniteDistances.{OnPlate}
use Rattle.history.specs.CutPath.{count_cut, points_cut}
use Rattle.run_grid_c.specs.RoomTests.{query_room_told}
use Rattle.run_grid_c.specs.Results.{ask}
use Rattle.run_grid_c.proofs.twillharbor_grid_nearest.Goals as goal

pub returns-then-not-has_query_room : goal.returns-then-not-has_query_room
unfolding pick
returns-then-not-has_query_room c = (
  c.if-not-has_query_room.ensures ∙ rw c.accepted_points-n.ensures,
  refl,
  refl,
  λ f. refl,
)

pub grid_for-g-requires : goal.grid_for-g-requires
grid_for-g-requires c =
    (query_room_told _ _ _ c.accepted_points-n.ensures _ _ _ _ (sym c.if-not-has_query_room.ensures)).grid.sound

pub slice_bounds-path-end : goal.slice_bounds-path-end
slice_bounds-path-end c =
    let w = query_room_told _ _ _ c.accepted_points-n.ensures _ _ _ _ (sym c.if-not-has_query_room.ensures) in
    omega (arith, w.grid.half, w.count, length-take (2 * c.args.count) c.args.points.now)

pub insert_all-requires : goal.insert_all-requires
insert_all-requires c =
    let xs = c.args.points.now in
    let w = query_room_told _ _ _ c.accepted_points-n.ensures _ _ _ _ (sym c.if-not-has_query_room.ensures) in
    let n = count_cut xs c.args.count (omega (arith, w.grid.half, w.count)) in
    let p = w.grid.plate in
    record {
      on_plate = all_take OnPlate (2 * c.args.count) xs p.on_plate;
      few = omega (arith, n, w.grid.points, p.points, w.count);
      room = omega (arith, n, w.work);
    }

pub query_all-requires : goal.query_all-requires
query_all-requires c =
    let w = query_room_told _ _ _ c.accepted_points-n.ensures _ _ _ _ (sym c.if-not-has_query_room.ensures) in
    let p = w.grid.plate in
    record {
      on_plate = p.on_plate;
      few_points = omega (arith, p.points, p.counted);
      small_path = omega (arith, length-take (2 * c.args.count) c.args.points.now, p.points, p.counted);
      ready = c.insert_all.ensures;
      places_room = omega (arith, w.grid.half, w.places);
      squared_room = omega (arith, w.grid.half, w.squared);
    }

pub returns : goal.returns
unfolding pick ask
returns c =
    let e = c.accepted_points-n.ensures in
    let g = c.grid_for-g.ensures in
    let w = query_room_told _ _ _ e _ _ _ _ (sym c.if-not-has_query_room.ensures) in
    let half = w.grid.half in
    let same = points_cut c.args.points.now c.args.count (omega (arith, half, w.count)) in (
      c.if-not-has_query_room.ensures ∙ rw e,
      rw (c.query_all.ensures.places, g, half, e, same),
      rw (c.query_all.ensures.squared, g, half, e, same),
      λ f. absurd (true≢false f),
    )
