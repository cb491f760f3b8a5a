-- `run_caches_c::twillharbor_caches_update` meets its contract. Assumes nothing.
use Rattle.std.proofs.Common.{◌≡◌, List, ℕ, ◌≤◌, ◌<◌, length, get_or, true, arith}
use lib.Ieee.{Float}
use mathlib.Core.Bool.{true≢false}
use Rattle.run_grid_c.specs.RoomTests.{HasGrid, gridded}
use Rattle.run_grid_c.specs.Results.{accepted}
use Rattle.run_caches_c.specs.Results.{has_path, has_slices}
use Rattle.run_caches_c.proofs.ArgumentTests.{path_told, slices_told, path_of, yes_both}
use Rattle.run_caches_c.proofs.LastStage.{others_shown}
use Rattle.run_caches_c.proofs.twillharbor_caches_update.Goals as goal

-- the plate has a grid, the path is of its n points, the contour that was emitted has a point, and the slices are long enough
record CanRun (xs : List Float) (ns : List ℕ) (number before count work distances entries n : ℕ) : Type 0 where
  grid : HasGrid xs ns n
  some : 0 < get_or ns number 0
  earlier : before ≤ count
  fits : count ≤ n
  work_long : 376832 ≤ work
  distances_long : length ns ≤ distances
  entries_long : length ns ≤ entries

passed : {xs : List Float} {ns : List ℕ} {number before count work distances entries n size : ℕ} → n ≡ accepted xs ns → size ≡ get_or ns number 0 →
    true ≡ has_path n size before count → true ≡ has_slices (length ns) work distances entries → CanRun xs ns number before count work distances entries n
passed e f p s =
    let t = path_told _ _ _ _ p in
    let u = slices_told _ _ _ _ s in
    record {
      grid = gridded _ _ _ e t.0;
      some = omega (arith, t.1);
      earlier = t.2;
      fits = t.3;
      work_long = u.0;
      distances_long = u.1;
      entries_long = u.2;
    }

pub grid_for-grid-requires : goal.grid_for-grid-requires
grid_for-grid-requires c =
    (passed c.accepted_points-n.ensures c.contour_length.ensures c.if-not-has_path.ensures c.if-not-has_slices.ensures).grid.sound

pub caches_around-lay-requires : goal.caches_around-lay-requires
caches_around-lay-requires c =
    let w = passed c.accepted_points-n.ensures c.contour_length.ensures c.if-not-has_path.ensures c.if-not-has_slices.ensures in
    record {
      accepted = w.grid.plate;
      some = w.some;
      earlier = w.earlier;
      fits = omega (arith, w.grid.points, w.fits);
      distances_room = w.distances_long;
      work_room = w.work_long;
    }

pub copy_entries-requires : goal.copy_entries-requires
copy_entries-requires c =
    let w = passed c.accepted_points-n.ensures c.contour_length.ensures c.if-not-has_path.ensures c.if-not-has_slices.ensures in
    let a = c.caches_around-lay.ensures in
    record { laid = a.laid; room = omega (arith, a.contours, w.entries_long) }

pub returns : goal.returns
returns c =
    let a = c.caches_around-lay.ensures in (
      yes_both _ _ (path_of _ _ c.if-not-has_path.ensures c.accepted_points-n.ensures c.contour_length.ensures) c.if-not-has_slices.ensures,
      λ t p e f. others_shown _ _ _ _ _ p _ _ _ _ _ c.grid_for-grid.ensures (a.others p e f) c.copy_entries.ensures,
      λ f. absurd (true≢false f),
    )
