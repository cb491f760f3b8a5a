-- A path slice that is cut behind the path's last point has the same points, and is as ready. Assumes nothing.
use Rattle.std.specs.Prelude.{◌≡◌, refl, List, map, ℕ, zero, suc, ◌+◌, ◌*◌, ◌/◌, ◌≤◌, ◌<◌, Float, length, take, get_or}
use Rattle.std.specs.Float.{nan}
use Rattle.std.proofs.Common.{sym, ap, arith}
use Rattle.std.proofs.lemmas.List.{get_or-take, length-take}
use Rattle.rules.specs.Limits.{most_cells}
use Rattle.rules.specs.Tools.{up_from}
use Rattle.rules.specs.HandedOver.{at}
use Rattle.rules.specs.GridAndNearest.{cell_of}
use Rattle.rules.specs.SamplesAndCache.{cell_number, cell_at}
use Rattle.rules.specs.declared.Point.{Point}
use Rattle.rules.specs.declared.SpatialGrid.{SpatialGrid}
use Rattle.chains.specs.Chains.{chained_same}
use Rattle.history.specs.History.{points, head_in, link_in, Ready}

module _ (path : List Float) (count : ℕ) where
  -- the slice of the first `count` points alone
  abbrev pub cut : List Float
  cut = take (2 * count) path

  coordinate_cut : (i : ℕ) → i < 2 * count → get_or cut i nan ≡ get_or path i nan
  coordinate_cut i l = get_or-take (2 * count) path i nan l

  at_cut : (k : ℕ) → k < count → at cut k ≡ at path k
  unfolding at
  at_cut k l = rw (coordinate_cut (2 * k) (omega arith), coordinate_cut (2 * k + 1) (omega arith))

  points_from : (n i : ℕ) → i + n ≤ count → map (at cut) (up_from i n) ≡ map (at path) (up_from i n)
  points_from zero i l = refl
  points_from (suc n) i l = rw (at_cut i (omega arith), points_from n (suc i) (omega arith))

  cell_cut : (g : SpatialGrid) (k : ℕ) → k < count → cell_at (at cut) g k ≡ cell_at (at path) g k
  unfolding cell_at
  cell_cut g k l = ap (λ (v : Point). cell_number g (cell_of g v)) (at_cut k l)

  module _ (h : 2 * count ≤ length path) where
    pub count_cut : length cut / 2 ≡ count
    count_cut = omega (arith, length-take (2 * count) path)

    pub points_cut : points cut (length cut / 2) ≡ points path count
    unfolding points
    points_cut = rw count_cut (points_from count 0 (omega arith))

    -- with n of these points on the path
    module _ (g : SpatialGrid) (work : List ℕ) (n : ℕ) (fits : n ≤ count) where
      pub ready_cut : Ready g path work n → Ready g cut work n
      ready_cut r =
          record {
            path_long = omega (arith, length-take (2 * count) path);
            work_long = r.work_long;
            coords = λ k l. rw (coordinate_cut k (omega arith)) (r.coords k l);
            chains =
                chained_same (head_in work) (link_in work) most_cells (cell_at (at path) g) (cell_at (at cut) g) n
                (λ j l. sym (cell_cut g j (omega arith))) r.chains;
          }

      pub ready_uncut : Ready g cut work n → Ready g path work n
      ready_uncut r =
          record {
            path_long = omega arith;
            work_long = r.work_long;
            coords = λ k l. rw (coordinate_cut k (omega arith)) at (r.coords k l);
            chains =
                chained_same (head_in work) (link_in work) most_cells (cell_at (at cut) g) (cell_at (at path) g) n
                (λ j l. cell_cut g j (omega arith)) r.chains;
          }
