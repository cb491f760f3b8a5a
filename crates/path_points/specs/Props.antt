-- A writer's slices hold a path in one way.
use Rattle.std.specs.Prelude.{ℕ, List, Float}
use Rattle.std.specs.Coded.{le_prop}
use Rattle.std.proofs.Math.Nat.{ℕ_set}
use Rattle.std.proofs.Math.Dec.{T_prop}
use Rattle.rules.specs.HandedOver.{in_range, plate_limit}
use Rattle.rules.specs.declared.SpatialGrid.{SpatialGrid}
use Rattle.grid.specs.Props.{sane_prop}
use Rattle.history.specs.History.{Ready}
use Rattle.path_points.specs.Pen.{Pen}

ready_prop : (g : SpatialGrid) (path : List Float) (work : List ℕ) (count : ℕ) → IsProp (Ready g path work count)
ready_prop g path work count a b =
    λ i. record {
      path_long = le_prop a.path_long b.path_long i;
      work_long = le_prop a.work_long b.work_long i;
      coords = λ k l. T_prop (in_range plate_limit _) (a.coords k l) (b.coords k l) i;
      chains =
          record {
            heads = λ c l. ℕ_set _ _ (a.chains.heads c l) (b.chains.heads c l) i;
            links = λ k l. ℕ_set _ _ (a.chains.links k l) (b.chains.links k l) i;
          };
    }

pub pen_prop : (g : SpatialGrid) (room count : ℕ) (path : List Float) (ms work : List ℕ) → IsProp (Pen g room count path ms work)
pen_prop g room count path ms work a b =
    λ i. record {
      sane = sane_prop g a.sane b.sane i;
      small = le_prop a.small b.small i;
      most = le_prop a.most b.most i;
      path_room = le_prop a.path_room b.path_room i;
      marks_room = le_prop a.marks_room b.marks_room i;
      work_room = le_prop a.work_room b.work_room i;
      ready = λ l. ready_prop g path work count (a.ready l) (b.ready l) i;
    }
