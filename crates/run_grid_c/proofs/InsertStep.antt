-- The first points of a slice are inserted one by one: the history is ready with one place more. Assumes nothing.
use mathlib.Core.Path.{◌≡◌, ap, subst, ◌∙◌}
use mathlib.Core.List.{List}
use Prim.Native.Nat.{ℕ, ◌+◌, ◌*◌, ◌<◌}
use lib.Ieee.{Float, nan}
use lib.ListN.{length, set}
use lib.Seq.{set-get_or}
use Rattle.rules.specs.Limits.{most_cells}
use Rattle.rules.specs.HandedOver.{at}
use Rattle.rules.specs.declared.SpatialGrid.{SpatialGrid}
use Rattle.plate_laws.specs.Lists.{All}
use Rattle.plate_laws.specs.FiniteDistances.{OnPlate}
use Rattle.plate_laws.specs.AcceptedInput.{point_on}
use Rattle.grid.specs.SaneGrid.{SaneGrid}
use Rattle.history.specs.History.{appended, inserted, Ready}
use Rattle.history.specs.OneMorePoint.{ready_append}

pub ready_next : (g : SpatialGrid) (xs : List Float) (work : List ℕ) (k : ℕ) → SaneGrid g → All OnPlate xs → Ready g xs work k →
    2 * k + 1 < length xs → most_cells + k < length work → Ready g xs (inserted g work k (at xs k)) (k + 1)
unfolding at
ready_next g xs work k s a r hp hw =
    let on = point_on xs k a hp in
    let same : appended xs k (at xs k) ≡ xs =
    ap (λ (ys : List Float). set ys (2 * k + 1) (at xs k).y) (set-get_or xs (2 * k) nan) ∙ set-get_or xs (2 * k + 1) nan in
    subst (λ (ys : List Float). Ready g ys (inserted g work k (at xs k)) (k + 1)) same
    (ready_append g xs work k (at xs k) r s on.0 on.1 hp hw)
