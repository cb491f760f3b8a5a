-- Nothing from the flags on is altered: the samples, the waiting contours and the flags are as they were. Assumes nothing.
use mathlib.Core.Path.{◌≡◌, refl}
use mathlib.Core.List.{List}
use Prim.Native.Nat.{ℕ, ◌+◌, ◌≤◌, ◌<◌}
use native.Mathlib.Omega.{arith}
use lib.Ieee.{Float}
use lib.ListN.{length}
use Rattle.rules.specs.Limits.{most_cells}
use Rattle.rules.specs.SamplesAndCache.{Waiting}
use Rattle.rules.specs.declared.SpatialGrid.{SpatialGrid}
use Rattle.plate_laws.specs.Lists.{all_give}
use Rattle.work_layout.specs.Parts.{from, KeptBelow, KeptFrom}
use Rattle.work_layout.specs.declared.Layout.{Layout}
use Rattle.prepare.specs.PreparedSlices.{Prepared, prepared_kept}
use Rattle.prepare.specs.SlicesKept.{holds_kept}
use Rattle.waiting.specs.NumberLaws.{lined_same}
use Rattle.history.specs.OneMorePoint.{ready_kept}
use Rattle.path_points.specs.Pen.{Pen}
use Rattle.joining.specs.Lines.{Lines}

module _ {xs : List Float} {g : SpatialGrid} {lay : Layout} {ds : List Float} {work work' : List ℕ} (prepared : Prepared xs g lay ds work)
    (kept : KeptFrom lay.flags work work') where
  pub prepared_still : length work' ≡ length work → Prepared xs g lay ds work'
  prepared_still same = let laid = prepared.plated.laid in prepared_kept xs g lay work work' laid (λ i l m. kept i (omega (arith, laid))) ds ds refl same prepared

  pub lines_still : {ws : List Waiting} → Lines xs g lay ds work ws → Lines xs g lay ds work' ws
  lines_still {ws = ws} h =
      let laid = prepared.plated.laid in
      record {
        lined =
            lined_same (from work lay.waiting) (from work' lay.waiting) lay.contours ws (λ i l. kept (lay.waiting + i) (omega (arith, laid)))
            h.lined;
        held = all_give _ _ (holds_kept xs g lay ds work work' laid (λ i l. kept i (omega (arith, laid)))) ws h.held;
      }

pub flags_still : (lay : Layout) (work work' : List ℕ) → KeptFrom lay.flags work work' → (k : ℕ) → k < lay.cells → from work' lay.flags k ≡ from work lay.flags k
flags_still lay work work' kept k l = kept (lay.flags + k) (omega arith)

-- what is altered behind the links leaves a path as it was written
pub pen_still : {g : SpatialGrid} {room count : ℕ} {path : List Float} {ms work work' : List ℕ} {a : ℕ} → Pen g room count path ms work →
    KeptBelow a work work' → most_cells + room ≤ a → length work' ≡ length work → Pen g room count path ms work'
pen_still {g = g} {count = count} {path = path} {work = work} {work' = work'} {a = a} pen below l same =
    record {
      sane = pen.sane;
      small = pen.small;
      most = pen.most;
      path_room = pen.path_room;
      marks_room = pen.marks_room;
      work_room = omega (arith, pen.work_room);
      ready = λ m. ready_kept g path work work' count a (pen.ready m) below (omega arith) same;
    }
