-- The slices after one more path point, for which there is room. Assumes nothing.
use mathlib.Core.Path.{◌≡◌, refl}
use mathlib.Core.List.{List, [], ◌∷◌, ◌++◌}
use Prim.Native.Nat.{ℕ, ◌+◌, ◌*◌, ◌≤◌, ◌<◌}
use native.Mathlib.Omega.{arith}
use lib.Ieee.{Float}
use lib.ListN.{length, set, length-set}
use Rattle.std.proofs.lemmas.List.{take-set-le}
use Rattle.rules.specs.Limits.{most_cells}
use Rattle.rules.specs.HandedOver.{at}
use Rattle.rules.specs.declared.Point.{Point}
use Rattle.rules.specs.declared.SpatialGrid.{SpatialGrid}
use Rattle.plate_laws.specs.FiniteDistances.{OnPlate}
use Rattle.work_layout.specs.Parts.{KeptFrom}
use Rattle.history.specs.CutPath.{ready_cut, ready_uncut}
use Rattle.history.specs.History.{inserted}
use Rattle.history.specs.OneMorePoint.{ready_append, inserted_kept}
use Rattle.path_points.specs.Wrote.{wrote_put}
use Rattle.path_points.specs.Pen.{Pen, Grows}

module _ {g : SpatialGrid} {room count : ℕ} {path : List Float} {ms work : List ℕ} (h : Pen g room count path ms work) where
  -- a coordinate behind the path
  module _ (j : ℕ) (v : Float) (l : 2 * count ≤ j) where
    pub behind_pen : Pen g room count (set path j v) ms work
    behind_pen =
        let low = h.path_room in
        record {
          sane = h.sane;
          small = h.small;
          most = h.most;
          path_room = simp length-set low;
          marks_room = h.marks_room;
          work_room = h.work_room;
          ready = λ m.
              let old = ready_cut path count (omega arith) g work count (omega arith) (h.ready m) in
              ready_uncut (set path j v) count (simp length-set (omega arith)) g work count (omega arith) (rw (take-set-le (2 * count) path j v l) old);
        }

  module _ (l : count < room) (p : Point) (kind reference : ℕ) where
    abbrev put_path : List Float
    put_path = set (set path (2 * count) p.x) (2 * count + 1) p.y

    abbrev put_marks : List ℕ
    put_marks = set (set ms (2 * count) kind) (2 * count + 1) reference

    pub inserted_length : length (inserted g work count p) ≡ length work
    unfolding inserted
    inserted_length = simp length-set refl

    pub put_pen : OnPlate p.x → OnPlate p.y → Pen g room (count + 1) put_path put_marks (inserted g work count p)
    put_pen px py =
        let a = h.path_room in
        let b = h.work_room in
        record {
          sane = h.sane;
          small = h.small;
          most = omega arith;
          path_room = simp length-set a;
          marks_room = simp length-set h.marks_room;
          work_room = omega (arith, inserted_length);
          ready = λ k. ready_append g path work count p (h.ready (omega arith)) h.sane px py (omega arith) (omega arith);
        }

    pub put_grows : (xs : List Float) (v : ℕ) → at xs v ≡ p →
        Grows xs room count (count + 1) path put_path ms put_marks (λ steps. steps ++ record { vertex = v; kind = kind; reference = reference } ∷ [])
    put_grows xs v e steps was marked w =
        rw e at (wrote_put xs steps room count was path marked ms w (record { vertex = v; kind = kind; reference = reference }) l)

    pub put_kept : KeptFrom (most_cells + room) work (inserted g work count p)
    put_kept i k = inserted_kept g work count p h.sane i (omega arith)
