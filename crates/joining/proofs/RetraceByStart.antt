-- The rules' path is joined behind the contour that leads. Assumes nothing.
use mathlib.Core.Path.{◌≡◌, refl}
use mathlib.Core.List.{List, []}
use mathlib.Core.Option.{none, some}
use Prim.Native.Nat.{ℕ, ◌+◌}
use lib.Ieee.{Float}
use Rattle.std.specs.Prelude.{Result, Ok, Err, IsErr}
use Rattle.rules.specs.HandedOver.{Plate, contours}
use Rattle.rules.specs.Start.{Oriented, start}
use Rattle.rules.specs.GridAndNearest.{grid_of}
use Rattle.rules.specs.Retrace.{retrace_from, retrace_of, retrace}
use Rattle.rules.specs.Marks.{Step}
use Rattle.path_points.specs.Wrote.{Wrote}
use Rattle.path_points.specs.declared.Full.{Full}
use Rattle.joining.specs.JoinState.{path_count}

pub retrace_some : (p : Plate) (s : Oriented) → start p ≡ some s → retrace p ≡ retrace_from p (grid_of p.box) s (contours p)
unfolding retrace retrace_of
retrace_some p s e = rw (e, retrace_of)

pub retrace_none : (p : Plate) → start p ≡ none → retrace p ≡ []
unfolding retrace retrace_of
retrace_none p e = rw (e, retrace_of)

-- the lent slices hold what the writer left
pub wrote_same : {xs : List Float} {steps : List Step} {room count : ℕ} {was path : List Float} {marked ms : List ℕ} →
    Wrote xs steps room count was path marked ms → {path' : List Float} {ms' : List ℕ} → path' ≡ path → ms' ≡ ms →
    Wrote xs steps room count was path' marked ms'
wrote_same w e f = rw (e, f) w

pub path_count_err : (room : ℕ) (r : Result ℕ Full) → IsErr r → path_count room r ≡ room + 1
path_count_err room (Ok n) e = absurd cc
path_count_err room (Err x) e = refl
