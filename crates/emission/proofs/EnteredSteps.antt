-- A contour enters the path as the rules say: walked back to the place found afresh, and drawn from there. Assumes nothing.
use mathlib.Core.Path.{◌≡◌, sym, ◌∙◌}
use mathlib.Core.List.{List, map, ◌++◌}
use Prim.Native.Nat.{ℕ, ◌+◌, ◌-◌, ◌≤◌, ◌<◌}
use native.Mathlib.Omega.{arith}
use lib.Ieee.{Float}
use lib.ListN.{length, length-map}
use Rattle.std.specs.Prelude.{Result, Ok, Err, IsErr}
use Rattle.rules.specs.Tools.{up_from}
use Rattle.rules.specs.HandedOver.{Plate, Contour, at, vertex_at}
use Rattle.rules.specs.GridAndNearest.{nearest}
use Rattle.rules.specs.Retrace.{vertex_of, place_in, walk_back, emit, entered}
use Rattle.rules.specs.Marks.{landing_kind, Step}
use Rattle.rules.specs.declared.Point.{Point}
use Rattle.rules.specs.declared.SpatialGrid.{SpatialGrid}
use Rattle.plate_laws.specs.Lists.{length_up_from}
use Rattle.plate_laws.specs.Nearest.{nearest_place}
use Rattle.history.specs.History.{points}
use Rattle.path_points.specs.Wrote.{Wrote, wrote_at, wrote_full, points_written}
use Rattle.path_points.specs.Pen.{Grows}
use Rattle.path_points.specs.WriterState.{Adds}
use Rattle.path_points.specs.declared.Full.{Full}
use Rattle.path_points.specs.declared.PathWriter.{PathWriter}
use Rattle.emission.specs.DrawnContour.{drawn, emit_is}

-- the place that is found is one of the path's
pub found_below : (g : SpatialGrid) (path : List Float) (q : Point) {count : ℕ} → 1 ≤ count → place_in (nearest g (points path count) q) < count
unfolding points
found_below g path q {count} h =
    let n : length (map (at path) (up_from 0 count)) ≡ count = length-map (up_from 0 count) (at path) ∙ length_up_from 0 count in
    let l = nearest_place g (map (at path) (up_from 0 count)) q q (omega arith) in
    omega arith

-- for vertex v, whose point is q, place h is found on the path of so many points; a landing from there is of a kind
pub record FoundFor (xs : List Float) (g : SpatialGrid) (path : List Float) (count v : ℕ) (q : Point) (h kind : ℕ) : Type 0 where
  pub point : q ≡ at xs v
  pub place : h ≡ place_in (nearest g (points path count) q)
  pub landing : kind ≡ landing_kind (at path h) q

-- contour c enters there, at its vertex v
module _ {xs : List Float} {g : SpatialGrid} {path : List Float} {ms : List ℕ} {room count v : ℕ} {q : Point} {h kind : ℕ} (c : Contour)
    (f : FoundFor xs g path count v q h kind) (low : c.first ≤ v) (high : v ≤ c.first + c.last) (fits : count ≤ room) (some : 1 ≤ count) (p : Plate)
    (same : p.points ≡ xs) where
  -- the rules walk back to that place, and emit there
  entered_behind : (steps : List Step) (was : List Float) (marked : List ℕ) → Wrote xs steps room count was path marked ms →
      entered p g steps c (v - c.first) ≡ (steps ++ walk_back steps h) ++ emit kind c (v - c.first) (length (steps ++ walk_back steps h))
  unfolding entered vertex_at
  entered_behind steps was marked u =
      let number : c.first + (v - c.first) ≡ v = omega arith in
      let there : at p.points (c.first + (v - c.first)) ≡ q = rw (same, number) (sym f.point) in
      let seen = points_written p steps room count was path marked ms (rw same u) fits in
      let below : h < count = rw f.place (found_below g path q some) in
      let held : at path h ≡ at p.points (vertex_of steps h) = wrote_at p.points steps room count was path marked ms (rw same u) h (omega (arith, u.counted)) (omega arith) in
      rw (there, ← seen, ← f.place, f.landing, held)

  -- which is drawn
  entered_drawn : (steps : List Step) (was : List Float) (marked : List ℕ) → Wrote xs steps room count was path marked ms →
      entered p g steps c (v - c.first) ≡ drawn kind (steps ++ walk_back steps h) c (v - c.first)
  entered_drawn steps was marked u =
      entered_behind steps was marked u ∙ emit_is kind (steps ++ walk_back steps h) c (v - c.first) (omega arith)

  module _ {k : ℕ} {path' : List Float} {ms' : List ℕ} (back : Grows xs room count k path path' ms ms' (λ ss. ss ++ walk_back ss h)) where
    -- the path was full before the landing
    pub enter_full : room < k → Grows xs room count k path path' ms ms' (λ ss. entered p g ss c (v - c.first))
    enter_full m steps was marked u =
        rw (entered_behind steps was marked u)
        (wrote_full xs (steps ++ walk_back steps h) room k was path' marked ms' (back steps was marked u) _ m)

    pub enter_drawn : {k'' : ℕ} {path'' : List Float} {ms'' : List ℕ} → Grows xs room k k'' path' path'' ms' ms'' (λ ss. drawn kind ss c (v - c.first)) →
        Grows xs room count k'' path path'' ms ms'' (λ ss. entered p g ss c (v - c.first))
    enter_drawn on steps was marked u =
        rw (entered_drawn steps was marked u) (on (steps ++ walk_back steps h) was marked (back steps was marked u))

-- whichever error says that the path is full
pub adds_err : (w w' : PathWriter) {xs : List Float} {f : List Step → List Step} {x : Full} → Adds xs w w' (Err x) f →
    (r : Result (Unit {0}) Full) → IsErr r → Adds xs w w' r f
adds_err w w' a (Ok _) n = absurd cc
adds_err w w' a (Err _) n = a
