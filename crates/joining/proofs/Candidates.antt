-- What is known of the contour that was chosen. Assumes nothing.
use mathlib.Core.Path.{◌≡◌, ap}
use mathlib.Core.List.{List, [], ◌∷◌}
use mathlib.Core.Option.{some}
use Prim.Native.Nat.{ℕ, ◌+◌, ◌*◌, ◌≤◌, ◌<◌}
use native.Mathlib.Omega.{arith}
use lib.Ieee.{Float}
use lib.ListN.{length}
use Rattle.rules.specs.Limits.{most_points}
use Rattle.rules.specs.HandedOver.{Plate, Contour}
use Rattle.rules.specs.SamplesAndCache.{Waiting}
use Rattle.rules.specs.Retrace.{closer, waiting_layer, choose}
use Rattle.rules.specs.Marks.{Step}
use Rattle.rules.specs.declared.SpatialGrid.{SpatialGrid}
use Rattle.plate_laws.specs.WaitingContours.{Sane}
use Rattle.plate_laws.specs.Layers.{foremost_has}
use Rattle.work_layout.specs.declared.Layout.{Layout}
use Rattle.samples.specs.OwnerLaws.{sampled_length}
use Rattle.samples.specs.Vertices.{vertex_from}
use Rattle.waiting.specs.Holds.{Holds}
use Rattle.contours.specs.declared.ContourRange as code
use Rattle.contours.specs.ContourOf.{contour_of}
use Rattle.joining.specs.JoinState.{JoinState}

-- who is chosen waits
pub some_waiting : (p : Plate) (ws : List Waiting) (w : Waiting) → choose p ws ≡ some w → 1 ≤ length ws
unfolding choose
some_waiting p [] w e = absurd (foremost_has (waiting_layer p) closer (λ v. ⊥) [] tt w e)
some_waiting p (x ∷ ws) w e = omega arith

-- the code's contour c, entered at vertex v, is the waiting contour w
pub record Entry (c : code.ContourRange) (v : ℕ) (w : Waiting) : Type 0 where
  pub contour : contour_of c ≡ w.contour
  pub at : v ≡ w.contour.first + w.kept.entry

-- the contour's numbers, for the functions that draw and settle it
pub record InPlate (xs : List Float) (lay : Layout) (c : code.ContourRange) (v : ℕ) : Type 0 where
  pub number : c.number < lay.contours
  pub low : c.first.0 ≤ v
  pub high : v ≤ c.first.0 + c.last
  pub points : c.first.0 + c.last < lay.points
  pub small : c.first.0 + c.last < most_points
  pub long : 2 * (c.first.0 + c.last) + 1 < length xs

module _ {p : Plate} {g : SpatialGrid} {lay : Layout} {room turn count : ℕ} {path : List Float} {ms work : List ℕ} {ds : List Float}
    {ws : List Waiting} {steps : List Step} {was : List Float} {marked : List ℕ} (j : JoinState p g lay room turn count path ms work ds ws steps was marked)
    {c : code.ContourRange} {v : ℕ} {w : Waiting} (chosen : choose p ws ≡ some w) (e : Entry c v w) where
  pub chosen_holds : Holds p.points g lay ds work w
  unfolding choose
  chosen_holds = foremost_has (waiting_layer p) closer (Holds p.points g lay ds work) ws j.lines.held w chosen

  pub chosen_sane : Sane w
  unfolding choose
  chosen_sane = foremost_has (waiting_layer p) closer Sane ws j.sane w chosen

  pub in_plate : InPlate p.points lay c v
  unfolding contour_of
  in_plate =
      let h = chosen_holds in
      let o = h.owned.fits in
      let n = sampled_length (vertex_from p.points w.contour.first) g.cell_size w.contour.last in
      let s = chosen_sane.entry in
      let a : c.number ≡ w.contour.number = ap (λ (z : Contour). z.number) e.contour in
      let b : c.first.0 ≡ w.contour.first = ap (λ (z : Contour). z.first) e.contour in
      let d : c.last ≡ w.contour.last = ap (λ (z : Contour). z.last) e.contour in
      let pl = j.prepared.plated in
      let inside : c.first.0 + c.last < lay.points = omega (arith, o, n, b, d) in
      record {
        number = omega (arith, h.number, a);
        low = omega (arith, e.at, b);
        high = omega (arith, e.at, b, d, s);
        points = inside;
        small = omega (arith, inside, pl.laid.points_small);
        long = omega (arith, inside, pl.long);
      }
