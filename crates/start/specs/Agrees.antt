-- A contour that the code has oriented is the definitions' one, with its layer, and its end is a vertex of it. Assumes nothing.
use Rattle.std.specs.Prelude.{◌≡◌, Bool, true, false, List, ℕ, ◌+◌, ◌≤◌, Float, get_or}
use Rattle.std.proofs.Common.{arith}
use Rattle.rules.specs.Tools.{pick}
use Rattle.rules.specs.HandedOver.{Plate, at, vertex_at, layer_at}
use Rattle.rules.specs.Distances.{distance_squared}
use Rattle.rules.specs.Start.{oriented, layer_of}
use Rattle.rules.specs.declared.Point.{Point}
use Rattle.start.specs.OrientedContours.{oriented_of}
use Rattle.contours.specs.ContourOf.{contour_of}
use Rattle.start.specs.declared.OrientedContour as code
use Rattle.contours.specs.declared.ContourRange as code-contour

pub oriented_is : (p : Plate) (xs : List Float) (q : Point) (r : Bool) (c : code-contour.ContourRange) (s : code.OrientedContour) → p.points ≡ xs →
    s.contour ≡ c → s.reversed ≡ r → s.squared ≡ distance_squared q (at xs (c.first.0 + pick r c.last 0)) →
    oriented_of s ≡ oriented p q r (contour_of c)
unfolding oriented_of oriented vertex_at contour_of
oriented_is p xs q r c s e f g h = rw (f, g, h, e)

pub layer_is : (p : Plate) (ls : List ℕ) (s : code.OrientedContour) → p.layers ≡ ls → layer_of p (oriented_of s) ≡ get_or ls s.contour.number 0
unfolding layer_of layer_at oriented_of contour_of
layer_is p ls s e = rw e

pub end_within : (reversed : Bool) (last : ℕ) → pick reversed last 0 ≤ last
unfolding pick
end_within true last = omega arith
end_within false last = omega arith
