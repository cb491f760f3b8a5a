-- The vertices of a contour by the points slice. Assumes nothing.
use Rattle.std.specs.Prelude.{◌≡◌, refl, List, ℕ, ◌+◌, Float}
use Rattle.rules.specs.HandedOver.{Plate, Contour, at, vertex_at}
use Rattle.rules.specs.declared.Point.{Point}

-- vertex i, counted from 0, of a contour whose vertex 0 has the vertex number `first`
unfoldable pub vertex_from : List Float → ℕ → ℕ → Point
vertex_from xs first i = at xs (first + i)

-- of a plate's contour it is the definitions' vertex
pub vertices_of : (p : Plate) (c : Contour) → vertex_from p.points c.first ≡ vertex_at p c
unfolding vertex_from vertex_at
vertices_of p c = refl
