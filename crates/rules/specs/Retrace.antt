-- "Retrace and marks" of document 01, with the layers and the touches of document 02: the path. Every path point has the coordinates of a vertex, so the path is a
-- list of steps, each a vertex and a mark; the slices are its coordinates and its marks (Marks). Definitions only.
use Rattle.std.specs.Prelude.{ℕ, zero, suc, ◌+◌, ◌-◌, Bool, List, [], ◌∷◌, ◌++◌, map, eqb, length, get_or}
use Rattle.std.proofs.Math.Option.{Option, none, some}
use Rattle.std.specs.Float.Ieee.{lt}
use Rattle.rules.specs.Tools.{pick, up_from, down_to, without, foremost}
use Rattle.rules.specs.HandedOver.{Plate, Contour, at, contours, vertex_at, layer_at}
use Rattle.rules.specs.Marks.{start_kind, landing_kind, Step, land, cut_up, cut_down, back_step}
use Rattle.rules.specs.Start.{Oriented, start}
use Rattle.rules.specs.GridAndNearest.{grid_of, nearest}
use Rattle.rules.specs.SamplesAndCache.{Waiting, waiting, seed, update, cells_around}
use Rattle.rules.specs.declared.Point.{Point}
use Rattle.rules.specs.declared.SpatialGrid.{SpatialGrid}
use Rattle.rules.specs.declared.Nearest.{Nearest}
use Rattle.rules.specs.declared.Nearest.TheVariants.{Found, Nothing}

-- ---- walking back

-- path point k, and its vertex
unfoldable pub step_at : List Step → ℕ → Step
step_at path k = get_or path k (land start_kind 0)

unfoldable pub vertex_of : List Step → ℕ → ℕ
vertex_of path k = (step_at path k).vertex

unfoldable pub walk_to : List Step → ℕ → Step
walk_to path k = back_step (vertex_of path k) k

-- from the path's end back to place h
unfoldable pub walk_back : List Step → ℕ → List Step
walk_back path h = map (walk_to path) (down_to h (length path - 1 - h))

-- ---- emitting a contour

unfoldable pub forward : ℕ → Contour → List Step
forward kind c = land kind c.first ∷ map cut_up (up_from c.first c.last)

unfoldable pub backward : ℕ → Contour → List Step
backward kind c = land kind (c.first + c.last) ∷ map cut_down (down_to c.first c.last)

-- back to vertex v + i, which was written at place b + i
unfoldable pub return_to : ℕ → ℕ → ℕ → Step
return_to v b i = back_step (v + i) (b + i)

-- e up to last, back to e, then e − 1 down to 0; b is the place of the landing
unfoldable pub both_ways : ℕ → Contour → ℕ → ℕ → List Step
both_ways kind c e b =
    (land kind (c.first + e) ∷ map cut_up (up_from (c.first + e) (c.last - e)))
    ++ map (return_to (c.first + e) b) (down_to 0 (c.last - e))
    ++ map cut_down (down_to c.first e)

unfoldable pub emit : ℕ → Contour → ℕ → ℕ → List Step
emit kind c e b = pick (eqb e 0) (forward kind c) (pick (eqb e c.last) (backward kind c) (both_ways kind c e b))

-- the vertex that comes first in a sense, counted from 0 within the contour
unfoldable pub entry_of : Oriented → ℕ
entry_of s = pick s.reversed s.contour.last 0

unfoldable pub begin : Oriented → List Step
begin s = emit start_kind s.contour (entry_of s) 0

-- ---- joining

-- the points of a path
unfoldable pub path_points : Plate → List Step → List Point
path_points p path = map (λ s. at p.points s.vertex) path

-- the waiting contour with the least cached distance, the lowest on ties
unfoldable pub closer : Waiting → Waiting → Bool
closer w best = lt w.kept.squared best.kept.squared

unfoldable pub waiting_layer : Plate → Waiting → ℕ
waiting_layer p w = layer_at p w.contour

unfoldable pub choose : Plate → List Waiting → Option Waiting
choose p ws = foremost (waiting_layer p) closer ws

unfoldable pub waiting_number : Waiting → ℕ
waiting_number w = w.contour.number

-- the place that was found (there is one: the path has a point by then)
unfoldable pub place_in : Nearest → ℕ
place_in Nothing = 0
place_in (Found k d) = k.0

-- The path with contour c, entered at its vertex e, which is queried afresh for the place h; the path is walked back to there. So path point h is the one left.
unfoldable pub entered : Plate → SpatialGrid → List Step → Contour → ℕ → List Step
entered p g path c e =
    let q = vertex_at p c e in
    let h = place_in (nearest g (path_points p path) q) in
    let back = path ++ walk_back path h in
    back ++ emit (landing_kind (at p.points (vertex_of path h)) q) c e (length back)

-- n more contours; a step that finds no waiting candidate ends the joining
unfoldable pub join_all : Plate → SpatialGrid → ℕ → List Waiting → List Step → List Step
join_all p g zero ws path = path
join_all p g (suc n) ws path =
    elim (choose p ws) [
      | none ↦ path
      | some w ↦
          let next = entered p g path w.contour w.kept.entry in
          let cells = cells_around (vertex_at p w.contour) g w.contour.last in
          join_all p g n (map (update p g (path_points p next) cells) (without waiting_number (waiting_number w) ws)) next
    ]

unfoldable pub retrace_from : Plate → SpatialGrid → Oriented → List Contour → List Step
retrace_from p g s cs =
    let path = begin s in
    let ws = without waiting_number s.contour.number (map (waiting p g) cs) in
    join_all p g (length ws) (map (seed p g (path_points p path)) ws) path

-- the whole path of a plate; with no contour it is empty
unfoldable pub retrace_of : Plate → Option Oriented → List Step
retrace_of p none = []
retrace_of p (some s) = retrace_from p (grid_of p.box) s (contours p)

unfoldable pub retrace : Plate → List Step
retrace p = retrace_of p (start p)
