-- The joining without touches, and the steps of a path with the touches read as jumps. Read so, the touches leave the path and the marks that the joining has
-- without touches (proofs/TouchesAsJumps.antt). The definitions without touches are those of crates/rules/specs with `jump_kind` where those have
-- `landing_kind ..`. Definitions only.
use Rattle.std.specs.Prelude.{List, [], ◌++◌, map, ℕ, zero, suc, eqb, length}
use Rattle.std.proofs.Math.Option.{Option, none, some}
use Rattle.rules.specs.Tools.{pick, without}
use Rattle.rules.specs.HandedOver.{Plate, Contour, contours, vertex_at}
use Rattle.rules.specs.Start.{Oriented, start}
use Rattle.rules.specs.GridAndNearest.{grid_of, nearest}
use Rattle.rules.specs.SamplesAndCache.{Waiting, waiting, seed, update, cells_around}
use Rattle.rules.specs.Retrace.{walk_back, emit, begin, path_points, choose, waiting_number, place_in}
use Rattle.rules.specs.Marks.{jump_kind, touch_kind, Step}
use Rattle.rules.specs.declared.SpatialGrid.{SpatialGrid}

-- ---- without touches

unfoldable pub jump_entered : Plate → SpatialGrid → List Step → Contour → ℕ → List Step
jump_entered p g path c e =
    let q = vertex_at p c e in
    let h = place_in (nearest g (path_points p path) q) in
    let back = path ++ walk_back path h in
    back ++ emit jump_kind c e (length back)

unfoldable pub jump_join_all : Plate → SpatialGrid → ℕ → List Waiting → List Step → List Step
jump_join_all p g zero ws path = path
jump_join_all p g (suc n) ws path =
    elim (choose p ws) [
      | none ↦ path
      | some w ↦
          let next = jump_entered p g path w.contour w.kept.entry in
          let cells = cells_around (vertex_at p w.contour) g w.contour.last in
          jump_join_all p g n (map (update p g (path_points p next) cells) (without waiting_number (waiting_number w) ws)) next
    ]

unfoldable pub jump_retrace_from : Plate → SpatialGrid → Oriented → List Contour → List Step
jump_retrace_from p g s cs =
    let path = begin s in
    let ws = without waiting_number s.contour.number (map (waiting p g) cs) in
    jump_join_all p g (length ws) (map (seed p g (path_points p path)) ws) path

unfoldable pub jump_retrace_of : Plate → Option Oriented → List Step
jump_retrace_of p none = []
jump_retrace_of p (some s) = jump_retrace_from p (grid_of p.box) s (contours p)

unfoldable pub jump_retrace : Plate → List Step
jump_retrace p = jump_retrace_of p (start p)

-- ---- touches read as jumps

-- the mark's kind alone is altered
unfoldable pub kind_as_jump : ℕ → ℕ
kind_as_jump kind = pick (eqb kind touch_kind) jump_kind kind

unfoldable pub as_jump : Step → Step
as_jump s = record { vertex = s.vertex; kind = kind_as_jump s.kind; reference = s.reference }
