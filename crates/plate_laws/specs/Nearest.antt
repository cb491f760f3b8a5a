-- The nearest query over the points of a path: what it finds is a place of the path, and no point in the nine cells is nearer. Assumes nothing.
use Rattle.std.specs.Prelude.{◌≡◌, refl, Bool, true, false, not, T, Float, get_or}
use mathlib.Core.List.{List, [], ◌∷◌}
use Prim.Native.Nat.{ℕ, zero, suc, ◌+◌, ◌-◌, ◌≤◌, ◌<◌, max}
use Rattle.std.proofs.Math.Nat.{zero-add, add-zero, add-suc, suc-add}
use Rattle.std.proofs.Common.{arith}
use Rattle.std.specs.Float.Ieee.{lt}
use Rattle.std.proofs.Math.ListN.{length, get_or-map}
use Rattle.std.proofs.lemmas.List.{length-map}
use Rattle.rules.specs.Tools.{pick}
use Rattle.rules.specs.Distances.{distance_squared}
use Rattle.rules.specs.HandedOver.{Plate, at}
use Rattle.rules.specs.GridAndNearest.{cells_along, grid_of, index_along, cell_of, square, within, PathPoint, seen_from, found, wins, nearer, nearest}
use Rattle.rules.specs.Retrace.{step_at, vertex_of, path_points, place_in}
use Rattle.rules.specs.Marks.{start_kind, Step, land}
use Rattle.rules.specs.declared.Point.{Point}
use Rattle.rules.specs.declared.BoundingBox.{BoundingBox}
use Rattle.rules.specs.declared.SpatialGrid.{SpatialGrid}
use Rattle.rules.specs.declared.Nearest.{Nearest}
use Rattle.rules.specs.declared.Nearest.TheVariants.{Found, Nothing}
use Rattle.plate_laws.specs.Lists.{All}
use Rattle.plate_laws.specs.FloatOrder.{Plus}
use Rattle.plate_laws.specs.Rings.{Settled, scan_keeps, search_settles}

-- ---- the path points that a query sees

-- the point p at place i, seen from q
abbrev pub seen : SpatialGrid → Point → ℕ → Point → PathPoint
seen g q i p = record { place = i; cell = cell_of g p; squared = distance_squared q p }

-- what all of them have, by places, and back; z is what stands beyond the end
module _ (P : PathPoint → Type 0) (g : SpatialGrid) (q z : Point) where
  pub all_seen : (ps : List Point) (i : ℕ) → ((k : ℕ) → k < length ps → P (seen g q (i + k) (get_or ps k z))) → All P (seen_from g q i ps)
  unfolding seen_from
  all_seen [] i h = tt
  all_seen (p ∷ ps) i h = (
    rw add-zero at (h 0 (omega arith)),
    all_seen ps (suc i) (λ k l. rw suc-add (rw add-suc at (h (suc k) (omega arith)))),
  )

  pub seen_at : (ps : List Point) (i : ℕ) → All P (seen_from g q i ps) → (k : ℕ) → k < length ps → P (seen g q (i + k) (get_or ps k z))
  unfolding seen_from
  seen_at [] i a k l = absurd (omega arith)
  seen_at (p ∷ ps) i a zero l = rw add-zero a.0
  seen_at (p ∷ ps) i a (suc k) l = rw add-suc (rw suc-add at (seen_at ps (suc i) a.1 k (omega arith)))

-- ---- what is found

-- what is found, if anything, is a place and a distance that has P
abbrev pub FoundWith : (ℕ → Float → Type 0) → Nearest → Type 0
FoundWith P Nothing = Unit {0}
FoundWith P (Found k d) = P k.0 d

nearer_found : (P : ℕ → Float → Type 0) (b : Nearest) (c : PathPoint) → P c.place c.squared → FoundWith P b → FoundWith P (nearer b c)
unfolding nearer found pick
nearer_found P Nothing c h f = h
nearer_found P (Found k d) c h f = go (wins c k.0 d)
  where
    go : (t : Bool) → FoundWith P (pick t (found c) (Found k d))
    go true = h
    go false = f

module _ (g : SpatialGrid) (ps : List Point) (q z : Point) where
  -- a place of the path, and the squared distance to its point
  abbrev pub OfPath : ℕ → Float → Type 0
  OfPath k d = (k < length ps) × (d ≡ distance_squared q (get_or ps k z))

  pub nearest_found : FoundWith OfPath (nearest g ps q)
  unfolding nearest
  nearest_found =
      scan_keeps (λ c. OfPath c.place c.squared) (FoundWith OfPath) (nearer_found OfPath) g (cell_of g q) (seen_from g q 0 ps)
      (all_seen (λ c. OfPath c.place c.squared) g q z ps 0 (λ k l. rw zero-add (l, refl))) (max g.cols g.rows) 0 Nothing tt

  -- what is found is a place of the path
  pub nearest_place : 1 ≤ length ps → place_in (nearest g ps q) < length ps
  unfolding place_in
  nearest_place h = go (nearest g ps q) nearest_found
    where
      go : (n : Nearest) → FoundWith OfPath n → place_in n < length ps
      go Nothing f = h
      go (Found k d) f = f.0

-- ---- the nine cells

-- a grid has a column, and a point's cell is one of the grid's
pub some_cols : (b : BoundingBox) → 1 ≤ (grid_of b).cols
unfolding grid_of cells_along
some_cols b = omega arith

pub col_in : (g : SpatialGrid) (q : Point) → (cell_of g q).col ≤ g.cols - 1
unfolding cell_of index_along
col_in g q = omega arith

pub row_in : (g : SpatialGrid) (q : Point) → (cell_of g q).row ≤ g.rows - 1
unfolding cell_of index_along
row_in g q = omega arith

-- no point in the nine cells around q is nearer than the one that is found
pub nearest_nine : (g : SpatialGrid) → 1 ≤ g.cols → (ps : List Point) (q z : Point) →
    ((i : ℕ) → i < length ps → Plus (distance_squared q (get_or ps i z))) →
    (i : ℕ) → i < length ps → T (within (square g (cell_of g q) 1) (cell_of g (get_or ps i z))) →
    T (not (lt (distance_squared q (get_or ps i z)) (distance_squared q (get_or ps (place_in (nearest g ps q)) z))))
unfolding nearest place_in
nearest_nine g h ps q z m i l t = go (nearest g ps q) (nearest_found g ps q z) (settled i l t)
  where
    settled : (i : ℕ) → i < length ps → T (within (square g (cell_of g q) 1) (cell_of g (get_or ps i z))) →
        Settled (seen g q (0 + i) (get_or ps i z)) (nearest g ps q)
    settled =
        let measured = all_seen (λ c. Plus c.squared) g q z ps 0 m in
        seen_at _ g q z ps 0 (search_settles g (cell_of g q) (seen_from g q 0 ps) measured (col_in g q) (row_in g q) (omega arith))

    go : (n : Nearest) → FoundWith (OfPath g ps q z) n → Settled (seen g q (0 + i) (get_or ps i z)) n →
        T (not (lt (distance_squared q (get_or ps i z)) (distance_squared q (get_or ps (place_in n) z))))
    go Nothing f s = absurd s
    go (Found k d) f s = rw f.1 at s

-- ---- over the steps of a path, in the plate's grid

-- the point at place k
unfoldable pub point_of : Plate → List Step → ℕ → Point
point_of p path k = at p.points (vertex_of path k)

pub points_length : (p : Plate) (path : List Step) → length (path_points p path) ≡ length path
unfolding path_points
points_length p path = length-map path (λ (s : Step). at p.points s.vertex)

pub points_at : (p : Plate) (path : List Step) (k : ℕ) → get_or (path_points p path) k (at p.points 0) ≡ point_of p path k
unfolding path_points point_of vertex_of step_at land
points_at p path k = get_or-map (λ (s : Step). at p.points s.vertex) path k (land start_kind 0)

-- the plate's grid
abbrev pub grid_for : Plate → SpatialGrid
grid_for p = grid_of p.box

-- the place that is found for a point q
abbrev pub found_for : Plate → List Step → Point → ℕ
found_for p path q = place_in (nearest (grid_for p) (path_points p path) q)

module _ (p : Plate) (path : List Step) (some : 1 ≤ length path) where
  pub found_in : (q : Point) → found_for p path q < length path
  found_in q = rw (points_length p path) at (nearest_place (grid_for p) (path_points p path) q (at p.points 0) (rw (points_length p path) some))

  pub found_nearest : (q : Point) → ((i : ℕ) → i < length path → Plus (distance_squared q (point_of p path i))) →
      (i : ℕ) → i < length path → T (within (square (grid_for p) (cell_of (grid_for p) q) 1) (cell_of (grid_for p) (point_of p path i))) →
      T (not (lt (distance_squared q (point_of p path i)) (distance_squared q (point_of p path (found_for p path q)))))
  found_nearest q m i l t =
      let measured : (k : ℕ) → k < length (path_points p path) → Plus (distance_squared q (get_or (path_points p path) k (at p.points 0))) =
      λ k x. rw (points_at p path k) (m k (rw (points_length p path) at x)) in
      rw (points_at p path i, points_at p path (found_for p path q)) at
      (nearest_nine (grid_for p) (some_cols p.box) (path_points p path) q (at p.points 0) measured i (rw (points_length p path) l)
      (rw (points_at p path i) t))
