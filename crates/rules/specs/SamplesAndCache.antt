-- "Samples and cache" of document 01. A contour's vertices count from 0 within it; `vertex` gives the point of each. Definitions only.
use Rattle.std.specs.Prelude.{ℕ, zero, suc, ◌+◌, ◌-◌, ◌*◌, Bool, true, false, ◌||◌, List, [], ◌∷◌, ◌++◌, pos, eqb, Float}
use Rattle.std.specs.Float.{inf, fin, binary64}
use Rattle.std.specs.Float.Ieee.{add, rem, lt, le}
use Rattle.rules.specs.Tools.{pick, foldl, up_from}
use Rattle.rules.specs.HandedOver.{Plate, Contour, vertex_at}
use Rattle.rules.specs.Distances.{distance}
use Rattle.rules.specs.GridAndNearest.{Cell, cell_of, Square, square, nearest}
use Rattle.rules.specs.declared.Point.{Point}
use Rattle.rules.specs.declared.SpatialGrid.{SpatialGrid}
use Rattle.rules.specs.declared.Nearest.{Nearest}
use Rattle.rules.specs.declared.Nearest.TheVariants.{Found, Nothing}

-- ---- samples

-- Whether each of the n vertices after vertex i is a sample. `total` is what the distances added up to so far, or what was left of it by s at the last
-- vertex where it reached s (equal counts): that vertex is a sample. The last vertex is always one.
unfoldable pub sampled_after : (ℕ → Point) → Float → ℕ → Float → ℕ → List Bool
sampled_after vertex s i total zero = []
sampled_after vertex s i total (suc n) =
    let t = add binary64 total (distance (vertex i) (vertex (suc i))) in
    (le s t || eqb n 0) ∷ sampled_after vertex s (suc i) (pick (le s t) (rem binary64 t s) t) n

-- whether each vertex of a contour is a sample; vertex 0 is one
unfoldable pub sampled : (ℕ → Point) → Float → ℕ → List Bool
sampled vertex s last = true ∷ sampled_after vertex s 0 (fin false 0 (pos 0)) last

-- a cell's number, row by row: two cells of the grid are one where their numbers are equal
unfoldable pub cell_number : SpatialGrid → Cell → ℕ
cell_number g c = c.row * g.cols + c.col

unfoldable pub cell_at : (ℕ → Point) → SpatialGrid → ℕ → ℕ
cell_at vertex g i = cell_number g (cell_of g (vertex i))

-- a sample: a vertex, and the number of the cell that it lies in
pub record Sample : Type 0 where
  pub vertex : ℕ
  pub cell : ℕ

unfoldable pub sample_at : (ℕ → Point) → SpatialGrid → ℕ → Sample
sample_at vertex g i = record { vertex = i; cell = cell_at vertex g i }

-- those of the vertices from i on that are samples
unfoldable pub samples_from : (ℕ → Point) → SpatialGrid → ℕ → List Bool → List Sample
samples_from vertex g i [] = []
samples_from vertex g i (b ∷ bs) = let rest = samples_from vertex g (suc i) bs in pick b (sample_at vertex g i ∷ rest) rest

unfoldable pub samples : (ℕ → Point) → SpatialGrid → ℕ → List Sample
samples vertex g last = samples_from vertex g 0 (sampled vertex g.cell_size last)

-- ---- caches

-- distance, entry and place. Nothing reads the place: the entry is queried afresh when its contour is chosen.
pub record Cache : Type 0 where
  pub squared : Float
  pub entry : ℕ
  pub place : ℕ

unfoldable pub cache : Float → ℕ → ℕ → Cache
cache d e h = record { squared = d; entry = e; place = h }

-- replacement needs a strictly smaller distance
unfoldable pub cached : Cache → ℕ → Nearest → Cache
cached k i Nothing = k
cached k i (Found h d) = pick (lt d k.squared) (cache d i h.0) k

-- one sample is queried; `ask` answers for a vertex
unfoldable pub query_sample : (ℕ → Nearest) → Cache → Sample → Cache
query_sample ask k s = cached k s.vertex (ask s.vertex)

-- after the start: all samples, in order
unfoldable pub seeded : (ℕ → Nearest) → List Sample → Cache → Cache
seeded ask ss k = foldl (query_sample ask) k ss

-- ---- the cells within 1 of each point of a contour

unfoldable pub met : List ℕ → ℕ → Bool
met [] c = false
met (x ∷ xs) c = eqb x c || met xs c

-- listed once each, in first-met order
unfoldable pub listed : List ℕ → ℕ → List ℕ
listed cs c = pick (met cs c) cs (cs ++ (c ∷ []))

-- by points, rows, columns
unfoldable pub listed_row : SpatialGrid → Square → List ℕ → ℕ → List ℕ
listed_row g s cs r = foldl listed cs (up_from (r * g.cols + s.first_col) (s.last_col + 1 - s.first_col))

unfoldable pub listed_square : SpatialGrid → List ℕ → Square → List ℕ
listed_square g cs s = foldl (listed_row g s) cs (up_from s.first_row (s.last_row + 1 - s.first_row))

unfoldable pub listed_around : (ℕ → Point) → SpatialGrid → List ℕ → ℕ → List ℕ
listed_around vertex g cs i = listed_square g cs (square g (cell_of g (vertex i)) 1)

-- points in vertex order, however the contour was emitted
unfoldable pub cells_around : (ℕ → Point) → SpatialGrid → ℕ → List ℕ
cells_around vertex g last = foldl (listed_around vertex g) [] (up_from 0 (suc last))

-- ---- the update

-- one sample, if it lies in the cell
unfoldable pub query_in : (ℕ → Nearest) → ℕ → Cache → Sample → Cache
query_in ask cell k s = pick (eqb s.cell cell) (query_sample ask k s) k

unfoldable pub updated_in : (ℕ → Nearest) → List Sample → Cache → ℕ → Cache
updated_in ask ss k cell = foldl (query_in ask cell) k ss

-- After each later contour is emitted: the samples in the listed cells, within a cell by vertex. Each contour has a cache of its own and the path does
-- not change meanwhile, so the order between contours cannot show: "by contour, then vertex" is this for each waiting contour.
unfoldable pub updated : (ℕ → Nearest) → List ℕ → List Sample → Cache → Cache
updated ask cells ss k = foldl (updated_in ask ss) k cells

-- ---- a contour that is not in the path yet

pub record Waiting : Type 0 where
  pub contour : Contour
  pub samples : List Sample
  pub kept : Cache

unfoldable pub waiting : Plate → SpatialGrid → Contour → Waiting
waiting p g c = record { contour = c; samples = samples (vertex_at p c) g c.last; kept = cache (inf false) 0 0 }

-- what the path answers for a vertex of a contour
unfoldable pub ask_path : (ℕ → Point) → SpatialGrid → List Point → ℕ → Nearest
ask_path vertex g path i = nearest g path (vertex i)

unfoldable pub keep : Waiting → Cache → Waiting
keep w k = record { contour = w.contour; samples = w.samples; kept = k }

unfoldable pub seed : Plate → SpatialGrid → List Point → Waiting → Waiting
seed p g path w = keep w (seeded (ask_path (vertex_at p w.contour) g path) w.samples w.kept)

unfoldable pub update : Plate → SpatialGrid → List Point → List ℕ → Waiting → Waiting
update p g path cells w = keep w (updated (ask_path (vertex_at p w.contour) g path) cells w.samples w.kept)
