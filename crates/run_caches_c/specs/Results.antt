-- What the exported run of the caches answers and writes. Definitions only.
use Rattle.std.specs.Prelude.{◌≡◌, Bool, ◌&&◌, List, ℕ, ◌+◌, ltb, leb, eqb, Float, get_or}
use Rattle.std.specs.Float.{nan}
use Rattle.rules.specs.HandedOver.{Plate, Contour, contours, vertex_at}
use Rattle.rules.specs.SamplesAndCache.{Waiting, waiting, seed, update, cells_around}
use Rattle.rules.specs.declared.Point.{Point}
use Rattle.rules.specs.declared.SpatialGrid.{SpatialGrid}
use Rattle.plate_laws.specs.Lists.{All}

-- ---- what can be run

-- a plate of n points, of which the first `count` are the path, and `before` of these the path when the caches are seeded; the contour that was
-- emitted has `size` points
unfoldable pub has_path : ℕ → ℕ → ℕ → ℕ → Bool
has_path n size before count = ltb 0 n && ltb 0 size && leb before count && leb count n

-- the lengths of the slices, for m contours
unfoldable pub has_slices : ℕ → ℕ → ℕ → ℕ → Bool
has_slices m work distances entries = leb 376832 work && eqb m distances && eqb m entries

-- ---- the caches

-- contour c, its cache seeded by a path, then updated around contour e by a longer path
unfoldable pub after : Plate → SpatialGrid → List Point → List Point → Contour → Contour → Waiting
after p g path longer e c = update p g longer (cells_around (vertex_at p e) g e.last) (seed p g path (waiting p g c))

-- a contour's squared distance, and its entry as a vertex number of the whole slice
pub record Shows (ds : List Float) (es : List ℕ) (w : Waiting) : Type 0 where
  pub squared : get_or ds w.contour.number nan ≡ w.kept.squared
  pub entry : get_or es w.contour.number 0 ≡ w.contour.first + w.kept.entry

-- P of what becomes of every contour but the one that was emitted, which has this number
unfoldable pub Others : Plate → SpatialGrid → ℕ → List Point → List Point → (Waiting → Type 0) → Type 0
Others p g number path longer P =
    All (λ e. e.number ≡ number → All (λ c. (c.number ≡ number → ⊥) → P (after p g path longer e c)) (contours p)) (contours p)
