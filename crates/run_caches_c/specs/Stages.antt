-- What the slices hold between two calls. Definitions only.
use Rattle.std.specs.Prelude.{◌≡◌, List, ℕ, suc, ◌+◌, ◌<◌, Float, length}
use Rattle.rules.specs.Limits.{most_cells}
use Rattle.rules.specs.Tools.{sum}
use Rattle.rules.specs.HandedOver.{Plate, Contour, contours_from, vertex_at}
use Rattle.rules.specs.SamplesAndCache.{Waiting, update, cells_around}
use Rattle.rules.specs.declared.SpatialGrid.{SpatialGrid}
use Rattle.plate_laws.specs.Lists.{All}
use Rattle.work_layout.specs.Parts.{from}
use Rattle.work_layout.specs.declared.Layout.{Layout}
use Rattle.waiting.specs.Holds.{Holds}
use Rattle.history.specs.History.{points}
use Rattle.caches.specs.QueryNeeds.{Querying}

-- The first `count` points are the path, of which there is room for `room`; every contour waits, as f says; no cell is flagged.
pub record Stage (xs : List Float) (ns : List ℕ) (g : SpatialGrid) (room : ℕ) (lay : Layout) (ds : List Float) (w : List ℕ) (count : ℕ)
    (f : Plate → Contour → Waiting) : Type 0 where
  pub start : lay.flags ≡ most_cells + room
  pub points : lay.points ≡ sum ns
  pub contours : lay.contours ≡ length ns
  pub querying : Querying xs g lay ds w xs count
  pub flags : (k : ℕ) → k < lay.cells → from w lay.flags k ≡ 0
  pub same : (p : Plate) (c : Contour) → (f p c).contour ≡ c
  pub held : (p : Plate) → p.points ≡ xs → All (λ c. Holds xs g lay ds w (f p c)) (contours_from 0 0 ns)

-- Contour `number`, which is e, waits no more, and the caches of the others are updated around it.
abbrev pub OthersUpdated : List Float → SpatialGrid → Layout → ℕ → ℕ → List Float → List ℕ → List Float → List ℕ → Type 0
OthersUpdated xs g lay number count ds w ds' w' =
    (p : Plate) (e : Contour) (c : Waiting) → p.points ≡ xs → e.number ≡ number → from w lay.firsts number ≡ e.first →
    from w lay.waiting number ≡ suc e.last → (c.contour.number ≡ number → ⊥) → Holds xs g lay ds w c →
    Holds xs g lay ds' w' (update p g (points xs count) (cells_around (vertex_at p e) g e.last) c)
