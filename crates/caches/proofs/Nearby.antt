-- The cells around a contour are listed, and then scanned. Assumes nothing.
use Prim.Native.Nat.{ℕ, ◌+◌, ◌≤◌, ◌<◌}
use mathlib.Core.Path.{◌≡◌, refl, sym, ap, subst, ◌∙◌}
use mathlib.Core.List.{List}
use native.Mathlib.Omega.{arith}
use lib.ListN.{length}
use lib.Ieee.{Float}
use Rattle.rules.specs.Tools.{foldl}
use Rattle.rules.specs.HandedOver.{Plate, Contour, at, vertex_at}
use Rattle.rules.specs.SamplesAndCache.{ask_path, update, cell_at, cells_around}
use Rattle.rules.specs.declared.Point.{Point}
use Rattle.rules.specs.declared.SpatialGrid.{SpatialGrid}
use Rattle.work_layout.specs.Laid.{Laid}
use Rattle.work_layout.specs.Parts.{from, KeptBelow, KeptFrom}
use Rattle.work_layout.specs.declared.Layout.{Layout}
use Rattle.samples.specs.Vertices.{vertex_from, vertices_of}
use Rattle.neighbours.specs.CellList.{list_of, Lists}
use Rattle.history.specs.OneMorePoint.{ready_kept}
use Rattle.waiting.specs.Holds.{Holds, Changed}
use Rattle.caches.specs.CacheMoves.{tried_in, Moved}
use Rattle.caches.specs.QueryNeeds.{Querying}
use Rattle.prepare.specs.PreparedSlices.{prepared_kept}
use Rattle.prepare.specs.SlicesKept.{holds_kept}
use Rattle.caches.proofs.Changes.{updated_all}

module _ (xs : List Float) (g : SpatialGrid) (lay : Layout) (turn : ℕ) (c : Contour) (w w₁ : List ℕ) (n : ℕ) (laid : Laid lay (length w))
    (lists : Lists lay turn w 0 w₁ n (λ _. cells_around (vertex_from xs c.first) g c.last)) where
  pub listed_querying : length w₁ ≡ length w → (ds path : List Float) (count : ℕ) → Querying xs g lay ds w path count → Querying xs g lay ds w₁ path count
  listed_querying e ds path count q =
      record {
        prepared = prepared_kept xs g lay w w₁ laid (λ i l m. lists.above i (omega (arith, laid))) ds ds refl e q.prepared;
        ready = ready_kept g path w w₁ count lay.flags q.ready lists.below q.apart e;
        apart = q.apart;
      }

  pub scanned : (path : List Point) (ds ds' : List Float) (w' : List ℕ) →
      Moved lay ds w₁ ds' w' (λ j k. foldl (tried_in (from w₁ lay.owners) (cell_at (at xs) g) (ask_path (at xs) g path) lay.points j) k (list_of lay w₁ n)) →
      Changed xs g lay ds w ds' w' (λ p d. update p g path (cells_around (vertex_at p c) g c.last) d)
      × (KeptBelow lay.flags w w') × (KeptFrom lay.heads w w') × ((k : ℕ) → k < lay.cells → from w' lay.flags k ≤ turn)
  scanned path ds ds' w' m = (
    λ p e d h.
        subst (λ (cells : List ℕ). Holds xs g lay ds' w' (update p g path cells d)) (lists.list ∙ around p e)
        (updated_all xs g lay ds w₁ lists.listing.laid ds' w' path (list_of lay w₁ n) m p e d (holds_kept xs g lay ds w w₁ laid lists.above d h)),
    λ i l. m.below i (omega (arith, laid)) ∙ lists.below i l,
    λ i l. m.above i l ∙ lists.above i (omega (arith, laid)),
    λ k l. omega (arith, m.below (lay.flags + k) (omega (arith, laid)), lists.listing.most k l),
  )
    where
      around : (p : Plate) → p.points ≡ xs → cells_around (vertex_from xs c.first) g c.last ≡ cells_around (vertex_at p c) g c.last
      around p e = ap (λ (v : ℕ → Point). cells_around v g c.last) (ap (λ (ys : List Float). vertex_from ys c.first) (sym e) ∙ vertices_of p c)
