-- A contour waits no more: what querying asks for is still there. Assumes nothing.
use Rattle.std.specs.Prelude.{◌≡◌, List, ℕ, ◌+◌, ◌<◌, Float, length, get_or}
use Rattle.std.proofs.Common.{arith, length-set, get_or-set_other}
use Rattle.rules.specs.declared.SpatialGrid.{SpatialGrid}
use Rattle.work_layout.specs.Laid.{Laid}
use Rattle.work_layout.specs.Parts.{from, KeptBelow, KeptFrom}
use Rattle.work_layout.specs.declared.Layout.{Layout}
use Rattle.waiting.specs.Waits.{stopped}
use Rattle.prepare.specs.PreparedSlices.{Prepared, prepared_kept}
use Rattle.prepare.specs.SlicesKept.{prepared_left}
use Rattle.history.specs.OneMorePoint.{ready_kept}
use Rattle.caches.specs.QueryNeeds.{Querying}

module _ {xs : List Float} {g : SpatialGrid} {lay : Layout} {ds : List Float} {w : List ℕ} {path : List Float} {count j : ℕ}
    (q : Querying xs g lay ds w path count) (l : j < lay.contours) where
  pub laid : Laid lay (length w)
  laid = q.prepared.plated.laid

  pub stopped_other : (i : ℕ) → (i ≡ lay.waiting + j → ⊥) → get_or (stopped lay w j) i 0 ≡ get_or w i 0
  stopped_other i d = get_or-set_other w (lay.waiting + j) i 0 0 d

  stopped_below : KeptBelow lay.flags w (stopped lay w j)
  stopped_below i m = stopped_other i (λ e. omega (arith, laid))

  pub stopped_flag : (k : ℕ) → k < lay.cells → from (stopped lay w j) lay.flags k ≡ from w lay.flags k
  stopped_flag k m = stopped_other (lay.flags + k) (λ e. omega (arith, laid))

  pub stopped_querying : Querying xs g lay ds (stopped lay w j) path count
  stopped_querying =
      record {
        prepared = prepared_left xs g lay ds w laid j q.prepared;
        ready = ready_kept g path w (stopped lay w j) count lay.flags q.ready stopped_below q.apart (length-set w (lay.waiting + j) 0);
        apart = q.apart;
      }

  -- what alters nothing from the heads on leaves the samples as they were
  pub settled_prepared : {ds' : List Float} {w' : List ℕ} → KeptFrom lay.heads (stopped lay w j) w' → length ds' ≡ length ds →
      length w' ≡ length (stopped lay w j) → Prepared xs g lay ds' w'
  settled_prepared {ds' = ds'} {w' = w'} above a b =
      prepared_kept xs g lay (stopped lay w j) w' stopped_querying.prepared.plated.laid (λ i m n. above i m) ds ds' a b stopped_querying.prepared
