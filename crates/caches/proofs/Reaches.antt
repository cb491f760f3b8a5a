-- A run of queries: what is held now, after those still to come, is what was held first, after all. Assumes nothing.
use Prim.Native.Nat.{ℕ, ◌+◌, ◌<◌}
use mathlib.Core.Path.{◌≡◌, sym, ap, ◌∙◌}
use mathlib.Core.List.{List}
use native.Mathlib.Omega.{arith}
use lib.ListN.{length}
use lib.Ieee.{Float}
use Rattle.rules.specs.declared.SpatialGrid.{SpatialGrid}
use Rattle.work_layout.specs.Laid.{Laid}
use Rattle.work_layout.specs.Parts.{from, KeptBelow, KeptFrom}
use Rattle.work_layout.specs.declared.Layout.{Layout}
use Rattle.samples.specs.PlatedSlice.{from_kept}
use Rattle.history.specs.OneMorePoint.{ready_kept}
use Rattle.caches.specs.HeldCache.{Held, held_at}
use Rattle.caches.specs.CacheMoves.{Moved}
use Rattle.caches.specs.QueryNeeds.{Querying}
use Rattle.prepare.specs.PreparedSlices.{prepared_kept}

pub record Reached (lay : Layout) (ds₀ : List Float) (w₀ : List ℕ) (ds : List Float) (w : List ℕ) (rest all : ℕ → Held → Held) : Type 0 where
  pub held : (j : ℕ) → j < lay.contours → 0 < from w₀ lay.waiting j → rest j (held_at lay ds w j) ≡ all j (held_at lay ds₀ w₀ j)
  pub below : KeptBelow lay.entries w₀ w
  pub above : KeptFrom lay.heads w₀ w
  pub same_w : length w ≡ length w₀
  pub same_ds : length ds ≡ length ds₀

module _ {lay : Layout} {ds₀ : List Float} {w₀ : List ℕ} (laid : Laid lay (length w₀)) {ds : List Float} {w : List ℕ} {rest all : ℕ → Held → Held}
    (r : Reached lay ds₀ w₀ ds w rest all) where
  pub same_owners : from w lay.owners ≡ from w₀ lay.owners
  same_owners = from_kept w₀ w lay.owners (λ i l. r.above i (omega (arith, laid)))

  -- what a query asks for is still there
  pub still_querying : {xs : List Float} {g : SpatialGrid} {path : List Float} {count : ℕ} → Querying xs g lay ds₀ w₀ path count →
      Querying xs g lay ds w path count
  still_querying {xs = xs} {g = g} {path = path} {count = count} q =
      record {
        prepared = prepared_kept xs g lay w₀ w laid (λ i l m. r.above i l) ds₀ ds r.same_ds r.same_w q.prepared;
        ready = ready_kept g path w₀ w count lay.entries q.ready r.below (omega (arith, laid, q.apart)) r.same_w;
        apart = q.apart;
      }

  -- some more
  pub reached_step : {ds' : List Float} {w' : List ℕ} (f : ℕ → Held → Held) {rest' : ℕ → Held → Held} → Moved lay ds w ds' w' f → length w' ≡ length w → length ds' ≡ length ds →
      ((j : ℕ) (k : Held) → rest j k ≡ rest' j (f j k)) → Reached lay ds₀ w₀ ds' w' rest' all
  reached_step f {rest' = rest'} m ew ed e =
      record {
        held = λ j l h. ap (rest' j) (m.held j l (omega (arith, h, waits j))) ∙ sym (e j (held_at lay ds w j)) ∙ r.held j l h;
        below = λ i l. m.below i l ∙ r.below i l;
        above = λ i l. m.above i l ∙ r.above i l;
        same_w = ew ∙ r.same_w;
        same_ds = ed ∙ r.same_ds;
      }
    where
      waits : (j : ℕ) → from w lay.waiting j ≡ from w₀ lay.waiting j
      waits j = r.above (lay.waiting + j) (omega (arith, laid))

  -- none is to come
  pub reached_end : ((j : ℕ) (k : Held) → rest j k ≡ k) → Moved lay ds₀ w₀ ds w all
  reached_end e = record { held = λ j l h. sym (e j (held_at lay ds w j)) ∙ r.held j l h; below = r.below; above = r.above }
