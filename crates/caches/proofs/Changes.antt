-- What is held of the waiting contours follows the definitions. Assumes nothing.
use Prim.Native.Nat.{ℕ, ◌+◌}
use mathlib.Core.Path.{◌≡◌, ap, ◌∙◌}
use mathlib.Core.List.{List}
use native.Mathlib.Omega.{arith}
use lib.ListN.{length}
use lib.Ieee.{Float}
use Rattle.rules.specs.Tools.{foldl}
use Rattle.rules.specs.HandedOver.{at, vertex_at}
use Rattle.rules.specs.SamplesAndCache.{Cache, Waiting, samples, keep, ask_path, seed, update, cell_at}
use Rattle.rules.specs.declared.Nearest.{Nearest}
use Rattle.rules.specs.declared.Point.{Point}
use Rattle.rules.specs.declared.SpatialGrid.{SpatialGrid}
use Rattle.work_layout.specs.Laid.{Laid}
use Rattle.work_layout.specs.Parts.{from}
use Rattle.work_layout.specs.declared.Layout.{Layout}
use Rattle.samples.specs.PlatedSlice.{from_kept}
use Rattle.samples.specs.Walks.{fold_from}
use Rattle.caches.specs.HeldCache.{Held, held, held_at, held_of}
use Rattle.waiting.specs.Holds.{Holds, Changed}
use Rattle.caches.specs.CacheMoves.{tried, tried_in, Moved}
use Rattle.caches.proofs.Contours.{every, asks, seeds, updates}

module _ (xs : List Float) (g : SpatialGrid) (lay : Layout) (ds : List Float) (w : List ℕ) (laid : Laid lay (length w)) (ds' : List Float) (w' : List ℕ) where
  -- a cache was changed, and all else of its contour stayed
  holds_keep : (f : ℕ → Held → Held) → Moved lay ds w ds' w' f → (c : Waiting) (k : Cache) → Holds xs g lay ds w c →
      f c.contour.number (held_of c.contour.first c.kept) ≡ held_of c.contour.first k → Holds xs g lay ds' w' (keep c k)
  unfolding keep held_at held_of held
  holds_keep f m c k h e =
      record {
        number = h.number;
        owned = rw (from_kept w w' lay.owners (λ i l. m.above i (omega (arith, laid)))) h.owned;
        samples = h.samples;
        waits = m.above (lay.waiting + j) (omega (arith, laid)) ∙ h.waits;
        first = m.above (lay.firsts + j) (omega (arith, laid)) ∙ h.first;
        squared = ap (λ (x : Held). x.squared) after;
        entry = ap (λ (x : Held). x.entry) after;
      }
    where
      j : ℕ
      j = c.contour.number

      after : held_at lay ds' w' j ≡ held_of c.contour.first k
      after = m.held j h.number (omega (arith, h.waits)) ∙ (rw (h.squared, h.entry) e)

  module _ (path : List Point) where
    abbrev ask : ℕ → Nearest
    ask = ask_path (at xs) g path

    pub seeded_all : Moved lay ds w ds' w' (λ j. fold_from every (tried (from w lay.owners) ask j) lay.points 0) →
        Changed xs g lay ds w ds' w' (λ p c. seed p g path c)
    unfolding seed samples ask_path vertex_at asks
    seeded_all m p e c h =
        holds_keep _ m c _ h
        (rw (h.samples, e) (seeds xs g (from w lay.owners) ask c.contour.number c.contour.first lay.points _ h.owned c.kept))

    pub updated_all : (cells : List ℕ) →
        Moved lay ds w ds' w' (λ j k. foldl (tried_in (from w lay.owners) (cell_at (at xs) g) ask lay.points j) k cells) →
        Changed xs g lay ds w ds' w' (λ p c. update p g path cells c)
    unfolding update samples ask_path vertex_at asks
    updated_all cells m p e c h =
        holds_keep _ m c _ h
        (rw (h.samples, e) (updates xs g (from w lay.owners) ask c.contour.number c.contour.first lay.points _ h.owned cells c.kept))
