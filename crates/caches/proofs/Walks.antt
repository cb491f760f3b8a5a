-- The cells of a list are scanned, one after another. Assumes nothing.
use Prim.Native.Nat.{ℕ, ◌+◌, ◌≤◌, ◌<◌}
use mathlib.Core.Path.{◌≡◌, ap}
use mathlib.Core.List.{List}
use native.Mathlib.Numerals.{add-one}
use native.Mathlib.Omega.{arith}
use lib.ListN.{length, get_or, drop, drop_of_length-le, length-take, length-drop}
use lib.Seq.{drop-cons, get_or-take, get_or-drop}
use lib.Ieee.{Float}
use Rattle.rules.specs.Tools.{foldl}
use Rattle.rules.specs.HandedOver.{at}
use Rattle.rules.specs.SamplesAndCache.{cell_at}
use Rattle.rules.specs.declared.Nearest.{Nearest}
use Rattle.rules.specs.declared.SpatialGrid.{SpatialGrid}
use Rattle.work_layout.specs.Laid.{Laid}
use Rattle.work_layout.specs.Parts.{from}
use Rattle.work_layout.specs.declared.Layout.{Layout}
use Rattle.neighbours.specs.CellList.{list_of}
use Rattle.caches.specs.HeldCache.{Held}
use Rattle.caches.specs.CacheMoves.{tried_in, Moved}
use Rattle.caches.proofs.Reaches.{Reached, reached_step, reached_end, same_owners}

-- the list lies in the slice
pub list_of_length : (lay : Layout) (w : List ℕ) (n : ℕ) → lay.list + n ≤ length w → length (list_of lay w n) ≡ n
unfolding list_of
list_of_length lay w n h = simp (length-take, length-drop) (omega arith)

pub list_of_at : (lay : Layout) (w : List ℕ) (n i : ℕ) → i < n → get_or (list_of lay w n) i 0 ≡ from w lay.list i
unfolding list_of
list_of_at lay w n i h = rw (get_or-take, get_or-drop)

module _ (xs : List Float) (g : SpatialGrid) (lay : Layout) (ask : ℕ → Nearest) where
  -- what is held of contour j after the samples in a cell
  abbrev in_one : (ℕ → ℕ) → ℕ → Held → ℕ → Held
  in_one owner j k c = tried_in owner (cell_at (at xs) g) ask lay.points j k c

  -- the cells before place i of a list are scanned
  pub record CellsScanned (cells : List ℕ) (ds₀ : List Float) (w₀ : List ℕ) (ds : List Float) (w : List ℕ) (i : ℕ) : Type 0 where
    pub most : i ≤ length cells
    pub reached : Reached lay ds₀ w₀ ds w (λ j k. foldl (in_one (from w₀ lay.owners) j) k (drop i cells)) (λ j k. foldl (in_one (from w₀ lay.owners) j) k cells)

module _ {xs : List Float} {g : SpatialGrid} {lay : Layout} {ask : ℕ → Nearest} {cells : List ℕ} {ds₀ : List Float} {w₀ : List ℕ}
    (laid : Laid lay (length w₀)) {ds : List Float} {w : List ℕ} {i : ℕ} (s : CellsScanned xs g lay ask cells ds₀ w₀ ds w i) where
  pub walked_step : i < length cells → {c : ℕ} → c ≡ get_or cells i 0 → {ds' : List Float} {w' : List ℕ} →
      Moved lay ds w ds' w' (λ j k. in_one xs g lay ask (from w lay.owners) j k c) → length w' ≡ length w → length ds' ≡ length ds →
      CellsScanned xs g lay ask cells ds₀ w₀ ds' w' (i + 1)
  walked_step l {c = c} e m ew ed =
      record {
        most = omega arith;
        reached =
            reached_step laid s.reached (λ j k. in_one xs g lay ask (from w₀ lay.owners) j k c)
            (rw (same_owners laid s.reached) at m) ew ed
            (λ j k. rw (e, add-one i) (ap (foldl (in_one xs g lay ask (from w₀ lay.owners) j) k) (drop-cons cells i 0 l)));
      }

  pub walked_end : length cells ≤ i → Moved lay ds₀ w₀ ds w (λ j k. foldl (in_one xs g lay ask (from w₀ lay.owners) j) k cells)
  walked_end l = reached_end laid s.reached (λ j k. ap (foldl (in_one xs g lay ask (from w₀ lay.owners) j) k) (drop_of_length-le cells l))
