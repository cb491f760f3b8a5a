-- All vertices are queried, one after another. Assumes nothing.
use Prim.Native.Nat.{ℕ, suc, ◌+◌, ◌-◌, ◌≤◌, ◌<◌}
use mathlib.Core.Path.{◌≡◌, subst}
use mathlib.Core.List.{List}
use native.Mathlib.Numerals.{add-one}
use native.Mathlib.Omega.{arith}
use lib.ListN.{length}
use lib.Ieee.{Float}
use Rattle.rules.specs.Tools.{pick}
use Rattle.rules.specs.declared.Nearest.{Nearest}
use Rattle.work_layout.specs.Laid.{Laid}
use Rattle.work_layout.specs.Parts.{from}
use Rattle.work_layout.specs.declared.Layout.{Layout}
use Rattle.samples.specs.Walks.{fold_from}
use Rattle.caches.specs.HeldCache.{Held}
use Rattle.caches.specs.CacheMoves.{tried, Moved}
use Rattle.caches.proofs.Contours.{every}
use Rattle.caches.proofs.Reaches.{Reached, reached_step, reached_end, same_owners}

-- what is held of contour j after the vertices from v on
unfoldable pub from_on : (ℕ → ℕ) → (ℕ → Nearest) → ℕ → ℕ → ℕ → Held → Held
from_on owner ask n v j k = fold_from every (tried owner ask j) (n - v) v k

-- the vertices before v are queried
pub record Sweep (lay : Layout) (ask : ℕ → Nearest) (ds₀ : List Float) (w₀ : List ℕ) (ds : List Float) (w : List ℕ) (v : ℕ) : Type 0 where
  pub most : v ≤ lay.points
  pub reached : Reached lay ds₀ w₀ ds w (from_on (from w₀ lay.owners) ask lay.points v) (from_on (from w₀ lay.owners) ask lay.points 0)

module _ (owner : ℕ → ℕ) (ask : ℕ → Nearest) (n v j : ℕ) (k : Held) where
  one_more : v < n → from_on owner ask n v j k ≡ from_on owner ask n (v + 1) j (tried owner ask j v k)
  unfolding from_on fold_from every pick
  one_more l = let e : n - v ≡ suc (n - (v + 1)) = omega arith in rw (e, add-one)

  no_more : n ≤ v → from_on owner ask n v j k ≡ k
  unfolding from_on fold_from
  no_more l = let e : n - v ≡ 0 = omega arith in rw e

module _ {lay : Layout} {ask : ℕ → Nearest} {ds₀ : List Float} {w₀ : List ℕ} (laid : Laid lay (length w₀)) where
  module _ {ds : List Float} {w : List ℕ} {v : ℕ} (s : Sweep lay ask ds₀ w₀ ds w v) where
    pub sweep_step : v < lay.points → {ds' : List Float} {w' : List ℕ} → Moved lay ds w ds' w' (λ j. tried (from w lay.owners) ask j v) →
        length w' ≡ length w → length ds' ≡ length ds → Sweep lay ask ds₀ w₀ ds' w' (v + 1)
    sweep_step l m ew ed =
        record {
          most = omega arith;
          reached =
              reached_step laid s.reached (λ j. tried (from w₀ lay.owners) ask j v)
              (rw (same_owners laid s.reached) at m) ew ed (λ j k. one_more (from w₀ lay.owners) ask lay.points v j k l);
        }

    pub sweep_end : lay.points ≤ v → Moved lay ds₀ w₀ ds w (λ j. fold_from every (tried (from w₀ lay.owners) ask j) lay.points 0)
    unfolding from_on
    sweep_end l =
        let owner = from w₀ lay.owners in
        let e : lay.points - 0 ≡ lay.points = omega arith in
        subst (λ (n : ℕ). Moved lay ds₀ w₀ ds w (λ j k. fold_from every (tried owner ask j) n 0 k)) e
        (reached_end laid s.reached (λ j k. no_more owner ask lay.points v j k l))
