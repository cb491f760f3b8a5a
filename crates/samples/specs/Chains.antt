-- The samples of each cell, chained in rising order of their vertex numbers: by contour, then by vertex. A link is 1 more than a vertex number, and 0
-- ends a chain. Definitions only.
use Rattle.std.specs.Prelude.{◌≡◌, Bool, true, ◌&&◌, List, ℕ, zero, suc, ◌-◌, ◌≤◌, ◌<◌, eqb, ltb, Float}
use Rattle.rules.specs.Tools.{pick}
use Rattle.rules.specs.HandedOver.{at}
use Rattle.rules.specs.SamplesAndCache.{cell_at}
use Rattle.rules.specs.declared.SpatialGrid.{SpatialGrid}
use Rattle.work_layout.specs.Parts.{from}
use Rattle.work_layout.specs.declared.Layout.{Layout}

-- 1 more than the first of the m numbers from k on that passes, or 0 where none does
unfoldable pub first_of : (ℕ → Bool) → ℕ → ℕ → ℕ
first_of P zero k = zero
first_of P (suc m) k = pick (P k) (suc k) (first_of P m (suc k))

-- the chains of the numbers from v to n that pass, one for each cell: `test c k` says that k passes and lies in cell c
pub record RisingChains (heads next : ℕ → ℕ) (test : ℕ → ℕ → Bool) (cells n v : ℕ) : Type 0 where
  pub head : (c : ℕ) → c < cells → heads c ≡ first_of (test c) (n - v) v
  pub succ : (c k : ℕ) → c < cells → v ≤ k → k < n → test c k ≡ true → next k ≡ first_of (test c) (n - suc k) (suc k)

-- whether vertex v is a sample and lies in cell c
unfoldable pub is_sample_in : (ℕ → ℕ) → (ℕ → ℕ) → ℕ → ℕ → Bool
is_sample_in owner cell c v = ltb 0 (owner v) && eqb (cell v) c

-- the chains in the slice w of the samples from vertex v on
abbrev pub ChainedSamples : List Float → SpatialGrid → Layout → (ℕ → ℕ) → List ℕ → ℕ → Type 0
ChainedSamples xs g lay owner w v =
    RisingChains (from w lay.heads) (from w lay.next) (is_sample_in owner (cell_at (at xs) g)) lay.cells lay.points v
