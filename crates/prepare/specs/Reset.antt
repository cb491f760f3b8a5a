-- The caches before the start. Definitions only.
use Rattle.std.specs.Prelude.{ℕ, ◌≤◌, ◌<◌, ◌≡◌, false, List, get_or, take, Float}
use Rattle.std.specs.Float.{nan, inf}
use Rattle.rules.specs.Tools.{sum}
use Rattle.work_layout.specs.Parts.{from, KeptBelow}
use Rattle.work_layout.specs.declared.Layout.{Layout}

-- the first vertex of contour j: so many vertices come before it
unfoldable pub first_vertex : List ℕ → ℕ → ℕ
first_vertex lengths j = sum (take j lengths)

-- Contours 0 to n − 1 are infinitely far and enter at their first vertex. What lies before the entries, the samples, and which contours wait are as
-- they were.
pub record Reset (lengths : List ℕ) (lay : Layout) (n : ℕ) (w : List ℕ) (ds' : List Float) (w' : List ℕ) : Type 0 where
  pub squared : (j : ℕ) → j < n → get_or ds' j nan ≡ inf false
  pub entry : (j : ℕ) → j < n → from w' lay.entries j ≡ first_vertex lengths j
  pub first : (j : ℕ) → j < n → from w' lay.firsts j ≡ first_vertex lengths j
  pub below : KeptBelow lay.entries w w'
  pub kept : (i : ℕ) → lay.heads ≤ i → i < lay.firsts → get_or w' i 0 ≡ get_or w i 0
