-- The part of the work slice that tells which contours wait: a contour's length while it waits, then 0. Definitions only.
use Rattle.std.specs.Prelude.{◌≡◌, List, ℕ, ◌+◌, ◌<◌, get_or, set}
use Rattle.work_layout.specs.Parts.{from, KeptBelow, KeptFrom}
use Rattle.work_layout.specs.declared.Layout.{Layout}

-- every contour waits, unless it is empty, and nothing else is altered
pub record AllWait (lengths : List ℕ) (lay : Layout) (w w' : List ℕ) : Type 0 where
  pub waits : (j : ℕ) → j < lay.contours → from w' lay.waiting j ≡ get_or lengths j 0
  pub below : KeptBelow lay.waiting w w'
  pub above : KeptFrom lay.firsts w w'

-- the slice after contour j was stopped: it waits no more
abbrev pub stopped : Layout → List ℕ → ℕ → List ℕ
stopped lay w j = set w (lay.waiting + j) 0
