-- A plate's points, its grid and the lent u32 slice fit one another; and a part of the slice that was not altered. Assumes nothing.
use Rattle.std.specs.Prelude.{◌≡◌, List, ℕ, ◌+◌, ◌*◌, ◌≤◌, Float, length}
use Rattle.std.proofs.Common.{sym, subst, arith}
use Rattle.std.proofs.Math.Path.{fun_ext}
use Rattle.rules.specs.declared.SpatialGrid.{SpatialGrid}
use Rattle.work_layout.specs.Laid.{Laid}
use Rattle.work_layout.specs.Parts.{from, KeptFrom}
use Rattle.work_layout.specs.declared.Layout.{Layout}
use Rattle.grid.specs.SaneGrid.{SaneGrid}

-- xs are the points, w is the slice
pub record Plated (xs : List Float) (g : SpatialGrid) (lay : Layout) (w : List ℕ) : Type 0 where
  pub laid : Laid lay (length w)
  pub sane : SaneGrid g
  pub cells : g.cols * g.rows ≡ lay.cells
  pub long : 2 * lay.points ≤ length xs

-- after a function that keeps the slice's length
pub plated_kept : (xs : List Float) (g : SpatialGrid) (lay : Layout) (w w' : List ℕ) → length w' ≡ length w → Plated xs g lay w → Plated xs g lay w'
plated_kept xs g lay w w' e p = record { laid = subst (Laid lay) (sym e) p.laid; sane = p.sane; cells = p.cells; long = p.long }

-- a part is the same function where nothing from its begin on was altered
pub from_kept : (w w' : List ℕ) (a : ℕ) → KeptFrom a w w' → from w' a ≡ from w a
from_kept w w' a h = fun_ext (λ i. h (a + i) (omega arith))
