-- A corollary of the path statement, said of the slices as the retrace call leaves them, and of the points in the path slice in place of vertices. Where the call
-- answers with the counts c, and the plate has one contour or more that is not empty:
--   room          the slices have room for c's path points;
--   coordinates   each path point has the coordinates of the vertex that the marks give it;
--   division      by the path slice's points the marks that were written divide the path, over the plate's contours and points (clause by clause in
--                 crates/statement/specs/Division.antt); only that a contour was not entered before is said of vertices;
--   nine_cells    no earlier path point in the nine cells around a landing is nearer than the one left;
--   kinds         c counts the marks of each kind.
-- Its proof stands in proofs/WrittenDivision.antt. Assumes nothing.
use Rattle.std.specs.Prelude.{◌≡◌, List, ℕ, ◌+◌, ◌*◌, ◌≤◌, ◌<◌, Float, length, take}
use Rattle.std.proofs.Common.{arith, get_or-take}
use Rattle.std.specs.Float.{nan}
use Rattle.rules.specs.HandedOver.{Plate, at, contours, gives}
use Rattle.rules.specs.Contours.{contour_count}
use Rattle.rules.specs.GridAndNearest.{grid_of}
use Rattle.rules.specs.Marks.{cut_kind, back_step_kind, jump_kind, touch_kind, marks_of, kind_at, vertex_in}
use Rattle.rules.specs.Calls.{retrace_call}
use Rattle.statement.specs.Division.{NotEntered, Division, NineCells}
use Rattle.rules.specs.declared.Totals.{Totals}

-- ---- what is said

-- a path slice and a marks slice, in which c's path points were written
pub record Written (p : Plate) (c : Totals) (path : List Float) (ms : List ℕ) : Type 0 where
  pub room : (2 * c.points ≤ length path) × (2 * c.points ≤ length ms)
  pub coordinates : let v = vertex_in (take (2 * c.points) ms) in (k : ℕ) → k < c.points → at path k ≡ at p.points (v k)
  pub division :
      let written = take (2 * c.points) ms in
      Division (contours p) (at path) (at p.points) (at path) (NotEntered (vertex_in written)) c.points written
  pub nine_cells : NineCells (grid_of p.box) (at path) c.points (take (2 * c.points) ms)
  pub kinds :
      let written = take (2 * c.points) ms in
      (c.cuts ≡ marks_of cut_kind written)
      × (c.back_steps ≡ marks_of back_step_kind written)
      × (c.jumps ≡ marks_of jump_kind written)
      × (c.touches ≡ marks_of touch_kind written)

unfoldable pub WrittenStatement : Type 0
WrittenStatement =
    (p : Plate) (path : List Float) (ms : List ℕ) (w d : ℕ) (c : Totals) →
    let o = retrace_call p path ms w d in
    o.answer ≡ gives c →
    1 ≤ contour_count p →
    Written p c o.path o.marks

-- ---- the first points of a slice

-- the first n path points are those of a slice's first 2n numbers
pub at_take : (n : ℕ) (xs : List Float) (k : ℕ) → k < n → at (take (2 * n) xs) k ≡ at xs k
unfolding at
at_take n xs k h = rw (get_or-take (2 * n) xs (2 * k) nan (omega arith), get_or-take (2 * n) xs (2 * k + 1) nan (omega arith))

pub kind_take : (n : ℕ) (ms : List ℕ) (k : ℕ) → k < n → kind_at (take (2 * n) ms) k ≡ kind_at ms k
unfolding kind_at
kind_take n ms k h = get_or-take (2 * n) ms (2 * k) 0 (omega arith)
