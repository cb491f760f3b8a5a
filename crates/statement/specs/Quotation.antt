-- "Lengths for the quotation" of document 02, ticket 4: what is told of lengths. In words: where the retrace call finishes a path, its counts and its three lengths
-- are those of the path points that it has written, pair by pair; the length of the cuts, added up along the path, is that of the plate, added up contour by contour
-- from the input; and the touches, which are among the jumps, add nothing. The two sums of the cuts are equal of every accepted plate, however long its path is. Definitions
-- only; the last two are what is to be proved.
use Rattle.std.specs.Prelude.{◌≡◌, List, ℕ, ◌*◌, take, Float}
use Rattle.rules.specs.HandedOver.{Plate, gives}
use Rattle.rules.specs.Retrace.{retrace}
use Rattle.rules.specs.Lengths.{plate_length, is_touch, length_along}
use Rattle.rules.specs.Calls.{totals, path_totals, retrace_call}
use Rattle.statement.specs.HowNear.{IsAccepted}
use Rattle.rules.specs.declared.Totals.{Totals}

-- of a path slice and a marks slice, which hold c's path points and nothing else
pub record Quoted (p : Plate) (c : Totals) (path : List Float) (ms : List ℕ) : Type 0 where
  pub along : c ≡ totals c.points path ms
  pub by_contours : c.cut_length ≡ plate_length p
  pub touches : length_along is_touch c.points path ms ≡ 0

-- of what the retrace call finishes
unfoldable pub LengthStatement : Type 0
LengthStatement =
    (p : Plate) (path : List Float) (ms : List ℕ) (w d : ℕ) (c : Totals) →
    let o = retrace_call p path ms w d in
    o.answer ≡ gives c →
    Quoted p c (take (2 * c.points) o.path) (take (2 * c.points) o.marks)

-- of the path that the rules give an accepted plate, however long it is
unfoldable pub LengthsByRules : Type 0
LengthsByRules = (p : Plate) → IsAccepted p → (path_totals p (retrace p)).cut_length ≡ plate_length p
