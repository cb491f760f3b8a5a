-- A plate no contour of which holds a point: its path is empty, and what the retrace call counts and measures is 0, jumps and touches too. Assumes nothing.
use Rattle.std.specs.Prelude.{◌≡◌, []}
use Rattle.std.proofs.Common.{ap, ◌∙◌}
use Rattle.rules.specs.Tools.{sum}
use Rattle.rules.specs.HandedOver.{Plate, contours}
use Rattle.rules.specs.Retrace.{retrace_of, retrace}
use Rattle.rules.specs.Marks.{coordinates, marks, count_marks, marks_of, vertices}
use Rattle.rules.specs.Lengths.{length_along}
use Rattle.rules.specs.Calls.{totals, path_totals}
use Rattle.statement.specs.PathStatement.{BlankStatement}
use Rattle.rules.specs.Contours.{contour_count}
use Rattle.plate_laws.specs.Lists.{empty}
use Rattle.plate_laws.specs.OrderTotals.{no_start}
use Rattle.path.specs.Theorem.{retrace_gives}

pub retrace_empty : (p : Plate) → contours p ≡ [] → retrace p ≡ []
unfolding retrace retrace_of
retrace_empty p e = rw (no_start p e)

pub blank_statement : BlankStatement
unfolding BlankStatement contour_count totals path_totals vertices coordinates marks marks_of count_marks length_along sum
blank_statement p path ms w d c e h =
    let (accepted, part, counted) = retrace_gives p path ms w d c e in
    counted ∙ ap (path_totals p) (retrace_empty p (empty (contours p) h))
