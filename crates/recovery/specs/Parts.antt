-- The rows that the parts of the call test. Definitions only.
use Rattle.std.specs.Prelude.{List, [], ◌∷◌, ℕ, ◌*◌, ◌/◌, Float, length}
use Rattle.rules.specs.HandedOver.{RefusalRow, off_the_plate, work_short}
use Rattle.rules.specs.Marks.{vertices_after}
use Rattle.statement.specs.PathCheck.{miscounted_path}
use Rattle.contour_recovery.specs.ContourRecovery.{marks_inconsistent, vertex_missing}

-- refusals 3, 4 and 5; w is the length of the work slice
abbrev pub path_rows : List Float → List ℕ → ℕ → List RefusalRow
path_rows path ms w = miscounted_path path ms ∷ off_the_plate path ∷ work_short w (4 * (length path / 2)) 0 ∷ []

-- refusal 10
abbrev pub mark_rows : List Float → List ℕ → List RefusalRow
mark_rows path ms = marks_inconsistent path ms (vertices_after [] ms) (length path / 2) ∷ []

-- refusal 11
abbrev pub vertex_rows : List ℕ → List ℕ → List RefusalRow
vertex_rows ms vs = vertex_missing ms vs (length vs) ∷ []
