-- The vertices of a run of the code. Definitions only.
use Rattle.std.specs.Prelude.{List, ℕ}
use Rattle.straight.specs.Runs.{run}
use Rattle.straight.specs.declared.ContourRun.{ContourRun}

abbrev pub vertices : ContourRun → List ℕ
vertices r = run r.reversed r.first.0 r.size
