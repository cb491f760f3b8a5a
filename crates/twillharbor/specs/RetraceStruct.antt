-- What the retrace calls promise of the struct r that they answer and of the slices: path, ms, work and ds are those before, path', ms', work' and ds' those
-- afterwards. Definitions only.
use Rattle.std.specs.Prelude.{◌≡◌, List, ℕ, ◌*◌, ◌≤◌, Float, length, take}
use Rattle.rules.specs.HandedOver.{Plate, WorkKept}
use Rattle.rules.specs.Calls.{retrace_call}
use Rattle.statement.specs.PathStatement.{Divides, NeverFall}
use Rattle.rules.specs.Contours.{contour_count}
use Rattle.statement.specs.HowNear.{LandingsNear}
use Rattle.statement.specs.Quotation.{Quoted}
use Rattle.contour_recovery.specs.ContourRecovery.{GivesBack}
use Rattle.results.specs.Results.{retrace_result, totals_of, written_of}
use Rattle.results.specs.declared.RetraceResult.{RetraceResult}

pub record Retraced (p : Plate) (path : List Float) (ms work : List ℕ) (ds path' : List Float) (ms' work' : List ℕ) (ds' : List Float) (r : RetraceResult) : Type 0 where
  -- the answer and the slices are those of the rules
  pub answer : r ≡ retrace_result (retrace_call p path ms (length work) (length ds)).answer
  pub path_is : path' ≡ (retrace_call p path ms (length work) (length ds)).path
  pub marks_are : ms' ≡ (retrace_call p path ms (length work) (length ds)).marks
  pub work_kept : WorkKept (retrace_call p path ms (length work) (length ds)).answer work work'
  pub distances_kept : WorkKept (retrace_call p path ms (length work) (length ds)).answer ds ds'
  -- with the number 0, where a contour holds a point, what was written divides as the path statement says; and along it the layers never fall
  pub divides : r.number ≡ 0 → 1 ≤ contour_count p → Divides p (totals_of r) (take (2 * r.points) path') (take (2 * r.points) ms')
  pub never_fall : r.number ≡ 0 → NeverFall p r.points (take (2 * r.points) ms')
  -- its counts and lengths are those of what was written, and its cuts are as long as the plate's contours
  pub quoted : r.number ≡ 0 → Quoted p (totals_of r) (take (2 * r.points) path') (take (2 * r.points) ms')
  -- the plate's points and contours come back from it
  pub gives_back : r.number ≡ 0 → GivesBack p r.points (take (2 * r.points) path') (take (2 * r.points) ms')
  -- in all that was written, with the number 0 or 6, the landings are near
  pub near : LandingsNear path' ms' (written_of r)
