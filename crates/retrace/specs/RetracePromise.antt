-- What the retrace call promises of its answer a and of the slices: path, ms, work and ds are those before, path', ms', work' and ds' those afterwards.
-- Definitions only.
use Rattle.std.specs.Prelude.{◌≡◌, List, ℕ, ◌*◌, ◌≤◌, Float, length, take}
use Rattle.rules.specs.HandedOver.{Plate, Answer, gives, WorkKept}
use Rattle.rules.specs.Calls.{retrace_call}
use Rattle.rules.specs.Contours.{contour_count}
use Rattle.rules.specs.declared.Totals.{Totals}
use Rattle.statement.specs.PathStatement.{Divides, NeverFall}
use Rattle.statement.specs.HowNear.{LandingsNear, written_points}
use Rattle.statement.specs.Quotation.{Quoted}

pub record RetracePromise (p : Plate) (path : List Float) (ms work : List ℕ) (ds : List Float) (a : Answer Totals) (path' : List Float) (ms' work' : List ℕ)
    (ds' : List Float) : Type 0 where
  -- the answer and the slices are those of the rules
  pub answer : a ≡ (retrace_call p path ms (length work) (length ds)).answer
  pub path_is : path' ≡ (retrace_call p path ms (length work) (length ds)).path
  pub marks_are : ms' ≡ (retrace_call p path ms (length work) (length ds)).marks
  pub work_kept : WorkKept (retrace_call p path ms (length work) (length ds)).answer work work'
  pub distances_kept : WorkKept (retrace_call p path ms (length work) (length ds)).answer ds ds'
  -- what a result has written divides as the path statement says, where there is a contour; its layers never fall, and its lengths are what is told
  pub divides : (n : Totals) → a ≡ gives n → 1 ≤ contour_count p → Divides p n (take (2 * n.points) path') (take (2 * n.points) ms')
  pub never_fall : (n : Totals) → a ≡ gives n → NeverFall p n.points (take (2 * n.points) ms')
  pub quoted : (n : Totals) → a ≡ gives n → Quoted p n (take (2 * n.points) path') (take (2 * n.points) ms')
  -- what has been written, by a result or before refusal 6, has near landings
  pub near : LandingsNear path' ms' (written_points a)
