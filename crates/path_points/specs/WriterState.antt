-- A path that is written: what its writer's slices hold before a call that adds to it, and after. Definitions only.
use Rattle.std.specs.Prelude.{◌≡◌, List, ℕ, ◌+◌, ◌≤◌, Float, length, Result, Ok, Err, IfOk}
use Rattle.rules.specs.Limits.{most_cells}
use Rattle.rules.specs.Marks.{Step}
use Rattle.work_layout.specs.Parts.{KeptFrom}
use Rattle.path_points.specs.Pen.{Pen, Grows}
use Rattle.path_points.specs.declared.Full.{Full}
use Rattle.path_points.specs.declared.PathWriter.{PathWriter}

-- how many path points there are, or room + 1 where they are more than there is room for
abbrev pub reached : ℕ → ℕ → Result (Unit {0}) Full → ℕ
reached room count (Ok _) = count
reached room count (Err _) = room + 1

-- a writer keeps its grid, its room and its slices
pub record SameWriter (w w' : PathWriter) : Type 0 where
  pub grid : w'.grid ≡ w.grid
  pub room : w'.room ≡ w.room
  pub path : w'.path.ghost_name ≡ w.path.ghost_name
  pub marks : w'.marks.ghost_name ≡ w.marks.ghost_name
  pub work : w'.work.ghost_name ≡ w.work.ghost_name

-- what is true of it after more was written, if only as much as there was room for
pub record WriterAfter (w w' : PathWriter) (r : Result (Unit {0}) Full) : Type 0 where
  pub pen : Pen w.grid.spatial w.room (reached w.room w'.count r) w'.path.now w'.marks.now w'.work.now
  pub fits : IfOk r (λ _. w'.count ≤ w.room)
  pub more : w.count ≤ reached w.room w'.count r
  pub kept : KeptFrom (most_cells + w.room) w.work.now w'.work.now
  pub same_path : length w'.path.now ≡ length w.path.now
  pub same_marks : length w'.marks.now ≡ length w.marks.now
  pub same_work : length w'.work.now ≡ length w.work.now

-- whatever steps its slices hold before, they hold f of them after
abbrev pub Adds : List Float → PathWriter → PathWriter → Result (Unit {0}) Full → (List Step → List Step) → Type 0
Adds xs w w' r f = Grows xs w.room w.count (reached w.room w'.count r) w.path.now w'.path.now w.marks.now w'.marks.now f
