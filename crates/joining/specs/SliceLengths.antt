-- What is lent for a path of at most `room` points is long enough. Definitions only.
use Rattle.std.specs.Prelude.{List, ℕ, ◌+◌, ◌*◌, ◌≤◌, Float, length}
use Rattle.rules.specs.Limits.{fixed_work, most_path_points}
use Rattle.rules.specs.Tools.{sum}

pub record LongEnough (room : ℕ) (lengths : List ℕ) (path : List Float) (ms work : List ℕ) (ds : List Float) : Type 0 where
  pub small : room ≤ most_path_points
  pub path_room : 2 * room ≤ length path
  pub marks_room : 2 * room ≤ length ms
  pub work_room : room + 4 * sum lengths + 8 * length lengths + fixed_work ≤ length work
  pub distances_room : length lengths ≤ length ds
