-- `run_grid_c::insert_run`: the history is ready with the places before k, and nothing behind the last link is altered.
use Rattle.std.proofs.Common.{◌≡◌, ◌+◌, ◌/◌, ◌≤◌, length}
use Rattle.rules.specs.Limits.{most_cells}
use Rattle.work_layout.specs.Parts.{KeptFrom}
use Rattle.history.specs.History.{Ready}
use Rattle.run_grid_c.proofs.insert_run.Given as goal

abbrev pub invariant-loop-k : goal.invariant-loop-k
invariant-loop-k l =
    Ready l.g.spatial l.path l.work l.k × (l.k ≤ length l.path / 2) × (length l.work ≡ length l.initial.work) × KeptFrom (most_cells + length l.path / 2) l.initial.work l.work
