-- `run_grid_c::query_all`: the answers for the vertices before v are written.
use Rattle.std.proofs.Common.{◌/◌, length}
use Rattle.rules.specs.HandedOver.{at}
use Rattle.rules.specs.SamplesAndCache.{ask_path}
use Rattle.history.specs.History.{points}
use Rattle.run_grid_c.specs.Results.{place_number, squared_number}
use Rattle.run_grid_c.proofs.WriteLoop.{WrittenBefore}
use Rattle.run_grid_c.proofs.query_all.Given as goal

abbrev pub invariant-loop-v : goal.invariant-loop-v
invariant-loop-v l =
    WrittenBefore (λ u. place_number (ask_path (at l.points) l.g.spatial (points l.path (length l.path / 2)) u)) l.n l.initial.places l.places l.v
    × WrittenBefore (λ u. squared_number (ask_path (at l.points) l.g.spatial (points l.path (length l.path / 2)) u)) l.n l.initial.squared l.squared l.v
