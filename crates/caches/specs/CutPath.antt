-- A query may ask by the slice of the path's points alone. Assumes nothing.
use Rattle.std.specs.Prelude.{List, ℕ, ◌*◌, ◌/◌, ◌≤◌, Float, length, take}
use Rattle.std.proofs.Common.{arith}
use Rattle.rules.specs.declared.SpatialGrid.{SpatialGrid}
use Rattle.work_layout.specs.declared.Layout.{Layout}
use Rattle.history.specs.CutPath.{count_cut, ready_cut}
use Rattle.caches.specs.QueryNeeds.{Querying}

pub querying_cut : {xs : List Float} {g : SpatialGrid} {lay : Layout} {ds : List Float} {w : List ℕ} {path : List Float} {count : ℕ} →
    2 * count ≤ length path → Querying xs g lay ds w path count →
    Querying xs g lay ds w (take (2 * count) path) (length (take (2 * count) path) / 2)
querying_cut {g = g} {w = w} {path = path} {count = count} h q =
    rw (count_cut path count h)
    (record { prepared = q.prepared; ready = ready_cut path count h g w count (omega arith) q.ready; apart = q.apart })
