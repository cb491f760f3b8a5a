-- The invariant of `caches::scan_listed`. Assumes nothing.
use Rattle.neighbours.specs.CellList.{list_of}
use Rattle.caches.specs.FrameCaches.{asked_by}
use Rattle.caches.proofs.Walks.{CellsScanned}
use Rattle.caches.proofs.scan_listed.Given as goal

abbrev pub invariant-loop-i : goal.invariant-loop-i
invariant-loop-i l =
    let f = l.frame in
    CellsScanned f.points.now f.grid.spatial f.layout (asked_by f l.path) (list_of f.layout l.fn.work l.cells) l.fn.distances l.fn.work l.distances l.work l.i
