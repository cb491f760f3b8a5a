-- The invariant of `caches::scan_cell`; the cursor comes nearer to the last vertex. Assumes nothing.
use Rattle.caches.specs.FrameCaches.{asked_by}
use Rattle.caches.proofs.Scans.{Scan, ahead}
use Rattle.caches.proofs.scan_cell.Given as goal

abbrev pub invariant-loop-cursor : goal.invariant-loop-cursor
invariant-loop-cursor l =
    let f = l.frame in
    Scan f.points.now f.grid.spatial f.layout (asked_by f l.path) l.cell l.fn.distances l.fn.work l.distances l.work l.cursor

abbrev pub decreases-loop-cursor : goal.decreases-loop-cursor
decreases-loop-cursor l = ahead l.frame.layout.points l.cursor
