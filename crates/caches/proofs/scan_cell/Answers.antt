-- `caches::scan_cell` meets its contract. Assumes nothing.
use Rattle.std.proofs.Common.{arith}
use Rattle.caches.proofs.Reaches.{still_querying}
use Rattle.caches.proofs.Scans.{scan_in, scan_step, scan_less, scan_end}
use Rattle.caches.proofs.scan_cell.Goals as goal

pub try_sample-requires : goal.try_sample-requires
try_sample-requires c =
    let p = c.requires in
    let i = c.loop-cursor.invariant in
    record {
      querying = still_querying p.querying.prepared.plated.laid i.reached p.querying;
      vertex = scan_in p.querying.prepared p.cell i c.loop-cursor-test.true;
    }

pub bounds-work-n : goal.bounds-work-n
bounds-work-n c =
    let p = c.requires in
    let i = c.loop-cursor.invariant in
    omega (
      arith,
      scan_in p.querying.prepared p.cell i c.loop-cursor-test.true,
      p.querying.prepared.plated.laid,
      c.try_sample.auto.work,
      i.reached.same_w,
    )

pub loop-cursor-smaller : goal.loop-cursor-smaller
loop-cursor-smaller c =
    let p = c.requires in
    scan_less p.querying.prepared p.cell c.loop-cursor.invariant c.loop-cursor-test.true c.try_sample.ensures

pub loop-cursor-preserved : goal.loop-cursor-preserved
loop-cursor-preserved c =
    let p = c.requires in
    scan_step p.querying.prepared p.cell c.loop-cursor.invariant c.loop-cursor-test.true c.try_sample.ensures
    c.try_sample.auto.work c.try_sample.auto.distances

pub returns : goal.returns
returns c =
    let p = c.requires in
    scan_end p.querying.prepared p.cell c.loop-cursor.invariant c.loop-cursor-test.false
