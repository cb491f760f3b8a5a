-- `caches::scan_listed` meets its contract. Assumes nothing.
use Rattle.std.proofs.Common.{◌+◌, sym, ◌∙◌, arith}
use Rattle.caches.proofs.Reaches.{still_querying}
use Rattle.caches.proofs.Walks.{walked_step, walked_end, list_of_length, list_of_at}
use Rattle.caches.proofs.scan_listed.Goals as goal

pub scan_cell-requires : goal.scan_cell-requires
scan_cell-requires c =
    let p = c.requires in
    let laid = p.querying.prepared.plated.laid in
    let l = c.loop-i in
    record {
      querying = still_querying laid l.invariant.reached p.querying;
      cell = omega (arith, l.invariant.reached.below (c.args.frame.now.layout.list + l.i) (omega (arith, laid, p.few)), p.inside l.i c.loop-i-test.true);
    }

pub loop-i-preserved : goal.loop-i-preserved
loop-i-preserved c =
    let a = c.args in
    let p = c.requires in
    let laid = p.querying.prepared.plated.laid in
    let l = c.loop-i in
    let n = list_of_length a.frame.now.layout a.work.now a.cells (omega (arith, laid, p.few)) in
    walked_step laid l.invariant (omega (arith, n))
    (l.invariant.reached.below (a.frame.now.layout.list + l.i) (omega (arith, laid, p.few)) ∙ sym (list_of_at a.frame.now.layout a.work.now a.cells l.i c.loop-i-test.true))
    c.scan_cell.ensures c.scan_cell.auto.work c.scan_cell.auto.distances

pub returns : goal.returns
returns c =
    let a = c.args in
    let p = c.requires in
    let laid = p.querying.prepared.plated.laid in
    let n = list_of_length a.frame.now.layout a.work.now a.cells (omega (arith, laid, p.few)) in
    walked_end laid c.loop-i.invariant (omega (arith, n, c.loop-i-test.false))
