-- `caches::set_up`: the history is empty, and preparing leaves it so.
use Rattle.std.proofs.Common.{arith}
use Rattle.history.specs.OneMorePoint.{ready_none, ready_kept}
use Rattle.caches.proofs.set_up.Goals as goal

pub returns-clause-ready : goal.returns-clause-ready
returns-clause-ready c path =
    let k = c.clear in
    let g = c.args.grid.spatial in
    ready_kept g path k.new.work c.prepare.new.work 0 c.laid_out-layout.result.flags
    (ready_none g path k.new.work (omega (arith, k.auto.work, c.requires.work_room)) k.ensures.empty)
    c.prepare.ensures.kept (omega (arith, c.laid_out-layout.ensures.flags)) c.prepare.auto.work
