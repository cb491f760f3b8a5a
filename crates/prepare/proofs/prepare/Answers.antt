-- `prepare::prepare` meets its contract. Assumes nothing.
use Rattle.std.proofs.Common.{arith}
use Rattle.prepare.proofs.Begins.{begun}
use Rattle.prepare.proofs.prepare.Goals as goal

pub returns : goal.returns
returns c =
    let p = c.requires in
    let e = c.chain_samples.ensures in
    let r =
    begun
    (record {
      accepted = p.accepted;
      plated = p.plated;
      contours = p.contours;
      flags = c.clear.ensures;
      heads = c.clear-2.ensures;
      marked = c.mark_part.ensures;
      all = c.begin_waiting.ensures;
      reset = c.reset_caches.ensures;
      chained = e.chained;
      above = e.above;
      below = e.below;
    })
    (omega arith) (omega arith) in
    record { prepared = r.prepared; held = r.held; flags = r.flags; kept = r.kept; waits = r.waits }
