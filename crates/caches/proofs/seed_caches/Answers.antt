-- `caches::seed_caches` meets its contract. Assumes nothing.
use Rattle.std.proofs.Common.{arith}
use Rattle.caches.proofs.Changes.{seeded_all}
use Rattle.caches.proofs.Reaches.{still_querying}
use Rattle.caches.proofs.Sweeps.{sweep_step, sweep_end}
use Rattle.caches.proofs.seed_caches.Goals as goal

pub try_sample-requires : goal.try_sample-requires
try_sample-requires c =
    let laid = c.requires.prepared.plated.laid in
    record {
      querying = still_querying laid c.loop-v.invariant.reached c.requires;
      vertex = omega (arith, c.loop-v-test.true);
    }

pub loop-v-preserved : goal.loop-v-preserved
loop-v-preserved c =
    sweep_step c.requires.prepared.plated.laid c.loop-v.invariant (omega (arith, c.loop-v-test.true)) c.try_sample.ensures
    c.try_sample.auto.work c.try_sample.auto.distances

pub returns : goal.returns
returns c =
    let laid = c.requires.prepared.plated.laid in
    let m = sweep_end laid c.loop-v.invariant (omega (arith, c.loop-v-test.false)) in
    record { changed = seeded_all _ _ _ _ _ laid _ _ _ m; below = m.below; above = m.above }
