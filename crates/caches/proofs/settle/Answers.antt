-- `caches::settle`: what the update asks for, and what it leaves.
use Rattle.std.proofs.Common.{arith}
use Rattle.caches.specs.OneStopped.{stopped_flag, stopped_querying, settled_prepared}
use Rattle.caches.proofs.settle.Goals as goal

pub update_nearby_caches-requires : goal.update_nearby_caches-requires
update_nearby_caches-requires c =
    let r = c.requires in
    rw c.stop_waiting.ensures
    (record {
      querying = stopped_querying r.querying r.number;
      within = r.within;
      flags = λ k l. omega (arith, stopped_flag r.querying r.number k l, r.flags k l);
    })

pub returns-clause-prepared : goal.returns-clause-prepared
returns-clause-prepared c =
    let u = c.update_nearby_caches in
    settled_prepared c.requires.querying c.requires.number (rw c.stop_waiting.ensures at u.ensures.above) u.auto.distances (rw c.stop_waiting.ensures at u.auto.work)
