-- `run_caches_c::caches_around` meets its contract, stage by stage. Assumes nothing.
use Rattle.std.proofs.Common.{◌*◌, ◌≤◌, length, arith}
use Rattle.rules.specs.SamplesAndCache.{waiting, seed}
use Rattle.plate_laws.specs.Lists.{all_take}
use Rattle.plate_laws.specs.FiniteDistances.{OnPlate}
use Rattle.plate_laws.specs.WaitingContours.{seed_caching}
use Rattle.history.specs.History.{points}
use Rattle.history.specs.CutPath.{count_cut, points_cut, ready_cut}
use Rattle.run_caches_c.specs.Stages.{Stage}
use Rattle.run_caches_c.proofs.FirstStage.{first_stage}
use Rattle.caches.specs.CutPath.{querying_cut}
use Rattle.run_caches_c.proofs.StageLaws.{grown, changed, emitted}
use Rattle.run_caches_c.proofs.LastStage.{settled, others_held}
use Rattle.run_caches_c.proofs.caches_around.Goals as goal
use Rattle.run_caches_c.proofs.caches_around.Goals.{After-insert_run, After-seed_caches, After-insert_run-2}

-- the first points are on the path
inserted : (c : After-insert_run) →
    Stage c.args.points.now c.args.lengths.now c.args.grid.spatial c.args.count c.set_up-frame.result.layout c.set_up-frame.new.distances
    c.insert_run.new.work c.args.before (λ p d. waiting p c.args.grid.spatial d)
inserted c =
    let r = c.requires in
    let up = c.set_up-frame.ensures in
    let first =
    first_stage _ _ _ _ c.set_up-frame.result _ _ up.points up.grid up.start up.counted up.many up.prepared up.ready up.flags up.held in
    let i = c.insert_run in
    grown first c.args.before (omega (arith, r.accepted.counted, r.earlier, r.fits)) i.ensures.ready i.ensures.kept r.earlier i.auto.work

-- the caches are seeded
seeded : (c : After-seed_caches) → Stage c.args.points.now c.args.lengths.now c.args.grid.spatial c.args.count c.set_up-frame.result.layout c.set_up-frame.new.distances
    c.insert_run.new.work c.args.before (λ p d. waiting p c.args.grid.spatial d) →
    Stage c.args.points.now c.args.lengths.now c.args.grid.spatial c.args.count c.set_up-frame.result.layout c.seed_caches.new.distances
    c.seed_caches.new.work c.args.before (λ p d. seed p c.args.grid.spatial (points c.args.points.now c.args.before) (waiting p c.args.grid.spatial d))
seeded c one =
    let r = c.requires in
    let up = c.set_up-frame.ensures in
    let s = c.seed_caches in
    let same = points_cut c.args.points.now c.args.before (omega (arith, r.accepted.counted, r.earlier, r.fits)) in
    changed one (λ p d. seed p c.args.grid.spatial (points c.args.points.now c.args.before) d)
    (λ p d. (seed_caching p _ _).contour d) (rw (up.points, up.grid, same) at s.ensures.changed) s.ensures.below s.ensures.above s.auto.distances s.auto.work

-- further points are on the path
longer : (c : After-insert_run-2) → Stage c.args.points.now c.args.lengths.now c.args.grid.spatial c.args.count c.set_up-frame.result.layout c.seed_caches.new.distances
    c.seed_caches.new.work c.args.before (λ p d. seed p c.args.grid.spatial (points c.args.points.now c.args.before) (waiting p c.args.grid.spatial d)) →
    Stage c.args.points.now c.args.lengths.now c.args.grid.spatial c.args.count c.set_up-frame.result.layout c.seed_caches.new.distances
    c.insert_run-2.new.work c.args.count (λ p d. seed p c.args.grid.spatial (points c.args.points.now c.args.before) (waiting p c.args.grid.spatial d))
longer c two =
    let r = c.requires in
    let i = c.insert_run-2 in
    grown two c.args.count (omega (arith, r.accepted.counted, r.fits)) i.ensures.ready i.ensures.kept (omega arith) i.auto.work

pub seed_caches-requires : goal.seed_caches-requires
seed_caches-requires c =
    let r = c.requires in
    let up = c.set_up-frame.ensures in
    rw (up.points, up.grid)
    (querying_cut (omega (arith, r.accepted.counted, r.earlier, r.fits)) (inserted (goal.at.seed_caches-requires c).After-insert_run).querying)

pub insert_run-requires-2 : goal.insert_run-requires-2
insert_run-requires-2 c =
    let r = c.requires in
    let h = goal.at.insert_run-requires-2 c in
    let xs = c.args.points.now in
    let long : 2 * c.args.count ≤ length xs = omega (arith, r.accepted.counted, r.fits) in
    let n = count_cut xs c.args.count long in
    let two = seeded h.After-seed_caches (inserted h.After-insert_run) in
    record {
      on_plate = all_take OnPlate (2 * c.args.count) xs r.accepted.on_plate;
      few = omega (arith, n, r.accepted.points, r.fits);
      room = omega (arith, n, r.accepted.points, r.fits, r.work_room, c.seed_caches.auto.work, c.insert_run.auto.work, c.set_up-frame.auto.work);
      start = omega (arith, n, r.earlier);
      ready = ready_cut xs c.args.count long _ _ c.args.before r.earlier two.querying.ready;
    }

pub settle-requires-clause-querying : goal.settle-requires-clause-querying
settle-requires-clause-querying c =
    let r = c.requires in
    let up = c.set_up-frame.ensures in
    let h = goal.at.settle-requires-clause-querying c in
    let three = longer h.After-insert_run-2 (seeded h.After-seed_caches (inserted h.After-insert_run)) in
    rw (up.points, up.grid) (querying_cut (omega (arith, r.accepted.counted, r.fits)) three.querying)

pub settle-requires-clause-within : goal.settle-requires-clause-within
settle-requires-clause-within c =
    let h = goal.at.settle-requires-clause-within c in
    let three = longer h.After-insert_run-2 (seeded h.After-seed_caches (inserted h.After-insert_run)) in
    let e = emitted three _ c.requires.some in
    let k = c.waiting_contour-c.ensures in
    omega (arith, k.first, k.last, e.2)

pub returns : goal.returns
returns c =
    let r = c.requires in
    let up = c.set_up-frame.ensures in
    let h = goal.at.returns c in
    let three = longer h.After-insert_run-2 (seeded h.After-seed_caches (inserted h.After-insert_run)) in
    let e = emitted three _ r.some in
    let k = c.waiting_contour-c.ensures in
    let same = points_cut c.args.points.now c.args.count (omega (arith, r.accepted.counted, r.fits)) in
    let t = settled three.querying e.0 c.waiting_contour-c.result k.number k.first k.last (rw (up.points, up.grid, same) at c.settle.ensures.changed) in
    record { laid = c.settle.ensures.prepared.plated.laid; contours = three.contours; others = others_held _ _ _ three t }
