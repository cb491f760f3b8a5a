-- The start is drawn, the caches are seeded, and the path is joined behind it.
use mathlib.Core.Path.{◌≡◌, refl, sym, ap, ◌∙◌}
use mathlib.Core.List.{[]}
use native.Mathlib.Omega.{arith}
use Rattle.rules.specs.HandedOver.{Plate, plate, plate_of}
use Rattle.rules.specs.Retrace.{entry_of, begin}
use Rattle.plate_laws.specs.Steps.{entry_in}
use Rattle.start.specs.OrientedContours.{oriented_of}
use Rattle.contours.specs.ContourOf.{contour_of}
use Rattle.grid.specs.declared.Grid.{Grid}
use Rattle.history.specs.CutPath.{points_cut}
use Rattle.path_points.specs.Wrote.{wrote_none}
use Rattle.path_points.specs.WriterState.{reached}
use Rattle.joining.specs.JoinState.{JoinState}
use Rattle.caches.specs.CutPath.{querying_cut}
use Rattle.path_points.specs.WriterCalls.{long}
use Rattle.joining.proofs.JoinStart.{seeded_first, StartDrawn, start_full, start_querying, start_joining, start_wrote, retrace_is, reached_err}
use Rattle.joining.proofs.join_from.Goals as goal
use Rattle.joining.proofs.join_from.Goals.{After-emit, After-seed_caches}

-- the start was emitted, if only as much as there was room for
begun : (c : After-emit) (p : Plate) → p.points ≡ c.args.frame.now.points.now → p.lengths ≡ c.args.checked.now.input.lengths.now →
    StartDrawn c.args.frame.now.points.now p c.args.frame.now.grid.spatial c.args.frame.now.layout c.args.writer.now.room (oriented_of c.args.s)
    c.args.distances.now c.args.writer.now.work.now (reached c.args.writer.now.room c.emit.new.writer.count c.emit.result)
    c.args.writer.now.path.now c.emit.new.writer.path.now c.args.writer.now.marks.now c.emit.new.writer.marks.now c.emit.new.writer.work.now
unfolding contour_of oriented_of
begun c p e f =
    let up = c.requires.set_up in
    let emitted = c.emit.ensures in
    let before = c.args.writer.now in
    let xs = c.args.frame.now.points.now in
    record {
      start = up.start;
      prepared = up.prepared;
      flags = up.flags;
      lines = up.lines p e f;
      pen = rw c.requires.grid at emitted.written.pen;
      kept = emitted.written.kept;
      same = emitted.written.same_work;
      wrote =
          start_wrote (oriented_of c.args.s) c.first_end.ensures
          (emitted.adds [] before.path.now before.marks.now
          (rw c.requires.none (wrote_none xs before.room before.path.now before.marks.now before.pen.path_room before.pen.marks_room)));
    }

-- the caches were seeded
joins : (c : After-seed_caches) (p : Plate) → p.points ≡ c.args.frame.now.points.now → p.lengths ≡ c.args.checked.now.input.lengths.now →
    JoinState p c.args.frame.now.grid.spatial c.args.frame.now.layout c.args.writer.now.room 0 c.emit.new.writer.count c.emit.new.writer.path.now
    c.emit.new.writer.marks.now c.seed_caches.new.work c.seed_caches.new.distances
    (seeded_first p c.args.frame.now.grid.spatial (oriented_of c.args.s)) (begin (oriented_of c.args.s)) c.args.writer.now.path.now
    c.args.writer.now.marks.now
joins c p e f =
    let seed = c.seed_caches in
    let w = c.emit.new.writer in
    let emitted = c.in_ok-emit.ensures in
    let far = long w (omega (arith, emitted.written.fits, emitted.same.room)) in
    start_joining (rw c.in_ok-emit.was at (begun (goal.at.After-seed_caches c).After-emit p e f)) e
    emitted.written.fits _ _ (rw (points_cut w.path.now w.count far) at seed.ensures.changed) seed.ensures.below seed.ensures.above seed.auto.distances
    seed.auto.work

pub first_end-requires : goal.first_end-requires
unfolding contour_of
first_end-requires c = c.requires.placed.small

pub emit-requires : goal.emit-requires
unfolding contour_of oriented_of entry_of
emit-requires c =
    let r = c.requires in
    let v = c.first_end.ensures in
    let l = entry_in (oriented_of c.args.s) in
    let accepted = c.args.checked.now.accepted in
    record {
      fits = omega (arith, r.none);
      low = omega (arith, v);
      high = omega (arith, v, l);
      within = r.placed.small;
      held = rw r.set_up.points (omega (arith, r.placed.inside, accepted.counted));
    }

pub returns-in_err-emit-clause-wrote : goal.returns-in_err-emit-clause-wrote
returns-in_err-emit-clause-wrote c p e f y =
    let up = c.requires.set_up in
    rw (← up.points, c.requires.grid, reached_err _ _ _ c.from_residual.ensures.0)
    (start_full
    (rw c.in_err-emit.was at (begun (goal.at.returns-in_err-emit-clause-wrote c).After-emit p (e ∙ sym up.points) f)) (omega arith))

pub seed_caches-requires : goal.seed_caches-requires
unfolding plate
seed_caches-requires c =
    let e = c.in_ok-emit.ensures in
    querying_cut (long c.emit.new.writer (omega (arith, e.written.fits, e.same.room)))
    (start_querying
    (rw c.in_ok-emit.was
    at (begun (goal.at.seed_caches-requires c).After-emit (plate_of c.args.checked.now.input) (sym c.requires.set_up.points) refl))
    e.written.fits)

pub join_waiting-requires : goal.join_waiting-requires
unfolding plate
join_waiting-requires c =
    let p = plate_of c.args.checked.now.input in
    let up = c.requires.set_up in
    let same = c.in_ok-emit.ensures.same in
    let s = oriented_of c.args.s in
    record {
      grid = ap (λ (z : Grid). z.spatial) same.grid ∙ c.requires.grid;
      joining =
          rw same.room (
            p,
            seeded_first p c.args.frame.now.grid.spatial s,
            begin s,
            c.args.writer.now.path.now,
            c.args.writer.now.marks.now,
            sym up.points,
            refl,
            omega (arith, up.many, c.args.checked.now.layered),
            joins (goal.at.join_waiting-requires c).After-seed_caches p (sym up.points) refl,
          );
    }

pub returns-clause-wrote : goal.returns-clause-wrote
returns-clause-wrote c p e f y =
    let up = c.requires.set_up in
    let s = oriented_of c.args.s in
    let g = c.args.frame.now.grid.spatial in
    rw (← up.points, c.requires.grid, ← retrace_is p g s)
    ((rw c.in_ok-emit.ensures.same.room at c.join_waiting.ensures.joined) p _ _ _ _ (e ∙ sym up.points) y
    (joins (goal.at.returns-clause-wrote c).After-seed_caches p (e ∙ sym up.points) f))
