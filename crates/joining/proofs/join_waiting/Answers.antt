-- The contour that is chosen enters and is settled; the path is the rules' where nobody waits, and where it is full.
use native.Mathlib.Omega.{arith}
use Rattle.plate_laws.specs.WaitingContours.{update_caching}
use Rattle.history.specs.CutPath.{points_cut}
use Rattle.caches.specs.CutPath.{querying_cut}
use Rattle.path_points.specs.WriterCalls.{long}
use Rattle.joining.proofs.FlagsKept.{pen_still}
use Rattle.joining.proofs.WaitsNoMore.{settled_lines}
use Rattle.joining.proofs.LoopByWriter.{turn_apart, turn_fits, turn_some, turn_ends, turn_within, turn_left, turn_same, turn_full, turn_querying, turn_flags, turn_next}
use Rattle.joining.proofs.join_waiting.Goals as goal

pub enter-requires : goal.enter-requires
enter-requires c =
    let h = c.loop-candidate.invariant in
    let n = turn_within h c.in-Some.candidate (rw c.work.ensures at c.in-Some.ensures) in
    record {
      fits = omega (arith, turn_fits h, h.same.room);
      some = turn_some h;
      low = n.low;
      high = n.high;
      within = n.small;
      held = n.long;
    }

pub returns-in_err-enter-clause-joined : goal.returns-in_err-enter-clause-joined
returns-in_err-enter-clause-joined c =
    let e = c.in_err-enter in
    turn_full c.loop-candidate.invariant c.in-Some.candidate (rw c.work.ensures at c.in-Some.ensures)
    e.ensures.same e.ensures.written e.ensures.adds _ c.from_residual.ensures.0

pub settle-requires : goal.settle-requires
settle-requires c =
    let h = c.loop-candidate.invariant in
    let r = c.in-Some.candidate in
    let s = rw c.work.ensures at c.in-Some.ensures in
    let e = c.in_ok-enter in
    let n = turn_within h r s in
    record {
      querying =
          querying_cut (long c.enter.new.writer (omega (arith, e.ensures.written.fits, e.ensures.same.room)))
          (turn_querying h r s e.ensures.same e.ensures.written e.ensures.adds (rw h.same.room at e.ensures.written.fits));
      number = n.number;
      within = n.points;
      flags = turn_flags h r s e.ensures.same e.ensures.written e.ensures.adds (rw h.same.room at e.ensures.written.fits);
    }

pub invariant_of-writer : goal.invariant_of-writer
invariant_of-writer c =
    let h = c.loop-candidate.invariant in
    let w = c.enter.new.writer in
    let t = c.settle in
    record {
      pen =
          pen_still w.pen t.ensures.kept
          (omega (arith, turn_apart h, h.same.room, c.in_ok-enter.ensures.same.room)) t.auto.work;
    }

pub loop-candidate-smaller : goal.loop-candidate-smaller
loop-candidate-smaller c =
    omega (arith, turn_left c.loop-candidate.invariant c.in-Some.candidate (rw c.work.ensures at c.in-Some.ensures))

pub loop-candidate-preserved : goal.loop-candidate-preserved
loop-candidate-preserved c =
    let h = c.loop-candidate.invariant in
    let r = c.in-Some.candidate in
    let s = rw c.work.ensures at c.in-Some.ensures in
    let e = c.in_ok-enter.ensures in
    let w = c.enter.new.writer in
    let fits = rw h.same.room at e.written.fits in
    let query = turn_querying h r s e.same e.written e.adds fits in
    let t = c.settle in
    let n = turn_within h r s in
    let same = turn_same h r s e.same e.written e.adds in
    record {
      grid = h.grid;
      same = record { grid = same.grid; room = same.room; path = same.path; marks = same.marks; work = same.work };
      looping =
          turn_next h r s e.same e.written e.adds fits t.auto.work t.ensures.prepared t.ensures.kept
          t.ensures.flags
          (settled_lines query n.number _ _ _ (λ p d. (update_caching p _ _ _).contour d)
          (rw (points_cut w.path.now w.count (long w (omega (arith, e.written.fits, e.same.room)))) at t.ensures.changed) t.ensures.above);
    }

pub returns-clause-joined : goal.returns-clause-joined
returns-clause-joined c = turn_ends c.loop-candidate.invariant (rw c.work.ensures at c.in_default.ensures)
