-- What the call answers, by the way that it takes.
use Rattle.std.proofs.Common.{length, sym, ◌∙◌, arith}
use Rattle.std.proofs.lemmas.Result.{err_from_is_err_and}
use Rattle.std.proofs.Math.Seq.{length-take-le}
use Rattle.recovery_parts.specs.Outcome.{roomy}
use Rattle.recovery.specs.Outcome.{met_unfit, met_inconsistent, met_missing, met_written}
use Rattle.recovery.specs.ReadPath.{marked, long, within, rows_kept, holds, few, short, once}
use Rattle.recovery.specs.Rows.{SoundPath, rows_sound, vertices_pass}
use Rattle.recovery.proofs.recover_contours.Goals as goal
use Rattle.recovery.proofs.recover_contours.Goals.{In_ok-check_slices}

sound : (c : In_ok-check_slices) → SoundPath c.args.path.now c.args.marks.now (length c.args.work.now)
sound c = rows_sound c.args.path.now c.args.marks.now (length c.args.work.now) c.in_ok-check_slices.ensures.passed

pub returns-in_err-check_slices : goal.returns-in_err-check_slices
returns-in_err-check_slices c =
    let a = c.args in
    let p = err_from_is_err_and c.from_residual.result c.from_residual.ensures.1 in
    rw (p.1, p.2) (met_unfit a.path.now a.marks.now a.points.now a.lengths.now (length a.work.now) _ c.in_err-check_slices.ensures.refused a.work.now)

pub read_path-requires-clause-even : goal.read_path-requires-clause-even
read_path-requires-clause-even c = (sound (goal.at.read_path-requires-clause-even c).In_ok-check_slices).even

pub read_path-requires-clause-marks : goal.read_path-requires-clause-marks
read_path-requires-clause-marks c = (sound (goal.at.read_path-requires-clause-marks c).In_ok-check_slices).marks

pub read_path-requires-clause-room : goal.read_path-requires-clause-room
read_path-requires-clause-room c = (sound (goal.at.read_path-requires-clause-room c).In_ok-check_slices).room

pub returns-in_err-landings : goal.returns-in_err-landings
returns-in_err-landings c =
    let a = c.args in
    let p = err_from_is_err_and c.from_residual-in_err-landings.result c.from_residual-in_err-landings.ensures.1 in
    rw (p.1, p.2)
    (met_inconsistent a.path.now a.marks.now a.points.now a.lengths.now (length a.work.now) c.in_ok-check_slices.ensures.passed _ c.in_err-landings.ensures.refused a.work.now _)

pub count_vertices-requires-clause-marks : goal.count_vertices-requires-clause-marks
count_vertices-requires-clause-marks c =
    let s = sound (goal.at.count_vertices-requires-clause-marks c).In_ok-check_slices in
    let read = c.in_ok-landings.ensures in
    omega (arith, s.even, s.marks, long _ _ _ _ s read.vertices read.read)

pub count_vertices-requires-clause-within : goal.count_vertices-requires-clause-within
count_vertices-requires-clause-within c =
    let s = sound (goal.at.count_vertices-requires-clause-within c).In_ok-check_slices in
    let read = c.in_ok-landings.ensures in
    within _ _ _ _ s read.vertices read.read

pub returns-in_err-count : goal.returns-in_err-count
returns-in_err-count c =
    let a = c.args in
    let s = sound (goal.at.returns-in_err-count c).In_ok-check_slices in
    let read = c.in_ok-landings.ensures in
    let p = err_from_is_err_and c.from_residual-in_err-count.result c.from_residual-in_err-count.ensures.1 in
    let refused = rw read.vertices at (c.in_err-count.ensures.refused (holds _ _ _ _ s read.vertices read.read)) in
    rw (p.1, p.2)
    (met_missing a.path.now a.marks.now a.points.now a.lengths.now (length a.work.now) c.in_ok-check_slices.ensures.passed (marked _ _ _ _ s read.vertices read.read) (rows_kept _ _ _ _ s read.vertices read.read) _ refused a.work.now _)

pub slice_bounds-write_contours-end : goal.slice_bounds-write_contours-end
slice_bounds-write_contours-end c =
    let s = sound (goal.at.slice_bounds-write_contours-end c).In_ok-check_slices in
    let read = c.in_ok-landings.ensures in
    let counted = c.in_ok-count.ensures.counted (holds _ _ _ _ s read.vertices read.read) in
    omega (arith, counted.0, few _ _ _ _ s read.vertices read.read counted.1, c.in_ok-landings.landings.falling.heads_long)

pub slice_bounds-write_contours-end-2 : goal.slice_bounds-write_contours-end-2
slice_bounds-write_contours-end-2 c =
    let s = sound (goal.at.slice_bounds-write_contours-end-2 c).In_ok-check_slices in
    let read = c.in_ok-landings.ensures in
    let counted = c.in_ok-count.ensures.counted (holds _ _ _ _ s read.vertices read.read) in
    sym (length-take-le _ _ (omega (arith, counted.0, few _ _ _ _ s read.vertices read.read counted.1, c.in_ok-landings.landings.falling.heads_long)))

pub write_contours-requires-clause-path : goal.write_contours-requires-clause-path
write_contours-requires-clause-path c =
    let s = sound (goal.at.write_contours-requires-clause-path c).In_ok-check_slices in
    let read = c.in_ok-landings.ensures in
    omega (arith, s.even, long _ _ _ _ s read.vertices read.read)

pub write_contours-requires-clause-marks : goal.write_contours-requires-clause-marks
write_contours-requires-clause-marks c =
    let s = sound (goal.at.write_contours-requires-clause-marks c).In_ok-check_slices in
    let read = c.in_ok-landings.ensures in
    omega (arith, s.even, s.marks, long _ _ _ _ s read.vertices read.read)

pub write_contours-requires-clause-count : goal.write_contours-requires-clause-count
write_contours-requires-clause-count c =
    let s = sound (goal.at.write_contours-requires-clause-count c).In_ok-check_slices in
    let read = c.in_ok-landings.ensures in
    let counted = c.in_ok-count.ensures.counted (holds _ _ _ _ s read.vertices read.read) in
    let most = few _ _ _ _ s read.vertices read.read counted.1 in
    let flags = length-take-le c.in_ok-count.count c.in_ok-landings.landings.heads.now (omega (arith, counted.0, most, c.in_ok-landings.landings.falling.heads_long)) in
    flags ∙ counted.0

pub write_contours-requires-clause-most : goal.write_contours-requires-clause-most
write_contours-requires-clause-most c =
    let s = sound (goal.at.write_contours-requires-clause-most c).In_ok-check_slices in
    let read = c.in_ok-landings.ensures in
    let counted = c.in_ok-count.ensures.counted (holds _ _ _ _ s read.vertices read.read) in
    let most = few _ _ _ _ s read.vertices read.read counted.1 in
    let flags = length-take-le c.in_ok-count.count c.in_ok-landings.landings.heads.now (omega (arith, counted.0, most, c.in_ok-landings.landings.falling.heads_long)) in
    omega (arith, flags, counted.0, short _ _ _ _ s read.vertices read.read counted.1)

pub write_contours-requires-clause-landed : goal.write_contours-requires-clause-landed
write_contours-requires-clause-landed c =
    let s = sound (goal.at.write_contours-requires-clause-landed c).In_ok-check_slices in
    let read = c.in_ok-landings.ensures in
    let counted = c.in_ok-count.ensures.counted (holds _ _ _ _ s read.vertices read.read) in
    let most = few _ _ _ _ s read.vertices read.read counted.1 in
    let flags = length-take-le c.in_ok-count.count c.in_ok-landings.landings.heads.now (omega (arith, counted.0, most, c.in_ok-landings.landings.falling.heads_long)) in
    rw (flags, counted.0) (once _ _ _ _ s read.vertices read.read counted.1)

pub returns : goal.returns
unfolding roomy
returns c =
    let a = c.args in
    let s = sound (goal.at.returns c).In_ok-check_slices in
    let w = c.in_ok-landings.landings in
    let us = w.vertices.now in
    let read = c.in_ok-landings.ensures in
    let counted = c.in_ok-count.ensures.counted (holds _ _ _ _ s read.vertices read.read) in
    let most = few _ _ _ _ s read.vertices read.read counted.1 in
    let flags = length-take-le c.in_ok-count.count w.heads.now (omega (arith, counted.0, most, w.falling.heads_long)) in
    let count = rw (long _ _ _ _ s read.vertices read.read, read.vertices) at (flags ∙ counted.0) in
    let all = rw read.vertices at (vertices_pass a.marks.now us counted.1) in
    let wrote = c.write_contours.ensures in
    met_written a.path.now a.marks.now a.points.now a.lengths.now (length a.work.now) c.in_ok-check_slices.ensures.passed (marked _ _ _ _ s read.vertices read.read)
    (rows_kept _ _ _ _ s read.vertices read.read) all us read.vertices _ count _ _ _ wrote.0 wrote.1 wrote.2 a.work.now _
