-- The contour that leads is the rules', the slices are set up for it, and the path is joined behind it.
use mathlib.Core.Path.{refl, sym, ap, ◌∙◌}
use native.Mathlib.Omega.{arith}
use Rattle.std.proofs.Common.{rules}
use Rattle.rules.specs.HandedOver.{plate, plate_of}
use Rattle.rules.specs.GridAndNearest.{grid_of}
use Rattle.start.specs.OrientedContours.{oriented_of, lead_of}
use Rattle.contours.specs.ContourOf.{contour_of}
use Rattle.rounding_errors.specs.Boxes.{accepted_sound}
use Rattle.packed_contours.specs.PackedNumbers.{InLengths}
use Rattle.packed_contours.specs.Contours.{start_placed}
use Rattle.path_points.specs.Wrote.{wrote_none}
use Rattle.joining.proofs.StartSlices.{StartSlices, begin_prepared, begin_flags, begin_lines}
use Rattle.joining.proofs.RetraceByStart.{retrace_some, retrace_none, wrote_same, path_count_err}
use Rattle.joining.proofs.join_retrace.Goals as goal
use Rattle.joining.proofs.join_retrace.Goals.{In-Some, After-set_up-frame}

placed : (c : In-Some) → InLengths c.args.checked.now.input.lengths.now (contour_of c.in-Some.s.contour)
unfolding lead_of oriented_of plate
placed c = start_placed (plate_of c.args.checked.now.input) _ c.args.checked.now.accepted (sym c.in-Some.ensures)

-- the slices as they were set up
begins : (c : After-set_up-frame) →
    StartSlices c.set_up-frame.result.points.now c.args.checked.now.input.lengths.now c.set_up-frame.result.grid.spatial c.set_up-frame.result.layout
    c.set_up-frame.new.work c.set_up-frame.new.distances c.in-Some.s.contour.number
unfolding contour_of
begins c =
    let up = c.set_up-frame.ensures in
    let l = (placed (goal.at.After-set_up-frame c).In-Some).listed in
    record {
      prepared = up.prepared;
      held = λ p e. rw (← up.grid) at (up.held p (e ∙ up.points));
      ready = rw up.grid up.ready;
      flags = up.flags;
      waits = up.waits;
      many = up.many;
      inside = omega (arith, up.many);
      start = omega (arith, up.start);
    }

pub returns-in_default-clause-wrote : goal.returns-in_default-clause-wrote
unfolding lead_of
returns-in_default-clause-wrote c =
    let a = c.args.checked.now.input in
    let lent = c.requires in
    rw (retrace_none (plate_of a) (sym c.in_default.ensures))
    (wrote_none a.points.now c.args.room _ _ lent.path_room lent.marks_room)

pub new-grid-requires : goal.new-grid-requires
unfolding contour_of
new-grid-requires c =
    let a = c.args.checked.now.input in
    let accepted = c.args.checked.now.accepted in
    let at = placed (goal.at.new-grid-requires c).In-Some in
    rw c.polyline_bounding_box.ensures (accepted_sound a.points.now a.lengths.now accepted (omega (arith, at.inside)))

pub stop_waiting-requires : goal.stop_waiting-requires
stop_waiting-requires c =
    let b = begins (goal.at.stop_waiting-requires c).After-set_up-frame in record { laid = b.prepared.plated.laid; number = b.inside }

pub join_from-requires-clause-placed : goal.join_from-requires-clause-placed
join_from-requires-clause-placed c = placed (goal.at.join_from-requires-clause-placed c).In-Some

pub join_from-requires-clause-set_up : goal.join_from-requires-clause-set_up
join_from-requires-clause-set_up c =
    let up = c.set_up-frame.ensures in
    let b = begins (goal.at.join_from-requires-clause-set_up c).After-set_up-frame in
    rw c.stop_waiting.ensures
    record {
      points = up.points;
      start = up.start;
      many = up.many;
      prepared = begin_prepared b;
      flags = begin_flags b;
      lines = begin_lines b;
    }

pub returns-in_err-join_from-clause-wrote : goal.returns-in_err-join_from-clause-wrote
unfolding lead_of plate
returns-in_err-join_from-clause-wrote c =
    let p = plate_of c.args.checked.now.input in
    let g = c.new-grid.ensures ∙ ap grid_of c.polyline_bounding_box.ensures in
    rw (path_count_err _ _ c.from_residual.ensures.0, retrace_some p _ (sym c.in-Some.ensures), ← g)
    (wrote_same (c.in_err-join_from.ensures.wrote p refl refl refl) (search rules) (search rules))

pub returns-clause-wrote : goal.returns-clause-wrote
unfolding lead_of plate
returns-clause-wrote c =
    let p = plate_of c.args.checked.now.input in
    let g = c.new-grid.ensures ∙ ap grid_of c.polyline_bounding_box.ensures in
    rw (retrace_some p _ (sym c.in-Some.ensures), ← g)
    (wrote_same (c.in_ok-join_from.ensures.wrote p refl refl refl) (search rules) (search rules))
