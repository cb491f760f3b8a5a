-- The retrace call: what it answers and leaves in the slices is the rules', on each way out.
use mathlib.Core.Path.{◌≡◌, refl, sym}
use Prim.Native.Nat.{◌+◌, ◌*◌, ◌≤◌}
use native.Mathlib.Omega.{arith}
use lib.ListN.{length}
use Rattle.std.proofs.Common.{Result, Ok, Err}
use Rattle.std.specs.Result.{result_or}
use Rattle.std.proofs.lemmas.Result.{err_from_is_err_and}
use Rattle.rules.specs.Tools.{sum}
use Rattle.rules.specs.HandedOver.{plate, plate_of, gives, number_of, place_of, refusal, refused_by, plate_rows, retrace_work, answer_of, retrace_room}
use Rattle.rules.specs.Retrace.{retrace}
use Rattle.plate_laws.specs.AcceptedInput.{Accepted, input_gives}
use Rattle.plate_laws.specs.Start.{AllTakePart, layered_part}
use Rattle.path_points.specs.Wrote.{Wrote}
use Rattle.joining.specs.JoinState.{path_count}
use Rattle.retrace.proofs.Outcome.{whole, whole_refused, not_full, met_refused, met_short, met_short_distances, met_full, met_whole, counted, walked}
use Rattle.retrace.proofs.retrace_call.Goals as goal
use Rattle.retrace.proofs.retrace_call.Goals.{After-min-room, After-work_needed, Else-work-work_needed, After-join_retrace-joined}

-- a plate that passed the checks
sound : (c : After-min-room) →
    refused_by (plate_rows (plate_of c.args.input.now)) (gives (sum c.args.input.now.lengths.now)) ≡ gives (sum c.in_ok-checked.checked.input.lengths.now)
unfolding answer_of
sound c = sym c.in_ok-checked.ensures.answer

accepted : (c : After-min-room) → Accepted c.args.input.now.points.now c.args.input.now.lengths.now
accepted c = rw c.in_ok-checked.ensures.same at c.in_ok-checked.checked.accepted

-- the room that was worked out is C
room_is : (c : After-min-room) → c.min-room.result ≡ retrace_room (length c.args.path.now) (length c.args.marks.now)
unfolding retrace_room
room_is c = omega (arith, c.min-room.ensures, c.min.ensures)

-- there is work enough
enough : (c : Else-work-work_needed) →
    retrace_room (length c.args.path.now) (length c.args.marks.now) + 4 * sum c.args.input.now.lengths.now + 8 * length c.args.input.now.lengths.now + 16384
    ≤ length c.args.work.now
enough c =
    let r = (goal.at.Else-work-work_needed c).After-min-room in
    omega (arith, c.if-work-work_needed.false, c.work_needed.ensures.needed, room_is r, (accepted r).counted)

-- the path was joined, in room for C points
wrote : (c : After-join_retrace-joined) →
    let a = c.args in
    Wrote a.input.now.points.now (retrace (plate_of a.input.now)) (retrace_room (length a.path.now) (length a.marks.now))
    (path_count (retrace_room (length a.path.now) (length a.marks.now)) c.join_retrace-joined.result) a.path.now c.join_retrace-joined.new.path
    a.marks.now c.join_retrace-joined.new.marks
wrote c = rw (c.in_ok-checked.ensures.same, room_is (goal.at.After-join_retrace-joined c).After-min-room) at c.join_retrace-joined.ensures.wrote

-- what the joining gave, where the call goes on, and where it does not
joined : {T E D : Type 0} (r : Result T E) (d : D) (n : T) → Ok n ≡ result_or r (Err d) → r ≡ Ok n
joined (Ok x) d n h = cc
joined (Err e) d n h = cc

not_joined : {T E D : Type 0} (r : Result T E) (d f : D) → Err f ≡ result_or r (Err d) → (e : E) × (r ≡ Err e) × (f ≡ d)
not_joined (Ok x) d f h = cc
not_joined (Err e) d f h = (e, refl, cc)

-- every contour takes part
part : (c : After-min-room) → AllTakePart (plate_of c.args.input.now)
unfolding plate
part c = let p = plate_of c.args.input.now in layered_part p (input_gives p.points p.lengths p.layers p.strategy _ _ (sound c)).1

pub returns-in_err-checked : goal.returns-in_err-checked
unfolding answer_of refusal
returns-in_err-checked c =
    let a = c.args in
    let p = plate_of a.input.now in
    let q = err_from_is_err_and c.from_residual.result c.from_residual.ensures.1 in
    let h = c.in_err-checked.ensures.answer in
    rw (q.1, q.2) (whole_refused (not_full p _ _ h) (met_refused p a.path.now a.marks.now a.work.now a.distances.now _ _ h))

pub returns-then-work-work_needed : goal.returns-then-work-work_needed
unfolding answer_of retrace_work number_of place_of refusal plate
returns-then-work-work_needed c =
    let a = c.args in
    let p = plate_of a.input.now in
    let r = (goal.at.returns-then-work-work_needed c).After-min-room in
    whole_refused {n = 5} (omega arith)
    (met_short p a.path.now a.marks.now a.work.now a.distances.now _ _ (sound r)
    (omega (arith, c.if-work-work_needed.true, c.work_needed.ensures.needed, room_is r, (accepted r).counted)))

pub returns-then-distances-input : goal.returns-then-distances-input
unfolding answer_of retrace_work number_of place_of refusal plate
returns-then-distances-input c =
    let a = c.args in
    let p = plate_of a.input.now in
    let at = goal.at.returns-then-distances-input c in
    whole_refused {n = 5} (omega arith)
    (met_short_distances p a.path.now a.marks.now a.work.now a.distances.now _ _
    (sound at.After-min-room) (enough at.Else-work-work_needed) c.if-distances-input.true)

pub returns-in_err-n : goal.returns-in_err-n
unfolding answer_of retrace_work number_of place_of refusal plate
returns-in_err-n c =
    let a = c.args in
    let i = a.input.now in
    let p = plate_of i in
    let at = goal.at.returns-in_err-n c in
    let r = room_is at.After-min-room in
    let q = err_from_is_err_and c.from_residual-in_err-n.result c.from_residual-in_err-n.ensures.1 in
    let e = not_joined c.join_retrace-joined.result _ _ c.in_err-n.ensures in
    rw (q.1, q.2, e.2, r)
    (whole i.points.now i.lengths.now i.layers.now i.width i.height i.strategy c.work_needed.ensures.floats
    (met_full p a.path.now a.marks.now a.work.now a.distances.now _ _
    (sound at.After-min-room) (enough at.Else-work-work_needed) c.if-distances-input.false c.join_retrace-joined.new.work c.join_retrace-joined.new.distances
    (rw e.1 at (wrote at.After-join_retrace-joined)) (omega arith)))

pub totals-requires : goal.totals-requires
unfolding plate
totals-requires c =
    let p = plate_of c.args.input.now in
    let at = goal.at.totals-requires c in
    let r = room_is at.After-min-room in
    let e = joined c.join_retrace-joined.result _ _ c.in_ok-n.ensures in
    let n = rw e at c.join_retrace-joined.ensures.fits in
    let w = rw e at (wrote at.After-join_retrace-joined) in
    let has = enough at.Else-work-work_needed in
    record {
      walked = walked p w (omega (arith, n, r)) (accepted at.After-min-room) (part at.After-min-room);
      few = omega (arith, n);
      room = omega (arith, n, r, has);
    }

pub returns : goal.returns
unfolding answer_of retrace_work plate
returns c =
    let a = c.args in
    let i = a.input.now in
    let p = plate_of i in
    let at = goal.at.returns c in
    let r = room_is at.After-min-room in
    let e = joined c.join_retrace-joined.result _ _ c.in_ok-n.ensures in
    let n = rw e at c.join_retrace-joined.ensures.fits in
    let steps = rw e at (wrote at.After-join_retrace-joined) in
    whole i.points.now i.lengths.now i.layers.now i.width i.height i.strategy c.work_needed.ensures.floats
    (met_whole p a.path.now a.marks.now a.work.now a.distances.now _ _
    (sound at.After-min-room) (enough at.Else-work-work_needed) c.if-distances-input.false c.totals.new.kept c.join_retrace-joined.new.distances
    steps (omega (arith, n, r)) c.totals.result (counted p steps (omega (arith, n, r)) c.totals.result c.totals.ensures))
