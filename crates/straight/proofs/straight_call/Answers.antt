-- The rows that refuse, and behind them the points.
use Rattle.std.proofs.Common.{◌≡◌, List, ℕ, ◌*◌, ◌/◌, ◌++◌, ◌≤◌, Float, length, take, drop, sym, ap, ap₂, ◌∙◌, arith, length-take}
use Rattle.std.proofs.lemmas.Result.{err_from_is_err_and}
use Rattle.rules.specs.HandedOver.{Plate, plate, plate_of, plate_rows, refused_by, gives, number_of, place_of, refusal, answer_of, straight_room, over}
use Rattle.rules.specs.Marks.{coordinates}
use Rattle.rules.specs.OrderAndStraight.{order, straight}
use Rattle.rules.specs.Calls.{straight_call}
use Rattle.rules.specs.declared.Input.{Input}
use Rattle.plate_laws.specs.AcceptedInput.{input_gives}
use Rattle.plate_laws.specs.Start.{layered_part}
use Rattle.plate_laws.specs.OrderTotals.{straight_length}
use Rattle.plate_laws.specs.Slices.{coordinates_length}
use Rattle.slices.specs.Outcome.{met_refused, met_short, met_full, met_whole}
use Rattle.slices.specs.Over.{over_rest}
use Rattle.straight.proofs.straight_call.Goals as goal
use Rattle.straight.proofs.straight_call.Goals.{After-join_straight_line}

-- the path has as many points as the plate
points_are : (p : Plate) (m k : ℕ) → refused_by (plate_rows p) (gives m) ≡ gives k → length (straight (order p)) ≡ length p.points / 2
points_are p m k e =
    let g = input_gives p.points p.lengths p.layers p.strategy _ _ e in
    omega (arith, g.0.counted, straight_length p (layered_part p g.1))

-- what is written
written : (c : After-join_straight_line) →
    let room = c.min-room.result in
    let i = c.args.input.now in
    c.join_straight_line.new.path ++ drop (2 * room) c.args.path.now
    ≡ over (take (2 * room) (coordinates i.points.now (straight (order (plate_of i))))) c.args.path.now
unfolding plate
written c =
    let room = c.min-room.result in
    let i = c.args.input.now in
    let path = c.args.path.now in
    let part = take (2 * room) path in
    let xs = coordinates i.points.now (straight (order (plate_of i))) in
    let h : 2 * room ≤ length path = omega (arith, c.min-room.ensures) in
    let e : length part / 2 ≡ room = omega (arith, length-take (2 * room) path) in
    ap (λ (ys : List Float). ys ++ drop (2 * room) path)
    (c.join_straight_line.ensures
    ∙ ap₂ (λ (k : ℕ) (x : Input). over (take (2 * k) (coordinates x.points.now (straight (order (plate_of x))))) part) e c.in_ok-checked.ensures.same)
    ∙ over_rest (take (2 * room) xs) path (2 * room) (omega (arith, length-take (2 * room) xs)) h

pub returns-in_err-checked : goal.returns-in_err-checked
unfolding answer_of straight_call
returns-in_err-checked c =
    let e = err_from_is_err_and c.from_residual.result c.from_residual.ensures.1 in
    let m = met_refused (plate_of c.args.input.now) (length c.args.work.now) _ _ _ c.args.path.now c.args.work.now _ _ c.in_err-checked.ensures.answer in
    rw (e.1, e.2) (record { answer = m.answer; path = m.written; work = m.kept })

pub returns-then-work-input : goal.returns-then-work-input
unfolding answer_of straight_call plate number_of place_of refusal
returns-then-work-input c =
    let m = met_short (plate_of c.args.input.now) (length c.args.work.now) _ _ _ c.args.path.now c.args.work.now _ _ (sym c.in_ok-checked.ensures.answer) c.if-work-input.true in
    record { answer = m.answer; path = m.written; work = m.kept }

pub returns-then-room-count : goal.returns-then-room-count
unfolding answer_of straight_call straight_room plate number_of place_of refusal
returns-then-room-count c =
    let p = plate_of c.args.input.now in
    let vs = straight (order p) in
    let e = sym c.in_ok-checked.ensures.answer in
    let m = met_full p (length c.args.work.now) _ (length vs) (coordinates c.args.input.now.points.now vs) c.args.path.now c.args.work.now _ _
    e c.if-work-input.false _ _ c.min-room.ensures (sym (points_are p _ _ e)) _ (written (goal.at.returns-then-room-count c).After-join_straight_line) _ c.if-room-count.true in
    record { answer = m.answer; path = m.written; work = m.kept }

pub returns : goal.returns
unfolding answer_of straight_call straight_room plate
returns c =
    let p = plate_of c.args.input.now in
    let vs = straight (order p) in
    let e = sym c.in_ok-checked.ensures.answer in
    let m = met_whole p (length c.args.work.now) _ (length vs) (coordinates c.args.input.now.points.now vs) c.args.path.now c.args.work.now _ _
    e c.if-work-input.false _ _ c.min-room.ensures (sym (points_are p _ _ e)) _ (written (goal.at.returns c).After-join_straight_line) _
    (coordinates_length c.args.input.now.points.now vs) c.if-room-count.false in
    record { answer = m.answer; path = m.written; work = m.kept }
