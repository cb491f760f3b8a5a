-- The rows that refuse, and behind them the entries.
use Rattle.std.proofs.Common.{◌≡◌, List, ℕ, ◌*◌, ◌/◌, length, map, take, refl, sym, ap, ◌∙◌, arith}
use Rattle.std.proofs.lemmas.Result.{err_from_is_err_and}
use Rattle.rules.specs.HandedOver.{plate, plate_of, number_of, place_of, refusal, answer_of, order_room, over}
use Rattle.rules.specs.OrderAndStraight.{order, entries}
use Rattle.rules.specs.Calls.{order_call}
use Rattle.rules.specs.declared.Input.{Input}
use Rattle.plate_laws.specs.AcceptedInput.{input_gives}
use Rattle.slices.specs.Outcome.{met_refused, met_short, met_full, met_whole}
use Rattle.packed_contours.specs.PackedNumbers.{packed_sense}
use Rattle.order.proofs.Entries.{EntriesInOrder, count_few, entries_first, entries_length}
use Rattle.order.proofs.order_call.Goals as goal
use Rattle.order.proofs.order_call.Goals.{After-optimize_path_order-count, After-write_entries}

-- what the work slice holds once the contours are ordered
ordered : (c : After-optimize_path_order-count) → EntriesInOrder (plate_of c.args.input.now) c.optimize_path_order-count.result c.optimize_path_order-count.new.work
unfolding plate answer_of
ordered c =
    let i = c.args.input.now in
    let e = c.in_ok-checked.ensures in
    let g = input_gives i.points.now i.lengths.now i.layers.now i.strategy _ _ (sym e.answer) in
    let o = c.optimize_path_order-count.ensures in
    record {
      accepted = g.0;
      layered = g.1;
      counted = o.count ∙ ap (λ (x : Input). length (order (plate_of x))) e.same;
      words = o.words ∙ ap (λ (x : Input). map packed_sense (order (plate_of x))) e.same;
    }

-- what is written
written : (c : After-write_entries) (p : _) → EntriesInOrder p c.optimize_path_order-count.result c.optimize_path_order-count.new.work →
    c.write_entries.new.order ≡ over (take (2 * (length c.args.order.now / 2)) (entries (order p))) c.args.order.now
written c p o =
    c.write_entries.ensures
    ∙ ap (λ (xs : List ℕ). over xs c.args.order.now) (entries_first o c.min-written.result (length c.args.order.now / 2) c.min-written.ensures)

pub returns-in_err-checked : goal.returns-in_err-checked
unfolding answer_of order_call
returns-in_err-checked c =
    let e = err_from_is_err_and c.from_residual.result c.from_residual.ensures.1 in
    let m = met_refused (plate_of c.args.input.now) (length c.args.work.now) _ _ _ c.args.order.now c.args.work.now _ _ c.in_err-checked.ensures.answer in
    rw (e.1, e.2) (record { answer = m.answer; order = m.written; work = m.kept })

pub returns-then-work-input : goal.returns-then-work-input
unfolding answer_of order_call plate number_of place_of refusal
returns-then-work-input c =
    let m = met_short (plate_of c.args.input.now) (length c.args.work.now) _ _ _ c.args.order.now c.args.work.now _ _ (sym c.in_ok-checked.ensures.answer) c.if-work-input.true in
    record { answer = m.answer; order = m.written; work = m.kept }

pub overflow_cast-result : goal.overflow_cast-result
overflow_cast-result c = omega (arith, count_few (ordered (goal.at.overflow_cast-result c).After-optimize_path_order-count))

pub returns-then-room-count : goal.returns-then-room-count
unfolding answer_of order_call order_room plate number_of place_of refusal
returns-then-room-count c =
    let p = plate_of c.args.input.now in
    let o = ordered (goal.at.returns-then-room-count c).After-optimize_path_order-count in
    let m = met_full p (length c.args.work.now) _ (length (order p)) (entries (order p)) c.args.order.now c.args.work.now _ _
    (sym c.in_ok-checked.ensures.answer) c.if-work-input.false _ _ refl o.counted _ (written (goal.at.returns-then-room-count c).After-write_entries p o) _ c.if-room-count.true in
    record { answer = m.answer; order = m.written; work = m.kept }

pub overflow_cast-result-2 : goal.overflow_cast-result-2
overflow_cast-result-2 c = omega (arith, count_few (ordered (goal.at.overflow_cast-result-2 c).After-optimize_path_order-count))

pub returns : goal.returns
unfolding answer_of order_call order_room plate
returns c =
    let p = plate_of c.args.input.now in
    let o = ordered (goal.at.returns c).After-optimize_path_order-count in
    let m = met_whole p (length c.args.work.now) _ (length (order p)) (entries (order p)) c.args.order.now c.args.work.now _ _
    (sym c.in_ok-checked.ensures.answer) c.if-work-input.false _ _ refl o.counted _ (written (goal.at.returns c).After-write_entries p o) _ (entries_length (order p)) c.if-room-count.false in
    record { answer = m.answer; order = m.written; work = m.kept }
