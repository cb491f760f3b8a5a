-- The nearest contour that waits goes behind those in order.
use Rattle.std.proofs.Common.{List, ◌++◌, ◌∷◌, map, ℕ, ◌+◌, ◌-◌, length, get_or, take, drop, refl, sym, ap, ◌∙◌, arith, length-take}
use Rattle.std.proofs.lemmas.List.{length-map}
use Rattle.rules.specs.Tools.{foremost}
use Rattle.rules.specs.HandedOver.{plate, plate_of}
use Rattle.rules.specs.Start.{layer_of}
use Rattle.rules.specs.OrderAndStraight.{nearer_sense, nearer_end}
use Rattle.rules.specs.declared.Point.{Point}
use Rattle.start.specs.OrientedContours.{oriented_of}
use Rattle.contours.specs.ContourOf.{contour_of}
use Rattle.packed_contours.specs.PackedNumbers.{packed}
use Rattle.packed_contours.proofs.Words.{word_in_sense}
use Rattle.optimize.specs.Choice.{choice_of, ChoiceStands}
use Rattle.optimize.specs.State.{Continued}
use Rattle.optimize.proofs.Steps.{winner_placed, waiting_words, next_state, order_stops}
use Rattle.optimize.proofs.put_next.Goals as goal

pub last_end-q-requires : goal.last_end-q-requires
unfolding plate oriented_of contour_of
last_end-q-requires c =
    let k = c.requires.state.at in
    record { small = k.small; held = omega (arith, k.inside, c.args.checked.now.accepted.counted) }

pub nearest_waiting-requires : goal.nearest_waiting-requires
unfolding plate
nearest_waiting-requires c =
    let st = c.requires.state in
    (st.left, waiting_words st, st.placed)

pub returns-in_err-choice : goal.returns-in_err-choice
unfolding plate Continued choice_of
returns-in_err-choice c =
    let p = plate_of c.args.checked.now.input in
    let st = c.requires.state in
    let x = c.in_err-choice.ensures.choice st.left (waiting_words st) st.placed in
    let q = c.last_end-q.ensures p refl in
    rw c.from_residual.ensures (order_stops st (ap (λ (o : Point). foremost (layer_of p) nearer_end (map (nearer_sense p o) st.left)) (sym q) ∙ sym x))

pub of-packed-requires : goal.of-packed-requires
unfolding plate oriented_of contour_of choice_of
of-packed-requires c =
    let p = plate_of c.args.checked.now.input in
    let st = c.requires.state in
    let x = c.in_ok-choice.ensures.choice st.left (waiting_words st) st.placed in
    let k = winner_placed p _ st.left st.placed (sym x) in
    record { few = k.few; small = omega (arith, k.small) }

pub move_down-requires : goal.move_down-requires
unfolding ChoiceStands
move_down-requires c =
    let h = c.in_ok-choice.ensures.place in
    record {
      below = omega arith;
      inside = omega (arith, h.0, length-take (length c.args.work.now - c.args.done) (drop c.args.done c.args.work.now), c.requires.inside);
    }

pub overflow_add-done : goal.overflow_add-done
unfolding ChoiceStands
overflow_add-done c =
    omega (arith, c.in_ok-choice.ensures.place.0, length-take (length c.args.work.now - c.args.done) (drop c.args.done c.args.work.now), c.requires.inside)

pub returns : goal.returns
unfolding plate Continued ChoiceStands choice_of oriented_of contour_of
returns c =
    let p = plate_of c.args.checked.now.input in
    let st = c.requires.state in
    let work = c.args.work.now in
    let done = c.args.done in
    let n = c.in_ok-choice.ensures in
    let packed_now = c.of-packed.ensures in
    let ws = waiting_words st in
    let x = n.choice st.left ws st.placed in
    let q = c.last_end-q.ensures p refl in
    let i = c.in_ok-choice.choice.place in
    next_state st
    (omega (arith, n.place.0, ap length ws, length-map st.left packed))
    (ap (λ (us : List ℕ). get_or us i 0) (sym ws) ∙ n.place.1)
    (ap (λ (o : Point). foremost (layer_of p) nearer_end (map (nearer_sense p o) st.left)) (sym q) ∙ sym x)
    (c.move_down.ensures
    ∙ ap (λ (z : ℕ). take done work ++ (z ∷ (take (done + i - done) (drop done work) ++ drop (done + i + 1) work))) (word_in_sense _ packed_now.number packed_now.first packed_now.reversed c.into.ensures))
