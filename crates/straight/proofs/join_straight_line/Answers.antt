-- The words of an order are readable, and their runs are its vertices.
use Rattle.std.proofs.Common.{List, ℕ, ◌*◌, ◌/◌, length, take, ap, ◌∙◌}
use Rattle.rules.specs.HandedOver.{plate, plate_of, over}
use Rattle.rules.specs.Marks.{coordinates}
use Rattle.straight.specs.Runs.{runs}
use Rattle.straight.proofs.OrderRuns.{order_runs, order_readable}
use Rattle.straight.proofs.join_straight_line.Goals as goal

pub write_contours-requires : goal.write_contours-requires
unfolding plate
write_contours-requires c =
    let i = c.args.checked.now in
    rw c.optimize_path_order-count.ensures.words (order_readable (plate_of i.input) i.accepted)

pub returns : goal.returns
unfolding plate
returns c =
    let i = c.args.checked.now in
    c.write_contours.ensures
    ∙ ap (λ (vs : List ℕ). over (take (2 * (length c.args.path.now / 2)) (coordinates i.input.points.now vs)) c.args.path.now)
    (ap (runs i.input.lengths.now) c.optimize_path_order-count.ensures.words ∙ order_runs (plate_of i.input) i.accepted)
