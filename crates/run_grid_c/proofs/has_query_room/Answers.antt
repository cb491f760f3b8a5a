-- `run_grid_c::has_query_room`: the four tests of the definition.
use Rattle.std.proofs.Common.{◌≡◌, sym, ◌∙◌, ◌&&◌, leb}
use Rattle.run_grid_c.specs.Results.{has_room, has_query_room}
use Rattle.run_grid_c.proofs.has_query_room.Goals as goal
use Rattle.run_grid_c.proofs.has_query_room.Goals.{then-has_room, else-has_room, then-n-squared, else-n-squared}

pub returns-then-count-n : goal.returns-then-count-n
unfolding has_query_room
returns-then-count-n c =
    let a : c.if-has_room.value ≡ (has_room c.args.n c.args.places && leb c.args.n c.args.squared) =
    elim c.if-has_room.branch [
      | then-has_room w ↦ rw (sym w.if-has_room.ensures) w.value-is
      | else-has_room w ↦ rw (sym w.if-has_room.ensures) (w.value-is ∙ w.if-has_room.false)
    ] in
    let b : c.if-n-squared.value ≡ (c.if-has_room.value && leb c.args.count c.args.n) =
    elim c.if-n-squared.branch [
      | then-n-squared w ↦ rw w.if-n-squared.true w.value-is
      | else-n-squared w ↦ rw w.if-n-squared.false (w.value-is ∙ w.if-n-squared.false)
    ] in
    rw (← a, ← b, c.if-count-n.true)

pub returns-else-count-n : goal.returns-else-count-n
unfolding has_query_room
returns-else-count-n c =
    let a : c.if-has_room.value ≡ (has_room c.args.n c.args.places && leb c.args.n c.args.squared) =
    elim c.if-has_room.branch [
      | then-has_room w ↦ rw (sym w.if-has_room.ensures) w.value-is
      | else-has_room w ↦ rw (sym w.if-has_room.ensures) (w.value-is ∙ w.if-has_room.false)
    ] in
    let b : c.if-n-squared.value ≡ (c.if-has_room.value && leb c.args.count c.args.n) =
    elim c.if-n-squared.branch [
      | then-n-squared w ↦ rw w.if-n-squared.true w.value-is
      | else-n-squared w ↦ rw w.if-n-squared.false (w.value-is ∙ w.if-n-squared.false)
    ] in
    rw (← a, ← b, c.if-count-n.false)
