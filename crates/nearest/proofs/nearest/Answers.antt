-- `nearest::nearest`: how each of the four loops begins, what a turn does, and how it ends.
use Rattle.std.proofs.Common.{sym, ◌∙◌, arith}
use Rattle.rings.specs.Squares.{square_of}
use Rattle.nearest.proofs.Border.{step_pos, step_most}
use Rattle.nearest.proofs.Loops.{same_square, cell_start, cell_falls, cell_next, row_start, row_next, ring_start, ring_next, search_start, search_next, search_stop, search_done}
use Rattle.nearest.proofs.nearest.Goals as goal
use Rattle.nearest.proofs.nearest.Goals.{else-loop-row-test, then-loop-row-test+else-loop-col-test+else-row-row-end}

pub rings-init : goal.rings-init
rings-init c = search_start _ (c.requires.ready, c.args.g.sane, c.requires.on_plate) _ c.max-rings.ensures

pub loop-row-init : goal.loop-row-init
unfolding square_of
loop-row-init c = ring_start _ (c.requires.ready, c.args.g.sane, c.requires.on_plate) _ _ c.rings.invariant.squared

pub loop-col-init : goal.loop-col-init
unfolding square_of
loop-col-init c = row_start _ (c.requires.ready, c.args.g.sane, c.requires.on_plate) _ _ _ c.loop-row.invariant.squared

pub loop-cursor-init : goal.loop-cursor-init
loop-cursor-init c =
    rw c.cell_number-cell.ensures.number
    (cell_start _ (c.requires.ready, c.args.g.sane, c.requires.on_plate) _ (omega arith) (omega arith) _ c.loop-col.invariant.squared)

pub loop-cursor-smaller : goal.loop-cursor-smaller
loop-cursor-smaller c =
    cell_falls _ (c.requires.ready, c.args.g.sane, c.requires.on_plate) _ (omega arith) (omega arith) _ _ _ c.loop-cursor.invariant c.loop-cursor-test.true

pub loop-cursor-preserved : goal.loop-cursor-preserved
loop-cursor-preserved c =
    cell_next _ (c.requires.ready, c.args.g.sane, c.requires.on_plate) _ (omega arith) (omega arith) _ _ _ c.loop-cursor.invariant c.loop-cursor-test.true _
    (rw (← c.path_point.ensures) (c.nearer-best.ensures _))

pub overflow_add-col : goal.overflow_add-col
unfolding square_of
overflow_add-col c =
    omega (arith, c.args.g.sane.cols_most, c.column_step-step.ensures, step_most (square_of c.square_of-s.result) c.loop-row.row)

pub loop-col-smaller : goal.loop-col-smaller
loop-col-smaller c = omega (arith, c.column_step-step.ensures, step_pos (square_of c.square_of-s.result) c.loop-row.row)

pub loop-col-preserved : goal.loop-col-preserved
unfolding square_of
loop-col-preserved c =
    rw c.column_step-step.ensures
    (row_next _ (c.requires.ready, c.args.g.sane, c.requires.on_plate) _ c.loop-col.invariant c.loop-cursor.invariant c.loop-cursor-test.false
    record {
      first_col = c.loop-col.invariant.first;
      last_col = omega (arith, c.loop-col-test.true);
      first_row = c.loop-row.invariant.first;
      last_row = omega (arith, c.loop-row-test.true);
    } (omega arith))

pub loop-row-preserved : goal.loop-row-preserved
unfolding square_of
loop-row-preserved c =
    ring_next _ (c.requires.ready, c.args.g.sane, c.requires.on_plate) _ c.loop-row.invariant c.loop-col.invariant c.loop-col-test.false

pub rings-preserved : goal.rings-preserved
unfolding square_of
rings-preserved c =
    let at = c.cell_of-c.ensures in
    let e = c.square_of-s.ensures.square ∙ same_square _ _ _ _ at.col at.row in
    let far = sym c.is_past_best.ensures ∙ c.if-is_past_best.false in
    elim c.loop-row-test.branch [
      | else-loop-row-test w ↦ rw w.best-is (search_next _ (c.requires.ready, c.args.g.sane, c.requires.on_plate) _ _ _ c.rings.invariant _ _ _ e c.rings-test.true far c.loop-row.invariant (omega (arith, w.loop-row-test.false)))
      | then-loop-row-test+else-loop-col-test+else-row-row-end w ↦
          let i = ring_next c.args.q (c.requires.ready, c.args.g.sane, c.requires.on_plate) _ c.loop-row.invariant w.loop-col.invariant w.loop-col-test.false in
          rw w.best-is (search_next _ (c.requires.ready, c.args.g.sane, c.requires.on_plate) _ _ _ c.rings.invariant _ _ _ e c.rings-test.true far i (omega arith))
    ]

pub returns-after-rings : goal.returns-after-rings
returns-after-rings c = search_done _ (c.requires.ready, c.args.g.sane, c.requires.on_plate) _ _ _ c.rings.invariant c.rings-test.false

pub returns-then-is_past_best : goal.returns-then-is_past_best
returns-then-is_past_best c =
    search_stop _ (c.requires.ready, c.args.g.sane, c.requires.on_plate) _ _ _ c.rings.invariant c.rings-test.true (sym c.is_past_best.ensures ∙ c.if-is_past_best.true)
