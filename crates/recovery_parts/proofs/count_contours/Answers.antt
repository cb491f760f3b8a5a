-- Vertex v ends its run, or it doesn't.
use Rattle.std.proofs.Common.{◌≡◌, ◌-◌, sym, ◌∙◌, length, arith}
use Rattle.recovery_parts.specs.Flags.{flagged, flagged_runs}
use Rattle.recovery_parts.specs.Lengths.{count_on, count_out, count_end}
use Rattle.recovery_parts.proofs.count_contours.Goals as goal
use Rattle.recovery_parts.proofs.count_contours.Goals.{then-ends_contour, else-ends_contour}

pub loop-v-init : goal.loop-v-init
unfolding flagged_runs
loop-v-init c =
    let e : length c.args.flags.now - 0 ≡ length c.args.flags.now = omega arith in
    record { few = omega arith; counted = rw e (omega arith) }

pub loop-v-preserved : goal.loop-v-preserved
loop-v-preserved c =
    let l = c.loop-v in
    let fs = c.args.flags.now in
    let told = sym c.ends_contour.ensures in
    elim c.if-ends_contour.branch [
      | then-ends_contour w ↦
          let step = count_out (flagged fs) (length fs) l.v c.loop-v-test.true (told ∙ w.if-ends_contour.true) in
          record { few = omega (arith, w.count-is, l.invariant.few); counted = omega (arith, step, w.count-is, l.invariant.counted) }
      | else-ends_contour w ↦
          let step = count_on (flagged fs) (length fs) l.v c.loop-v-test.true (told ∙ w.if-ends_contour.false) in
          record { few = omega (arith, w.count-is, l.invariant.few); counted = omega (arith, step, w.count-is, l.invariant.counted) }
    ]

pub returns : goal.returns
returns c =
    let fs = c.args.flags.now in
    omega (arith, c.loop-v.invariant.counted, count_end (flagged fs) (length fs) c.loop-v.v c.loop-v-test.false)
