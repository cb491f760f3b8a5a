-- The length of a pair, kept or measured, and the lengths that are kept then.
use Rattle.std.proofs.Common.{◌≡◌, suc, add-one, ◌∙◌, arith}
use Rattle.rules.specs.HandedOver.{at}
use Rattle.rules.specs.Lengths.{pair_length}
use Rattle.measure.proofs.Backwards.{reversed, length_kept, kept_more}
use Rattle.measure.proofs.measured.Goals as goal
use Rattle.measure.proofs.measured.Goals.{Joined-marks-mark-eq-BACK_STEP, then-marks-mark-eq-BACK_STEP, else-marks-mark-eq-BACK_STEP}

pub bounds-kept-marks : goal.bounds-kept-marks
bounds-kept-marks c =
    let q = c.requires in
    let r = reversed _ _ _ _ q.walked q.pair c.if-marks-mark-eq-BACK_STEP.true in
    omega (arith, r.earlier, q.pair, q.room)

-- kept or measured, it is the pair's
measured : (c : Joined-marks-mark-eq-BACK_STEP) →
    c.if-marks-mark-eq-BACK_STEP.length ≡ pair_length (at c.args.path.now c.args.k) (at c.args.path.now (suc c.args.k))
measured c =
    let q = c.requires in
    elim c.if-marks-mark-eq-BACK_STEP.branch [
      | then-marks-mark-eq-BACK_STEP w ↦ w.length-is ∙ length_kept _ _ _ _ q.walked q.pair w.if-marks-mark-eq-BACK_STEP.true _ c.requires.kept
      | else-marks-mark-eq-BACK_STEP w ↦
          w.length-is ∙ rw (w.point_in.ensures, w.point_in-else-marks-mark-eq-BACK_STEP.ensures, add-one) at w.pair_length-length.ensures
    ]

pub returns-clause-length : goal.returns-clause-length
returns-clause-length c = measured c

pub returns-clause-kept : goal.returns-clause-kept
returns-clause-kept c = kept_more _ _ _ _ c.requires.kept (omega (arith, c.requires.pair, c.requires.room)) (measured c)
