-- Refusals 3, 4 and 5, each after those before it passed.
use Rattle.std.proofs.Common.{◌≡◌, ◌*◌, ◌/◌, length, refl, arith}
use Rattle.std.specs.Float.Ieee.{of_bits}
use Rattle.rules.specs.HandedOver.{plate_limit}
use Rattle.contour_recovery.specs.ContourRecovery.{recovery_answer}
use Rattle.recovery.specs.Rows.{odd_path, other_marks, off_path, short_work, path_passes}
use Rattle.recovery.proofs.check_slices.Goals as goal
use Rattle.recovery.proofs.check_slices.Goals.{then-path-ne0-via-then-path-ne0, then-path-ne0-via-else-path-ne0+then-marks-path}

pub returns-then-path-ne0-clause-refused : goal.returns-then-path-ne0-clause-refused
unfolding recovery_answer
returns-then-path-ne0-clause-refused c =
    let a = c.args in
    elim c.then-path-ne0.branch [
      | then-path-ne0-via-then-path-ne0 w ↦ odd_path a.path.now a.marks.now a.work (λ e. w.if-path-ne0.true (omega (arith, e)))
      | then-path-ne0-via-else-path-ne0+then-marks-path w ↦
          other_marks a.path.now a.marks.now a.work (omega (arith, w.if-path-ne0.false)) w.if-marks-path.true
    ]

pub returns-in-Some-clause-refused : goal.returns-in-Some-clause-refused
unfolding recovery_answer plate_limit of_bits
returns-in-Some-clause-refused c =
    let a = c.args in
    let even : length a.path.now ≡ 2 * (length a.path.now / 2) = omega (arith, c.if-path-ne0.false) in
    let f = c.in-Some.ensures.found in
    off_path a.path.now a.marks.now a.work even c.if-marks-path.false c.in-Some.place f.0 f.1

pub returns-then-work-path-clause-refused : goal.returns-then-work-path-clause-refused
unfolding recovery_answer plate_limit of_bits
returns-then-work-path-clause-refused c =
    let a = c.args in
    let even : length a.path.now ≡ 2 * (length a.path.now / 2) = omega (arith, c.if-path-ne0.false) in
    short_work a.path.now a.marks.now a.work even c.if-marks-path.false (c.in_default.ensures.none refl) (omega (arith, c.if-work-path.true))

pub returns-clause-passed : goal.returns-clause-passed
unfolding plate_limit of_bits
returns-clause-passed c =
    let a = c.args in
    let even : length a.path.now ≡ 2 * (length a.path.now / 2) = omega (arith, c.if-path-ne0.false) in
    path_passes a.path.now a.marks.now a.work even c.if-marks-path.false (c.in_default.ensures.none refl) (omega (arith, c.if-work-path.false))
