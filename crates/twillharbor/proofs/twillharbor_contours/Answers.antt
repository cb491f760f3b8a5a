-- The struct tells the answer: with the number 0 the path divides over the contours that were written.
use Rattle.std.proofs.Common.{◌∙◌, length, sym, ap}
use Rattle.contour_recovery.specs.ContourRecovery.{RecoveredDivides}
use Rattle.recovered_check.specs.Theorem.{recovered_divides_over}
use Rattle.results.specs.Results.{contours_result}
use Rattle.results.specs.Refusals.{told_recovered}
use Rattle.twillharbor.proofs.twillharbor_contours.Goals as goal

pub returns : goal.returns
unfolding RecoveredDivides
returns c =
    let a = c.args in
    let divides = recovered_divides_over a.path.now a.marks.now a.points.now a.lengths.now (length a.work.now) in
    let e = c.recover_contours.ensures in
    let r = c.contours_result.ensures in (
      r ∙ ap contours_result e.0,
      e.1,
      e.2,
      e.3,
      λ z. rw (e.1, e.2) (divides _ (sym e.0 ∙ told_recovered c.recover_contours.result _ r z)),
    )
