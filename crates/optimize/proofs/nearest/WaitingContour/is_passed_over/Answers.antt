-- Both ends are beyond the choice's.
use Rattle.std.proofs.Common.{sym, ap, ◌∙◌, arith}
use Rattle.rules.specs.Tools.{pick}
use Rattle.rules.specs.HandedOver.{at}
use Rattle.point.specs.Bound.{beyond_above}
use Rattle.start.specs.OrientedContours.{oriented_of}
use Rattle.contours.specs.ContourOf.{contour_of}
use Rattle.optimize.specs.Choice.{choice_of}
use Rattle.optimize.proofs.Choices.{passed_over}
use Rattle.optimize.proofs.nearest.WaitingContour.is_passed_over.Goals as goal

pub point_at-requires-then-is_beyond : goal.point_at-requires-then-is_beyond
unfolding pick
point_at-requires-then-is_beyond c = omega (arith, c.first_end.ensures, c.args.self.now.held)

pub returns-then-is_beyond : goal.returns-then-is_beyond
unfolding choice_of contour_of oriented_of pick
returns-then-is_beyond c = λ h p e.
    rw c.in-Some.is
    (passed_over p _ _ _ _ e c.point_at.ensures (c.point_at-then-is_beyond.ensures ∙ ap (at _) c.first_end.ensures)
    (beyond_above _ _ _ (sym c.is_beyond.ensures ∙ c.if-is_beyond.true))
    (beyond_above _ _ _ (sym c.is_beyond-then-is_beyond.ensures ∙ h)))
