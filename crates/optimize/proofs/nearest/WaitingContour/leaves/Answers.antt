-- A contour of a higher layer leaves the choice, and so does one of its layer that is passed over.
use Rattle.std.proofs.Common.{sym, ◌∙◌, arith}
use Rattle.optimize.proofs.Choices.{lead_higher, lead_alike}
use Rattle.optimize.proofs.nearest.WaitingContour.leaves.Goals as goal

pub returns-then-lowest-self-clause-same : goal.returns-then-lowest-self-clause-same
returns-then-lowest-self-clause-same c = λ t p e l k. lead_higher p _ _ _ (omega (arith, c.if-lowest-self.true))

pub returns-then-lowest-self-2-clause-same : goal.returns-then-lowest-self-2-clause-same
returns-then-lowest-self-2-clause-same c = λ t p e l k. sym (c.is_passed_over.ensures t p e) ∙ lead_alike p _ _ _ (omega (arith, c.if-lowest-self-2.true))
