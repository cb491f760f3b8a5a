-- The nearer of the two senses, forward on ties.
use Rattle.start.specs.Agrees.{oriented_is}
use Rattle.optimize.proofs.Choices.{forward_nearer, reverse_nearer}
use Rattle.optimize.proofs.nearest.WaitingContour.nearer_sense.Goals as goal

pub returns-then-forward-reverse-clause-nearer : goal.returns-then-forward-reverse-clause-nearer
returns-then-forward-reverse-clause-nearer c =
    let f = c.orient-forward.ensures in
    let r = c.orient-reverse.ensures in
    λ p e. forward_nearer p _ _ _ _ (oriented_is p _ _ _ _ _ e f.contour f.sense f.squared) (oriented_is p _ _ _ _ _ e r.contour r.sense r.squared) c.if-forward-reverse.true

pub returns-clause-nearer : goal.returns-clause-nearer
returns-clause-nearer c =
    let f = c.orient-forward.ensures in
    let r = c.orient-reverse.ensures in
    λ p e. reverse_nearer p _ _ _ _ (oriented_is p _ _ _ _ _ e f.contour f.sense f.squared) (oriented_is p _ _ _ _ _ e r.contour r.sense r.squared) c.if-forward-reverse.false
