-- One of a lower layer takes the choice's place, one of a higher layer waits, and between alike ones the nearer is chosen.
use Rattle.std.proofs.Common.{refl, sym, ap, ◌∙◌, arith}
use Rattle.std.proofs.Math.Option.{some}
use Rattle.rules.specs.Tools.{leads}
use Rattle.rules.specs.OrderAndStraight.{nearer_end}
use Rattle.rules.specs.Start.{Oriented}
use Rattle.contours.specs.ContourOf.{contour_of}
use Rattle.contours.specs.declared.ContourRange.{ContourRange}
use Rattle.packed_contours.specs.PackedNumbers.{packed}
use Rattle.optimize.specs.Choice.{choice_of, ChoiceStands}
use Rattle.optimize.proofs.Choices.{later, lead_lower, lead_alike}
use Rattle.optimize.proofs.nearest.choice_after.Goals as goal

pub returns-then-leaves-clause-stands : goal.returns-then-leaves-clause-stands
returns-then-leaves-clause-stands c = λ ws s h e. later ws _ _ s

pub returns-then-c-lowest-clause-leads : goal.returns-then-c-lowest-clause-leads
unfolding choice_of leads
returns-then-c-lowest-clause-leads c =
    let n = c.nearer_sense-oriented.ensures in
    λ p e l k. ap (λ (s : Oriented). some s) (n.nearer p e) ∙ lead_lower p _ _ _ (omega (arith, c.if-c-lowest.true))

pub returns-then-c-lowest-clause-stands : goal.returns-then-c-lowest-clause-stands
unfolding ChoiceStands
returns-then-c-lowest-clause-stands c =
    let n = c.nearer_sense-oriented.ensures in
    λ ws s h e. (omega arith, e ∙ ap (λ (d : ContourRange). packed (contour_of d)) (sym n.contour))

pub returns-clause-leads : goal.returns-clause-leads
returns-clause-leads c =
    let n = c.nearer_sense-oriented.ensures in
    λ p e l k.
    c.nearer.ensures.leads
    ∙ ap (leads nearer_end (choice_of c.args.best)) (n.nearer p e)
    ∙ lead_alike p _ _ _ (omega (arith, c.if-c-lowest.false, c.if-leaves.ensures.low refl))
