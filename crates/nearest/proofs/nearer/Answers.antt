-- `nearest::nearer`: the tests of the code are that of the definition.
use Rattle.std.proofs.Common.{sym, ◌∙◌}
use Rattle.rules.specs.GridAndNearest.{wins, found}
use Rattle.point.specs.Bound.{beyond_above, above_not_below, above_not_equal}
use Rattle.nearest.proofs.NearerPoint.{first_found, passed_over, wins_over, place_before}
use Rattle.nearest.proofs.nearer.Goals as goal

pub returns-in_default : goal.returns-in_default
unfolding found
returns-in_default c = λ g. rw c.distance_squared.ensures (first_found _ _ c.in_default.is)

pub returns-then-is_beyond : goal.returns-then-is_beyond
unfolding wins
returns-then-is_beyond c =
    let far = beyond_above _ _ _ (sym c.is_beyond.ensures ∙ c.if-is_beyond.true) in
    λ g. passed_over _ _ _ _ c.in-Found.is (rw (above_not_below _ _ far, above_not_equal _ _ far))

pub returns-then-squared-least : goal.returns-then-squared-least
unfolding wins found
returns-then-squared-least c =
    let d = c.distance_squared-squared.ensures in
    λ g. rw d (wins_over _ _ _ _ c.in-Found.is (rw (← d, c.if-squared-least.true)))

pub returns-then-lt : goal.returns-then-lt
unfolding wins found
returns-then-lt c =
    let d = c.distance_squared-squared.ensures in
    λ g. rw d (wins_over _ _ _ _ c.in-Found.is (rw (← d, c.if-squared-least.false, c.if-squared-least-2.true) (sym (place_before _ _) ∙ sym c.lt.ensures ∙ c.if-lt.true)))

pub returns-else-lt : goal.returns-else-lt
unfolding wins
returns-else-lt c =
    let d = c.distance_squared-squared.ensures in
    λ g. passed_over _ _ _ _ c.in-Found.is (rw (← d, c.if-squared-least.false, c.if-squared-least-2.true) (sym (place_before _ _) ∙ sym c.lt.ensures ∙ c.if-lt.false))

pub returns-else-squared-least-2 : goal.returns-else-squared-least-2
unfolding wins
returns-else-squared-least-2 c =
    let d = c.distance_squared-squared.ensures in
    λ g. passed_over _ _ _ _ c.in-Found.is (rw (← d, c.if-squared-least.false, c.if-squared-least-2.false))
