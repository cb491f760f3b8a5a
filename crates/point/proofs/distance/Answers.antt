-- `point::distance` meets its contract.
use mathlib.Core.Path.{◌≡◌, sym, subst, ap, ◌∙◌}
use mathlib.Core.Bool.{Bool, false, not}
use lib.Dec.{T}
use lib.Ieee.{Float, binary64}
use lib.Ieee.Scale.{finite}
use Rattle.std.proofs.lemmas.Float.{T_from_true}
use Rattle.rules.specs.Distances.{sqrt, distance}
use Rattle.point.specs.Squares.{unsigned, distance_squared_unsigned, not_finite_root, finite_unsigned}
use Rattle.point.proofs.distance.Goals as goal

is_false : (b : Bool) → b ≡ false → T (not b)
is_false b h = rw h tt

pub returns-then-not-is_finite : goal.returns-then-not-is_finite
unfolding distance
returns-then-not-is_finite c =
    let d = c.distance_squared-squared in
    not_finite_root binary64 d.result (subst (λ (x : Float). T (unsigned x)) (sym d.ensures) (distance_squared_unsigned c.args.p c.args.q)) (is_false (finite d.result) (sym c.if-not-is_finite.ensures))
    ∙ ap (sqrt binary64) d.ensures

pub square_root-requires : goal.square_root-requires
square_root-requires c =
    let d = c.distance_squared-squared in
    finite_unsigned d.result (T_from_true _ (sym c.if-not-is_finite.ensures)) (subst (λ (x : Float). T (unsigned x)) (sym d.ensures) (distance_squared_unsigned c.args.p c.args.q))

pub returns : goal.returns
unfolding distance
returns c = c.square_root.ensures ∙ ap (sqrt binary64) c.distance_squared-squared.ensures
