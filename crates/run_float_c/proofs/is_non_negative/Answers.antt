-- `run_float_c::is_non_negative`: of a finite number the sign is asked.
use mathlib.Core.Path.{◌≡◌, refl, subst, ◌∙◌}
use mathlib.Core.Bool.{not}
use lib.Dec.{T}
use lib.Ieee.{Float, nan, inf, fin}
use lib.Ieee.Scale.{finite}
use Rattle.std.specs.Float.{is_sign_negative}
use Rattle.rounding.specs.Magnitude.{non_negative, finite_not_nan}
use Rattle.run_float_c.proofs.is_non_negative.Goals as goal

by_sign : (x : Float) → T (finite x) → not (is_sign_negative x) ≡ non_negative x
unfolding is_sign_negative
by_sign nan h = absurd h
by_sign (inf s) h = absurd h
by_sign (fin s m e) h = refl

pub is_sign_positive-requires : goal.is_sign_positive-requires
is_sign_positive-requires c = finite_not_nan c.args.x (subst T c.if-is_finite.ensures tt)

pub returns-then-is_finite : goal.returns-then-is_finite
returns-then-is_finite c = c.is_sign_positive.ensures ∙ by_sign c.args.x (subst T c.if-is_finite.ensures tt)
