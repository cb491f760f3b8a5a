-- `compare::is_finite` meets its contract.
use Rattle.std.specs.Prelude.{◌≡◌, refl, Float}
use Rattle.std.proofs.Common.{◌∙◌}
use Rattle.std.specs.Float.{nan, inf, fin, float_is_finite}
use Rattle.std.specs.Float.Ieee.Scale.{finite}
use Rattle.compare.proofs.is_finite.Goals as goal

same : (x : Float) → float_is_finite x ≡ finite x
unfolding float_is_finite
same nan = refl
same (inf s) = refl
same (fin s m e) = refl

pub returns : goal.returns
returns c = c.is_finite.ensures.value ∙ same c.args.x
