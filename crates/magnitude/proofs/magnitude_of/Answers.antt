-- `magnitude::magnitude_of` meets its contract.
use mathlib.Core.Path.{sym, subst}
use lib.Dec.{T}
use lib.Ieee.{binary64, fits}
use Rattle.rounding.specs.Magnitude.{finite_not_nan, subnormal_magnitude, normal_magnitude}
use Rattle.magnitude.proofs.magnitude_of.Goals as goal

pub float_to_bits-b : goal.float_to_bits-b
float_to_bits-b c = finite_not_nan c.args.x c.requires

pub returns-then-e-eq0 : goal.returns-then-e-eq0
returns-then-e-eq0 c =
    let held : T (fits binary64 c.args.x) = subst T (sym c.well_formed.0.1) tt in
    subnormal_magnitude c.args.x held c.requires c.if-e-eq0.true

pub returns-else-e-eq0 : goal.returns-else-e-eq0
returns-else-e-eq0 c =
    let held : T (fits binary64 c.args.x) = subst T (sym c.well_formed.0.1) tt in
    normal_magnitude c.args.x held c.requires c.if-e-eq0.false
