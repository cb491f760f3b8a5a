-- What the exported sum and root answer: a NaN outside of the domain of the leaf. Definitions only.
use Rattle.std.specs.Prelude.{◌&&◌, Float}
use Rattle.std.specs.Float.{nan, binary64}
use Rattle.std.specs.Float.Ieee.Scale.{finite}
use Rattle.rules.specs.Tools.{pick}
use Rattle.rules.specs.Distances.{mul_add, sqrt}
use Rattle.rounding.specs.Magnitude.{non_negative}

unfoldable pub square_plus : Float → Float → Float
square_plus x y = pick (finite x && non_negative y) (mul_add binary64 x x y) nan

unfoldable pub square_root : Float → Float
square_root x = pick (non_negative x) (sqrt binary64 x) nan
