-- Points and strategies, by the arguments of the C interface. Definitions only.
use Rattle.std.specs.Prelude.{Bool, Float}
use Rattle.rules.specs.Tools.{pick}
use Rattle.rules.specs.declared.Point.{Point}
use Rattle.rules.specs.declared.StartPointStrategy.{StartPointStrategy}
use Rattle.rules.specs.declared.StartPointStrategy.TheVariants.{Outside, Inside}

unfoldable pub point_of : Float → Float → Point
point_of x y = record { x = x; y = y }

unfoldable pub strategy_of : Bool → StartPointStrategy
strategy_of inside = pick inside Inside Outside
