-- A pair of points has the same length from either end. Assumes nothing.
use Rattle.std.specs.Prelude.{◌≡◌, Float}
use Rattle.std.proofs.Common.{ap}
use Rattle.std.specs.Float.{binary64}
use Rattle.rules.specs.Distances.{sqrt, distance}
use Rattle.rules.specs.Lengths.{in_1024ths, pair_length}
use Rattle.rules.specs.declared.Point.{Point}
use Rattle.length_laws.specs.EitherWay.{distance_swap}

pub pair_swap : (a b : Point) → pair_length a b ≡ pair_length b a
unfolding pair_length distance
pair_swap a b = ap (λ (d : Float). in_1024ths (sqrt binary64 d)) (distance_swap a b)
