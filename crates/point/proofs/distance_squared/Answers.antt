-- `point::distance_squared` meets its contract.
use mathlib.Core.Path.{◌≡◌, sym}
use mathlib.Core.Bool.{Bool, true, false, not, ◌&&◌}
use lib.Dec.{T}
use lib.Ieee.{Float, binary64, mul, sub}
use lib.Ieee.Scale.{finite}
use Rattle.std.proofs.lemmas.Float.{T_from_true}
use Rattle.rules.specs.Distances.{distance_squared}
use Rattle.point.specs.Squares.{mul_unsigned, not_finite_sum, finite_unsigned}
use Rattle.point.proofs.distance_squared.Goals as goal
use Rattle.point.proofs.distance_squared.Goals.{then-not-is_finite-via-then-not-is_finite, then-not-is_finite-via-else-not-is_finite+then-not-is_finite-2}

first_not : (x z : Float) → finite x ≡ false → T (not (finite x && finite z))
first_not x z h = rw h tt

second_not : (x z : Float) → finite z ≡ false → T (not (finite x && finite z))
second_not x z h = go (finite x)
  where
    go : (b : Bool) → T (not (b && finite z))
    go true = rw h tt
    go false = tt

pub returns-then-not-is_finite : goal.returns-then-not-is_finite
unfolding distance_squared
returns-then-not-is_finite c =
    let dx = sub binary64 c.args.p.x c.args.q.x in
    let dy = sub binary64 c.args.p.y c.args.q.y in
    not_finite_sum binary64 dx (mul binary64 dy dy) (mul_unsigned binary64 dy) (elim c.then-not-is_finite.branch [
      | then-not-is_finite-via-then-not-is_finite w ↦ first_not dx (mul binary64 dy dy) (sym w.if-not-is_finite.ensures)
      | then-not-is_finite-via-else-not-is_finite+then-not-is_finite-2 w ↦ second_not dx (mul binary64 dy dy) (sym w.if-not-is_finite-2.ensures)
    ])

pub square_plus-requires : goal.square_plus-requires
square_plus-requires c =
    let dx = sub binary64 c.args.p.x c.args.q.x in
    let dy = sub binary64 c.args.p.y c.args.q.y in
    record {
      finite = T_from_true _ (sym c.if-not-is_finite.ensures);
      plus = finite_unsigned (mul binary64 dy dy) (T_from_true _ (sym c.if-not-is_finite-2.ensures)) (mul_unsigned binary64 dy);
    }

pub returns : goal.returns
unfolding distance_squared
returns c = c.square_plus.ensures
