-- What is accepted is accepted in one way.
use Rattle.std.specs.Prelude.{ℕ, List, [], ◌∷◌, Float}
use Rattle.std.proofs.Math.Nat.{ℕ_set}
use Rattle.std.specs.Coded.{×_prop, Unit-prop, le_prop}
use Rattle.std.proofs.Math.Dec.{T_prop}
use Rattle.rules.specs.HandedOver.{in_range, plate_limit}
use Rattle.plate_laws.specs.Lists.{All}
use Rattle.plate_laws.specs.FiniteDistances.{OnPlate}
use Rattle.plate_laws.specs.AcceptedInput.{Accepted}

pub on_plate_prop : (xs : List Float) → IsProp (All OnPlate xs)
on_plate_prop [] = Unit-prop
on_plate_prop (x ∷ xs) = ×_prop (T_prop (in_range plate_limit x)) (on_plate_prop xs)

pub accepted_prop : (xs : List Float) (ns : List ℕ) → IsProp (Accepted xs ns)
accepted_prop xs ns a b =
    λ i. record {
      contours = le_prop a.contours b.contours i;
      points = le_prop a.points b.points i;
      counted = ℕ_set _ _ a.counted b.counted i;
      on_plate = on_plate_prop xs a.on_plate b.on_plate i;
    }
