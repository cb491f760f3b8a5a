-- The box, widened pair by pair. Assumes nothing.
use mathlib.Core.Path.{◌≡◌, refl}
use mathlib.Core.List.{List, [], ◌∷◌, ◌++◌}
use Prim.Native.Nat.{◌<◌}
use native.Mathlib.Omega.{arith}
use lib.ListN.{length, get_or}
use lib.Ieee.{Float, nan}
use Rattle.rules.specs.Box.{widen, box_from}
use Rattle.rules.specs.declared.BoundingBox.{BoundingBox}

pub box_pair : (b : BoundingBox) (pair xs : List Float) → length pair ≡ 2 →
    box_from b (pair ++ xs) ≡ box_from (widen b (get_or pair 0 nan) (get_or pair 1 nan)) xs
unfolding box_from
box_pair b [] xs h = absurd (omega arith)
box_pair b (x ∷ []) xs h = absurd (omega arith)
box_pair b (x ∷ y ∷ []) xs h = refl
box_pair b (x ∷ y ∷ z ∷ pair) xs h = absurd (omega arith)

-- a last lone coordinate is skipped
pub box_short : (b : BoundingBox) (xs : List Float) → length xs < 2 → box_from b xs ≡ b
unfolding box_from
box_short b [] h = refl
box_short b (x ∷ []) h = refl
box_short b (x ∷ y ∷ xs) h = absurd (omega arith)
