-- The box of "Grid and nearest" of document 01. Definitions only.
use Rattle.std.specs.Prelude.{true, false, List, [], ◌∷◌, Float}
use Rattle.std.specs.Float.{inf}
use Rattle.rules.specs.Tools.{lesser, greater}
use Rattle.rules.specs.declared.BoundingBox.{BoundingBox}

-- least and greatest coordinates; only contours that are not empty have any
unfoldable pub widen : BoundingBox → Float → Float → BoundingBox
widen b x y =
    record { min_x = lesser b.min_x x; min_y = lesser b.min_y y; max_x = greater b.max_x x; max_y = greater b.max_y y }

unfoldable pub box_from : BoundingBox → List Float → BoundingBox
box_from b [] = b
box_from b (x ∷ []) = b
box_from b (x ∷ y ∷ xs) = box_from (widen b x y) xs

unfoldable pub box : List Float → BoundingBox
box xs = box_from (record { min_x = inf false; min_y = inf false; max_x = inf true; max_y = inf true }) xs
