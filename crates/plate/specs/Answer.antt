-- What the check of points and lengths answers, and the rows that its parts test. Definitions only.
use Rattle.std.specs.Prelude.{ℕ, List, [], ◌∷◌, Float}
use Rattle.rules.specs.HandedOver.{RefusalRow, too_many_contours, too_many_points, miscounted}

-- refusals 1 to 3
unfoldable pub count_rows : List Float → List ℕ → List RefusalRow
count_rows xs ns = too_many_contours ns ∷ too_many_points ns ∷ miscounted xs ns ∷ []
