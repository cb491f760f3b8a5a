-- The code's contours as the definitions have them, and where their vertices lie. Definitions only.
use Rattle.std.specs.Prelude.{List, ◌+◌, ◌*◌, ◌<◌, Float, length}
use Rattle.rules.specs.Limits.{most_points}
use Rattle.rules.specs.HandedOver as handed
use Rattle.contours.specs.declared.ContourRange.{ContourRange}

unfoldable pub contour_of : ContourRange → handed.Contour
contour_of c = record { number = c.number; first = c.first.0; last = c.last }

-- its vertices have numbers of a plate
abbrev pub InRange : ContourRange → Type 0
InRange c = c.first.0 + c.last < most_points

-- and their points are in the slice xs
abbrev pub InSlice : List Float → ContourRange → Type 0
InSlice xs c = 2 * (c.first.0 + c.last) + 1 < length xs
