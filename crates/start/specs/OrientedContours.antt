-- The code's oriented contours as the definitions have them. Definitions only.
use Rattle.std.proofs.Math.Option.{Option, none, some}
use Rattle.std.specs.Prelude.{ℕ, ◌<◌, Some, None}
use Rattle.std.specs.Prelude as prelude
use Rattle.rules.specs.Start as start
use Rattle.contours.specs.ContourOf.{contour_of}
use Rattle.start.specs.declared.OrientedContour.{OrientedContour}

unfoldable pub oriented_of : OrientedContour → start.Oriented
oriented_of s = record { contour = contour_of s.contour; reversed = s.reversed; squared = s.squared }

unfoldable pub lead_of : prelude.Option OrientedContour → Option start.Oriented
lead_of (Some s) = some (oriented_of s)
lead_of None = none

-- the one in the lead has a number below n
abbrev pub LeadIn : ℕ → prelude.Option OrientedContour → Type 0
LeadIn n (Some s) = s.contour.number < n
LeadIn n None = Unit {0}
