-- A choice of the code as the definitions have it. Definitions only.
use Rattle.std.specs.Prelude.{◌≡◌, List, ℕ, ◌<◌, get_or, Some, None}
use Rattle.std.specs.Prelude as prelude
use Rattle.std.proofs.Math.Option.{Option, none, some}
use Rattle.rules.specs.Tools.{highest_layer}
use Rattle.rules.specs.HandedOver.{Plate}
use Rattle.rules.specs.Start.{Oriented, layer_of}
use Rattle.start.specs.OrientedContours.{oriented_of}
use Rattle.contours.specs.ContourOf.{contour_of}
use Rattle.packed_contours.specs.PackedNumbers.{packed}
use Rattle.optimize.specs.declared.nearest.Choice.{Choice}

unfoldable pub choice_of : prelude.Option Choice → Option Oriented
choice_of (Some c) = some (oriented_of c.oriented)
choice_of None = none

-- the layer of what is chosen; where nothing is, the highest that takes part
unfoldable pub lowest_of : Plate → Option Oriented → ℕ
lowest_of p none = highest_layer
lowest_of p (some s) = layer_of p s

-- the chosen contour stands at its place, which is below n
unfoldable pub ChoiceStands : List ℕ → ℕ → prelude.Option Choice → Type 0
ChoiceStands words n (Some c) = (c.place < n) × (get_or words c.place 0 ≡ packed (contour_of c.oriented.contour))
ChoiceStands words n None = Unit {0}
