-- The lead among contours that are told by their numbers. Definitions only.
use Rattle.std.specs.Prelude.{Bool, List, ℕ, get_or, Float, Some, None}
use Rattle.std.specs.Prelude as prelude
use Rattle.std.proofs.Math.Option.{Option, none, some}
use Rattle.std.specs.Float.{nan}
use Rattle.std.specs.Float.Ieee.{lt}

-- contour i is closer than the best so far, by the cached distances
unfoldable pub closer_by : List Float → ℕ → ℕ → Bool
closer_by ds i best = lt (get_or ds i nan) (get_or ds best nan)

-- the layer of contour i
unfoldable pub layer_by : List ℕ → ℕ → ℕ
layer_by ls i = get_or ls i 0

-- what the code keeps: the number of the one in the lead, where there is one
unfoldable pub leader_of : prelude.Option ℕ → Option ℕ
leader_of (Some best) = some best
leader_of None = none
