-- The lengths that are kept while a path is measured. Definitions only.
use Rattle.std.specs.Prelude.{◌≡◌, List, ℕ, suc, ◌<◌, Float, get_or}
use Rattle.rules.specs.HandedOver.{at}
use Rattle.rules.specs.Lengths.{pair_length}

-- Of each of the path's first k pairs: place i has the length of the pair of path points i and i + 1.
abbrev pub LengthsKept : List ℕ → List Float → ℕ → Type 0
LengthsKept kept path k = (i : ℕ) → i < k → get_or kept i 0 ≡ pair_length (at path i) (at path (suc i))
