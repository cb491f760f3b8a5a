-- The flags of segments, in a part of the work slice: what they say, and the runs that they join. Definitions only.
use Rattle.std.specs.Prelude.{◌≡◌, Bool, List, ℕ, ◌<◌, ltb, length, get_or}
use Rattle.contour_recovery.specs.ContourRecovery.{runs, is_segment_cut}

-- segment v is cut, by its flag
unfoldable pub flagged : List ℕ → ℕ → Bool
flagged flags v = ltb 0 (get_or flags v 0)

-- the lengths of the runs of vertices that have a flag each
unfoldable pub flagged_runs : List ℕ → List ℕ
flagged_runs flags = runs (flagged flags) 0 (length flags)

-- each segment that has a flag is flagged exactly where the marks cut it
unfoldable pub Flags : List ℕ → List ℕ → Type 0
Flags ms flags = (v : ℕ) → v < length flags → flagged flags v ≡ is_segment_cut ms v
