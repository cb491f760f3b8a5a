-- The facts on a plate's points, grid and parts, of a frame that has the three. Definitions only.
use Rattle.std.specs.Prelude.{List, ℕ}
use Rattle.samples.specs.PlatedSlice.{Plated}
use Rattle.samples.specs.Chains.{ChainedSamples}
use Rattle.frame.specs.declared.Frame.{Frame}

abbrev pub PlatedBy : Frame → List ℕ → Type 0
PlatedBy f w = Plated f.points.now f.grid.spatial f.layout w

abbrev pub ChainedBy : Frame → (ℕ → ℕ) → List ℕ → ℕ → Type 0
ChainedBy f owner w v = ChainedSamples f.points.now f.grid.spatial f.layout owner w v
