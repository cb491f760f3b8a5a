-- The facts on prepared slices, of a frame. Definitions only.
use Rattle.std.specs.Prelude.{List, ℕ, Float}
use Rattle.rules.specs.HandedOver.{Plate}
use Rattle.rules.specs.SamplesAndCache.{Waiting}
use Rattle.frame.specs.declared.Frame.{Frame}
use Rattle.waiting.specs.Holds.{Holds, Changed}
use Rattle.prepare.specs.PreparedSlices.{Prepared}

abbrev pub PreparedBy : Frame → List Float → List ℕ → Type 0
PreparedBy f ds w = Prepared f.points.now f.grid.spatial f.layout ds w

abbrev pub HoldsBy : Frame → List Float → List ℕ → Waiting → Type 0
HoldsBy f ds w c = Holds f.points.now f.grid.spatial f.layout ds w c

abbrev pub ChangedBy : Frame → List Float → List ℕ → List Float → List ℕ → (Plate → Waiting → Waiting) → Type 0
ChangedBy f ds w ds' w' change = Changed f.points.now f.grid.spatial f.layout ds w ds' w' change
