-- `grid::polyline_bounding_box`: the box of all points is the box so far, widened by those that come.
use Rattle.std.proofs.Common.{◌≡◌}
use Rattle.std.specs.Slice.Iter.{chunks_exact_rest, chunks_exact_size}
use Rattle.rules.specs.Box.{box, box_from}
use Rattle.grid.proofs.polyline_bounding_box.Given as goal

abbrev pub invariant-loop-pair : goal.invariant-loop-pair
invariant-loop-pair l = (chunks_exact_size l.pair-iterator ≡ 2) × (box l.points ≡ box_from l.b (chunks_exact_rest l.pair-iterator))
