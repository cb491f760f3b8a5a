-- `packed_contours::list_contours`: those of the contours that are not left are written.
use Rattle.std.proofs.Common.{length}
use Rattle.rules.specs.Tools.{sum}
use Rattle.rules.specs.HandedOver.{contours_of}
use Rattle.plate_laws.specs.Lists.{All}
use Rattle.contours.specs.ContoursLeft.{contours_left, WithinCounts}
use Rattle.packed_contours.proofs.ListedContours.{Listed}
use Rattle.packed_contours.proofs.list_contours.Given as goal

abbrev pub invariant-loop-c : goal.invariant-loop-c
invariant-loop-c l = record {
  can : (goal.iterator-loop-c).can_next l.c-iterator;
  ends : (goal.iterator-loop-c).is_finite l.c-iterator;
  within : All (WithinCounts (length l.lengths) (sum l.lengths)) (contours_left l.c-iterator);
  listed : Listed (contours_of l.lengths) (contours_left l.c-iterator) l.fn.work l.work l.n;
}
