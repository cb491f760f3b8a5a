-- Empty contours that were passed over leave the contours that are left as they were.
use Rattle.std.proofs.Common.{◌≡◌, length}
use Rattle.contours.specs.ContoursLeft.{contours_left}
use Rattle.contours.proofs.ContoursIterator.next.Given as goal

abbrev pub invariant-lengths : goal.invariant-lengths
invariant-lengths l = contours_left l.self ≡ contours_left l.fn.self

abbrev pub decreases-lengths : goal.decreases-lengths
decreases-lengths l = length l.self.lengths.now
