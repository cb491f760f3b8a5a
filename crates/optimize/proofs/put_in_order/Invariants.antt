-- `State`, of as many contours as are in order.
use Rattle.std.proofs.Common.{length, ◌≡◌}
use Rattle.rules.specs.HandedOver.{plate_of}
use Rattle.start.specs.OrientedContours.{oriented_of}
use Rattle.optimize.specs.State.{State}
use Rattle.optimize.proofs.put_in_order.Given as goal

abbrev pub invariant-loop-done : goal.invariant-loop-done
invariant-loop-done l = (length l.work ≡ length l.initial.work) × State (plate_of l.checked.input) l.work (length l.work) l.done (oriented_of l.last)
