-- The parked point's coordinates are those tested.
use Rattle.std.specs.Float.Ieee.{of_bits}
use Rattle.rules.specs.HandedOver.{plate_limit, off_the_plate, parked_coordinates}
use Rattle.plate.proofs.check_parked.Goals as goal

pub returns-in-Home : goal.returns-in-Home
unfolding off_the_plate plate_limit of_bits parked_coordinates
returns-in-Home c = rw c.in-Home.is c.check_range.ensures
