-- The point of a vertex, of coordinates that are all on the plate.
use Rattle.plate_laws.specs.AcceptedInput.{point_on}
use Rattle.plate.proofs.checked_input.PlatePoints.point_at.Goals as goal

pub returns-clause-on_plate : goal.returns-clause-on_plate
returns-clause-on_plate c = rw c.point_at.ensures (point_on _ _ c.args.self.now.on_plate c.requires)
