-- Half the width and half the height.
use Rattle.std.specs.Float.Ieee.{of_bits}
use Rattle.rules.specs.Start.{centre, half}
use Rattle.start.proofs.image_center.Goals as goal

pub returns : goal.returns
unfolding centre half of_bits
returns c = rw (c.from.ensures, c.from-2.ensures)
