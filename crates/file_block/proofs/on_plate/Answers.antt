-- A pattern beyond the infinities' is off the plate, and each other one is a number.
use Rattle.std.proofs.Common.{sym}
use Rattle.std.specs.Float.Ieee.{of_bits}
use Rattle.rules.specs.HandedOver.{plate_limit}
use Rattle.file_block.specs.BlockTests.{pattern_off, pattern_number}
use Rattle.file_block.proofs.on_plate.Goals as goal

pub returns-then-bits-gt-INFINITY_BITS : goal.returns-then-bits-gt-INFINITY_BITS
returns-then-bits-gt-INFINITY_BITS c = sym (pattern_off _ c.if-bits-gt-INFINITY_BITS.true)

pub float_from_bits-bits : goal.float_from_bits-bits
float_from_bits-bits c = pattern_number _ c.if-bits-gt-INFINITY_BITS.false

pub returns : goal.returns
unfolding plate_limit of_bits
returns c = c.in_range.ensures
