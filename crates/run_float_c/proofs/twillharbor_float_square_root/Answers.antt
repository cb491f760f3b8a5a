-- `run_float_c::twillharbor_float_square_root` meets its contract.
use mathlib.Core.Path.{sym}
use lib.Ieee.{of_bits}
use Rattle.rules.specs.Tools.{pick}
use Rattle.run_float_c.specs.Domain.{square_root}
use Rattle.run_float_c.proofs.twillharbor_float_square_root.Goals as goal

pub returns-then-is_non_negative : goal.returns-then-is_non_negative
unfolding square_root pick
returns-then-is_non_negative c = rw (sym c.if-is_non_negative.ensures) c.square_root.ensures

pub returns-else-is_non_negative : goal.returns-else-is_non_negative
unfolding square_root pick of_bits
returns-else-is_non_negative c = rw (sym c.if-is_non_negative.ensures)
