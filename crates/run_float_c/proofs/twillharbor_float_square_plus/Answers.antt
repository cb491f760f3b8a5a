-- `run_float_c::twillharbor_float_square_plus` meets its contract.
use mathlib.Core.Path.{sym}
use lib.Ieee.{of_bits}
use Rattle.rules.specs.Tools.{pick}
use Rattle.run_float_c.specs.Domain.{square_plus}
use Rattle.run_float_c.proofs.twillharbor_float_square_plus.Goals as goal
use Rattle.run_float_c.proofs.twillharbor_float_square_plus.Goals.{else-is_finite-via-then-is_finite+else-is_non_negative, else-is_finite-via-else-is_finite}

pub returns-then-is_non_negative : goal.returns-then-is_non_negative
unfolding square_plus pick
returns-then-is_non_negative c = rw (sym c.if-is_finite.ensures, sym c.if-is_non_negative.ensures) c.square_plus.ensures

pub returns-else-is_finite : goal.returns-else-is_finite
unfolding square_plus pick of_bits
returns-else-is_finite c =
    elim c.else-is_finite.branch [
      | else-is_finite-via-then-is_finite+else-is_non_negative w ↦ rw (sym w.if-is_finite.ensures, sym w.if-is_non_negative.ensures)
      | else-is_finite-via-else-is_finite w ↦ rw (sym w.if-is_finite.ensures)
    ]
