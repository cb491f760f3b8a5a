-- `remainder::remainder` meets its contract.
use mathlib.Core.Path.{sym}
use lib.Ieee.{of_bits}
use Rattle.remainder.proofs.Exact.{by_infinity, by_nan, of_not_finite}
use Rattle.remainder.proofs.remainder.Goals as goal

pub returns-then-not-is_finite : goal.returns-then-not-is_finite
unfolding of_bits
returns-then-not-is_finite c = of_not_finite c.args.t c.args.s (sym c.if-not-is_finite.ensures)

pub returns-then-is_nan : goal.returns-then-is_nan
unfolding of_bits
returns-then-is_nan c = by_nan c.args.t c.args.s (sym c.if-is_nan.ensures.value)

pub returns-else-is_nan : goal.returns-else-is_nan
returns-else-is_nan c =
    by_infinity c.args.t c.args.s (sym c.if-not-is_finite.ensures) (sym c.if-is_finite.ensures) (sym c.if-is_nan.ensures.value)
