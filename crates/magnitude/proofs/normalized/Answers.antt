-- `magnitude::normalized` meets its contract.
use native.Mathlib.Omega.{arith}
use Rattle.rounding.specs.Magnitude.{zeros, normalize_normal, normalize}
use Rattle.magnitude.proofs.normalized.Goals as goal

pub returns-then-m-ge4503599627370496 : goal.returns-then-m-ge4503599627370496
returns-then-m-ge4503599627370496 c = normalize_normal c.args.m.significand c.args.m.exponent (omega arith) c.requires.fits c.requires.in_range

pub overflow_sub-result : goal.overflow_sub-result
overflow_sub-result c = omega (arith, zeros c.args.m.significand c.args.m.exponent c.requires.nonzero c.requires.fits)

pub returns : goal.returns
returns c = rw c.from-zeros.ensures (normalize c.args.m.significand c.args.m.exponent c.requires.nonzero c.requires.fits c.requires.in_range)
