-- `magnitude::cast::truncated` meets its contract.
use native.Mathlib.Omega.{arith}
use lib.Ieee.{of_bits}
use Rattle.rounding.specs.TruncatedCast.{cut_none, cut_some, cut_most, cut_finite}
use Rattle.magnitude.proofs.cast.truncated.Goals as goal

pub magnitude_of-m-requires : goal.magnitude_of-m-requires
unfolding of_bits
magnitude_of-m-requires c = cut_finite c.args.x c.if-x.true c.if-x-2.true

pub overflow_sub-result : goal.overflow_sub-result
unfolding of_bits
overflow_sub-result c =
    omega (arith, (cut_some c.args.x c.magnitude_of-m.result.significand c.magnitude_of-m.result.exponent c.if-x.true c.if-x-2.true c.magnitude_of-m.ensures).most)

pub overflow_shr-result : goal.overflow_shr-result
unfolding of_bits
overflow_shr-result c =
    omega (arith, (cut_some c.args.x c.magnitude_of-m.result.significand c.magnitude_of-m.result.exponent c.if-x.true c.if-x-2.true c.magnitude_of-m.ensures).least)

pub overflow_cast-result : goal.overflow_cast-result
unfolding of_bits
overflow_cast-result c =
    omega (arith, (cut_some c.args.x c.magnitude_of-m.result.significand c.magnitude_of-m.result.exponent c.if-x.true c.if-x-2.true c.magnitude_of-m.ensures).fits)

pub returns-then-x-2 : goal.returns-then-x-2
unfolding of_bits
returns-then-x-2 c =
    (cut_some c.args.x c.magnitude_of-m.result.significand c.magnitude_of-m.result.exponent c.if-x.true c.if-x-2.true c.magnitude_of-m.ensures).whole

pub returns-then-x : goal.returns-then-x
unfolding of_bits
returns-then-x c = cut_most c.args.x c.if-x.true c.if-x-2.false

pub returns : goal.returns
unfolding of_bits
returns c = cut_none c.args.x c.if-x.false
