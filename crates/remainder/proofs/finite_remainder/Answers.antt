-- `remainder::finite_remainder` meets its contract.
use mathlib.Core.Path.{sym, subst}
use native.Mathlib.Omega.{arith}
use lib.Dec.{T}
use lib.Ieee.{of_bits, div}
use Rattle.rounding.specs.Magnitude.{finite_not_nan}
use Rattle.remainder.proofs.Exact.{by_zero, by_larger, answer_above, answer_below}
use Rattle.remainder.proofs.finite_remainder.Goals as goal

pub returns-then-b-eq0 : goal.returns-then-b-eq0
unfolding of_bits div
returns-then-b-eq0 c =
    let b = c.magnitude_of-b in
    by_zero c.args.t c.args.s b.result.significand b.result.exponent c.requires.first c.requires.second b.ensures c.if-b-eq0.true

pub returns-then-a-b : goal.returns-then-a-b
returns-then-a-b c =
    let a = c.magnitude_of-a in
    let b = c.magnitude_of-b in
    by_larger c.args.t c.args.s a.result.significand a.result.exponent b.result.significand b.result.exponent
    (subst T (sym c.well_formed.0.1) tt) c.requires.first c.requires.second a.ensures b.ensures (omega arith) c.if-a-b.true

pub is_sign_positive-requires : goal.is_sign_positive-requires
is_sign_positive-requires c = finite_not_nan c.args.t c.requires.first

pub returns-then-is_sign_positive : goal.returns-then-is_sign_positive
returns-then-is_sign_positive c =
    let a = c.magnitude_of-a in
    let b = c.magnitude_of-b in
    answer_above c.args.t c.args.s a.result.significand a.result.exponent b.result.significand b.result.exponent c.shifted_remainder-r.result c.float_of-magnitude.result
    c.requires.first c.requires.second a.ensures b.ensures (omega arith) c.if-a-b.false c.shifted_remainder-r.ensures c.float_of-magnitude.ensures c.if-is_sign_positive.ensures

pub returns-else-is_sign_positive : goal.returns-else-is_sign_positive
returns-else-is_sign_positive c =
    let a = c.magnitude_of-a in
    let b = c.magnitude_of-b in
    answer_below c.args.t c.args.s a.result.significand a.result.exponent b.result.significand b.result.exponent c.shifted_remainder-r.result c.float_of-magnitude.result
    c.requires.first c.requires.second a.ensures b.ensures (omega arith) c.if-a-b.false c.shifted_remainder-r.ensures c.float_of-magnitude.ensures c.if-is_sign_positive.ensures
