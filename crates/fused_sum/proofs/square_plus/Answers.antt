-- `fused_sum::square_plus` meets its contract: a zero on either side, and the sum of normalized numbers.
use mathlib.Core.Path.{◌∙◌}
use Rattle.rounding.specs.SquareSum.{both_nonzero, first_zero, second_zero}
use Rattle.fused_sum.proofs.square_plus.Goals as goal

pub returns-then-b-eq0 : goal.returns-then-b-eq0
returns-then-b-eq0 c =
    let b = c.magnitude_of-b in
    second_zero c.args.x c.args.y b.result.significand b.result.exponent c.requires.finite c.requires.plus b.ensures c.if-b-eq0.true

pub returns-then-a-eq0 : goal.returns-then-a-eq0
returns-then-a-eq0 c =
    let a = c.magnitude_of-a in
    first_zero c.args.x c.args.y a.result.significand a.result.exponent c.requires.finite c.requires.plus a.ensures c.if-a-eq0.true

pub returns : goal.returns
returns c =
    let a = c.magnitude_of-a in
    let b = c.magnitude_of-b in
    let u = c.normalized in
    let v = c.normalized-2 in
    c.normalized_sum.ensures
    ∙ both_nonzero c.args.x c.args.y a.result.significand a.result.exponent b.result.significand b.result.exponent
    u.result.significand u.result.exponent v.result.significand v.result.exponent
    c.requires.finite c.requires.plus a.ensures b.ensures u.ensures v.ensures
