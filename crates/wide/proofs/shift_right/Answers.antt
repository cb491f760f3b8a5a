-- `wide::shift_right` meets its contract.
use Rattle.std.proofs.Common.{arith}
use Rattle.rounding.specs.Wide.{shift_far, shift_all}
use Rattle.wide.proofs.shift_right.Goals as goal

pub returns-then-d-lt128 : goal.returns-then-d-lt128
returns-then-d-lt128 c =
    let l = c.shift_right_below_64-c in
    let s =
    shift_far c.args.w.hi c.args.w.lo c.args.d l.result.value.hi l.result.value.lo l.result.sticky c.sticky_bit.result c.sticky_bit-then-d-lt128.result
    (omega arith) (omega arith) c.if-d-lt64.false l.ensures.value l.ensures.sticky c.sticky_bit.ensures.bit c.sticky_bit-then-d-lt128.ensures.bit in
    record { value = s.value; sticky = s.sticky }

pub returns : goal.returns
returns c =
    let s =
    shift_all c.args.w.hi c.args.w.lo c.args.d c.sticky_bit-2.result c.sticky_bit-3.result c.sticky_bit-4.result
    (omega arith) (omega arith) c.if-d-lt128.false c.sticky_bit-2.ensures.bit c.sticky_bit-3.ensures.bit c.sticky_bit-4.ensures.bit in
    record { value = s.value; sticky = s.sticky }
