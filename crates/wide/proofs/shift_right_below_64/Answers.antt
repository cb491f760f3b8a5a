-- `wide::shift_right_below_64` meets its contract.
use Rattle.std.proofs.Common.{le_of_lt, arith}
use Rattle.rounding.specs.Wide.{shift_fits, shift_is}
use Rattle.wide.proofs.shift_right_below_64.Goals as goal

pub overflow_add-result : goal.overflow_add-result
overflow_add-result c =
    record { fits = shift_fits c.args.w.hi c.args.w.lo c.args.d (omega arith) (omega arith) (le_of_lt c.requires) }

pub returns : goal.returns
returns c =
    let s = shift_is c.args.w.hi c.args.w.lo c.args.d (omega arith) (omega arith) (le_of_lt c.requires) c.sticky_bit.result c.sticky_bit.ensures.bit in
    record { value = s.value; sticky = s.sticky }
