-- `fused_sum::add_shifted` meets its contract.
use mathlib.Core.Path.{◌∙◌}
use native.Mathlib.Omega.{arith}
use Rattle.rounding.specs.SquareSum.{sum_is}
use Rattle.fused_sum.proofs.add_shifted.Goals as goal

pub returns : goal.returns
returns c =
    let p = c.args.p in
    let q = c.args.q in
    let r = c.shift_right-c in
    let w = c.plus-w in
    c.round_pack_wide.ensures
    ∙ sum_is p.hi p.lo q.hi q.lo c.args.d r.result.value.hi r.result.value.lo r.result.sticky
    c.requires.least c.requires.first (omega arith) c.requires.second (omega arith) r.ensures.value r.ensures.sticky w.result.hi w.result.lo w.ensures.value w.ensures.low c.args.e c.requires.shift
