-- `square_root::first_estimate` meets its contract.
use Rattle.std.proofs.Common.{arith}
use Rattle.square_root.specs.Estimate.{first_fits, quotient_fits, product_fits, rest_fits, estimates}
use Rattle.square_root.proofs.first_estimate.Goals as goal

pub overflow_mul-above : goal.overflow_mul-above
overflow_mul-above c =
    let f = c.first_root-first in
    omega (arith, first_fits c.requires.least c.requires.most f.ensures.root f.ensures.reciprocal)

pub overflow_mul-above-2 : goal.overflow_mul-above-2
overflow_mul-above-2 c =
    let f = c.first_root-first in
    omega (arith, quotient_fits c.requires.least c.requires.most f.ensures.root f.ensures.reciprocal)

pub overflow_mul-rest : goal.overflow_mul-rest
overflow_mul-rest c =
    let f = c.first_root-first in
    omega (arith, product_fits c.requires.least c.requires.most f.ensures.root f.ensures.reciprocal)

pub overflow_sub-rest : goal.overflow_sub-rest
overflow_sub-rest c =
    let f = c.first_root-first in
    omega (arith, product_fits c.requires.least c.requires.most f.ensures.root f.ensures.reciprocal)

pub overflow_mul-result : goal.overflow_mul-result
overflow_mul-result c =
    let f = c.first_root-first in
    omega (arith, rest_fits c.requires.least c.requires.most f.ensures.root f.ensures.reciprocal)

pub returns : goal.returns
returns c =
    let f = c.first_root-first in
    estimates c.requires.least c.requires.most f.ensures.root f.ensures.reciprocal
