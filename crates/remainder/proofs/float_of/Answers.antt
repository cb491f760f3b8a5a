-- `remainder::float_of` meets its contract.
use native.Mathlib.Omega.{arith}
use Rattle.remainder.proofs.Exact.{zero_float}
use Rattle.remainder.proofs.BitPattern.{taken_few, pattern_not_nan, packs}
use Rattle.remainder.proofs.float_of.Goals as goal

pub returns-then-r-eq0 : goal.returns-then-r-eq0
returns-then-r-eq0 c = zero_float c.args.r c.args.e c.if-r-eq0.true c.requires.exponent

pub overflow_shl-result : goal.overflow_shl-result
overflow_shl-result c =
    let t = c.twos_taken-taken.ensures in
    omega (arith, taken_few c.args.r c.args.e c.twos_taken-taken.result c.requires.exponent (record { most = t.most; fits = t.fits; filled = t.filled }) (omega arith))

pub float_from_bits-result : goal.float_from_bits-result
float_from_bits-result c =
    let t = c.twos_taken-taken.ensures in
    pattern_not_nan c.args.r c.args.e c.twos_taken-taken.result c.requires.exponent (record { most = t.most; fits = t.fits; filled = t.filled })

pub returns : goal.returns
returns c =
    let t = c.twos_taken-taken.ensures in
    packs c.args.r c.args.e c.twos_taken-taken.result c.requires.exponent (record { most = t.most; fits = t.fits; filled = t.filled })
