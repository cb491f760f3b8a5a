-- At the start no number is read, and each turn reads one more, which is no NaN.
use Rattle.std.proofs.Common.{refl}
use Rattle.little_endian.specs.Bytes.{floats}
use Rattle.little_endian.specs.PatternSteps.{read_number}
use Rattle.little_endian.specs.Widths.{read_next}
use Rattle.little_endian.proofs.read_f64s.Goals as goal

pub loop-j-init : goal.loop-j-init
unfolding floats
loop-j-init c = refl

pub float_from_bits-x : goal.float_from_bits-x
float_from_bits-x c = read_number c.args.bytes.now c.args.i _ c.loop-j.j c.requires.numbers c.loop-j-test.true c.read.ensures.number

pub loop-j-preserved : goal.loop-j-preserved
loop-j-preserved c =
    let a = c.args in
    let l = c.loop-j in
    read_next a.xs.now a.bytes.now a.i l.j c.loop-j-test.true l.invariant c.read.ensures.number
