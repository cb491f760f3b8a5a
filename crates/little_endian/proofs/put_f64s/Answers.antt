-- At the start no pattern is written, and each turn writes one more.
use Rattle.std.proofs.Common.{◌∙◌, length, refl, ap}
use Rattle.std.proofs.Math.Seq.{length-sets}
use Rattle.little_endian.specs.Bytes.{patterns}
use Rattle.little_endian.specs.Widths.{put_next}
use Rattle.little_endian.proofs.put_f64s.Goals as goal

pub loop-j-init : goal.loop-j-init
unfolding patterns
loop-j-init c = (refl, refl)

pub loop-j-preserved : goal.loop-j-preserved
loop-j-preserved c =
    let a = c.args in
    let l = c.loop-j in
    let e = c.put.ensures in
    (ap length e ∙ (simp length-sets l.invariant.0), put_next a.bytes.now a.xs.now a.i l.j c.loop-j-test.true l.invariant.1 e)
