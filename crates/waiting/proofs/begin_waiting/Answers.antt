-- The contours begin to wait, one after the other. Assumes nothing.
use Rattle.std.proofs.Common.{arith}
use Rattle.waiting.proofs.BeginningLaws.{begun_none, begun_next}
use Rattle.waiting.proofs.begin_waiting.Goals as goal

pub loop-j-init : goal.loop-j-init
loop-j-init c = begun_none _ _ _

pub loop-j-preserved : goal.loop-j-preserved
loop-j-preserved c = begun_next c.requires.laid c.requires.contours c.loop-j.invariant c.loop-j-test.true

pub returns : goal.returns
returns c =
    let b = c.loop-j.invariant in
    record { waits = λ j l. b.waits j (omega (arith, c.requires.contours, c.loop-j-test.false)); below = b.below; above = b.above }
