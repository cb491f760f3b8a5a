-- The caches are reset, contour by contour. Assumes nothing.
use Rattle.std.proofs.Common.{arith}
use Rattle.std.specs.Float.Ieee.{of_bits}
use Rattle.prepare.proofs.Resets.{resetting_start, resetting_step, resetting_room}
use Rattle.prepare.proofs.reset_caches.Goals as goal

pub loop-j-init : goal.loop-j-init
loop-j-init c = resetting_start _ _ _ _

pub overflow_add-first : goal.overflow_add-first
overflow_add-first c =
    let p = c.requires in
    omega (arith, resetting_room p.laid p.contours p.room c.loop-j.invariant c.loop-j-test.true, p.few)

pub loop-j-preserved : goal.loop-j-preserved
unfolding of_bits
loop-j-preserved c =
    let p = c.requires in
    resetting_step p.laid p.contours p.room c.loop-j.invariant c.loop-j-test.true
