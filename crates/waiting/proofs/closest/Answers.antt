-- A turn takes one contour from those that are left.
use Rattle.std.proofs.Common.{◌<◌, arith}
use Rattle.waiting.proofs.LeadLaws.{scanned_length, scanned_at, led_step}
use Rattle.waiting.proofs.closest.Goals as goal

pub loop-j-preserved : goal.loop-j-preserved
loop-j-preserved c =
    let r = c.lead_after-lead.ensures in
    let i = c.loop-j.invariant in
    let lay = c.args.lay in
    let n = scanned_length c.args.work.now lay.waiting lay.contours (omega (arith, c.requires.laid)) in
    let h : c.loop-j.j < lay.contours = omega (arith, n, c.loop-j-test.true) in
    (r.led _ h i.0, led_step _ _ _ _ h (scanned_at c.args.work.now lay.waiting lay.contours c.loop-j.j h) r.leads i.1)
