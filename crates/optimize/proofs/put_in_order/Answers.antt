-- The start's contour first, then one after the other.
use Rattle.std.proofs.Common.{◌≡◌, length, refl, arith}
use Rattle.rules.specs.HandedOver.{plate, plate_of}
use Rattle.optimize.specs.State.{Continued}
use Rattle.optimize.proofs.Steps.{whole_order}
use Rattle.optimize.proofs.put_in_order.Goals as goal

pub put_first-requires : goal.put_first-requires
unfolding plate
put_first-requires c = (plate_of c.args.checked.now.input, c.requires.listed, c.requires.start, c.args.checked.now.accepted)

pub loop-done-init : goal.loop-done-init
unfolding plate
loop-done-init c =
    let e : length c.args.work.now ≡ length c.put_first.new.work = omega arith in
    (refl, rw e at (c.put_first.ensures (plate_of c.args.checked.now.input) c.requires.listed c.requires.start c.args.checked.now.accepted))

pub loop-done-preserved : goal.loop-done-preserved
unfolding Continued
loop-done-preserved c =
    let e : length c.loop-done.work ≡ length c.put_next.new.work = omega arith in
    (omega arith, rw e at c.in-Some.ensures)

pub returns-in_default : goal.returns-in_default
unfolding Continued
returns-in_default c = c.in_default.ensures

pub returns : goal.returns
returns c =
    let st = c.loop-done.invariant.1 in
    let e : c.loop-done.done ≡ length c.loop-done.work = omega (arith, st.total, c.loop-done-test.false) in
    rw e at (whole_order st (omega arith))
