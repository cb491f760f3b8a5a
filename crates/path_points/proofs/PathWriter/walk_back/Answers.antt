-- `PathWriter::walk_back`: one place back, and where the walk ends.
use Rattle.std.proofs.Common.{sym, ◌-◌, arith, Err}
use Rattle.rules.specs.HandedOver.{at}
use Rattle.path_points.proofs.WalkBack.{walking_on, walked_on, walking_full, walking_done}
use Rattle.path_points.proofs.PathWriter.walk_back.Goals as goal

pub put-requires : goal.put-requires
unfolding at
put-requires c =
    let w = c.loop-place.invariant in
    let on = (w.written.pen.ready (omega (arith, w.written.fits, w.fits))).coords in
    rw c.point-p.ensures (record { x = on _ (omega arith); y = on _ (omega arith) })

pub loop-place-preserved : goal.loop-place-preserved
loop-place-preserved c =
    let put = c.in_ok-put.ensures in
    walking_on c.loop-place.invariant (omega (arith, c.loop-place-test.true)) (omega (arith, c.loop-place-test.true)) (sym c.point-p.ensures) put.adds put.same
    put.written

pub returns-in_err-put-clause-adds : goal.returns-in_err-put-clause-adds
returns-in_err-put-clause-adds c xs =
    let w = c.loop-place.invariant in
    let e = c.in_err-put in
    let j = c.loop-place.place - 1 in
    let before = c.args.self.now in
    let on = walked_on w {j = j} (omega (arith, c.loop-place-test.true)) (sym c.point-p.ensures) c.put.new.self (Err e.field-0.0) e.ensures.adds xs in
    walking_full before c.put.new.self _ {j = j} (omega (arith, c.loop-place-test.true)) (omega (arith, w.high)) w.fits on _ c.from_residual.ensures.0

pub returns-clause-adds : goal.returns-clause-adds
returns-clause-adds c = walking_done c.loop-place.invariant c.loop-place-test.false
