-- The landing, the cuts upward, the walk back and the cuts downward, one after the other.
use Rattle.std.proofs.Common.{◌≡◌, ◌+◌, ◌-◌, sym, arith, Ok, Err}
use Rattle.rules.specs.Marks.{kind_of, reference_of, land}
use Rattle.contours.specs.ContourOf.{contour_of}
use Rattle.emission.proofs.DrawnByCalls.{lands_full, rises, rises_full, rises_done, walks_full, falls_done}
use Rattle.emission.proofs.emit.Goals as goal

pub returns-in_err-put-clause-adds : goal.returns-in_err-put-clause-adds
unfolding land contour_of
returns-in_err-put-clause-adds c =
    let m = c.args.landing in
    let v = reference_of m in
    let e = v - c.args.c.first.0 in
    let is : c.args.c.first.0 + e ≡ v = omega (arith, c.requires.low) in
    let p = rw c.reference.ensures at (sym c.point_at.ensures.point) in
    lands_full (kind_of m) (contour_of c.args.c) e v is c.args.points.now.coordinates.now c.args.writer.now c.put.new.self c.in_err-put.field-0.0
    (c.in_err-put.ensures.adds _ v p) _ c.from_residual.ensures.0

pub returns-in_err-cut_up-clause-adds : goal.returns-in_err-cut_up-clause-adds
unfolding land contour_of
returns-in_err-cut_up-clause-adds c =
    let m = c.args.landing in
    let v = reference_of m in
    let e = v - c.args.c.first.0 in
    let is : c.args.c.first.0 + e ≡ v = omega (arith, c.requires.low) in
    let p = rw c.reference.ensures at (sym c.point_at.ensures.point) in
    let put = c.in_ok-put.ensures in
    let up = c.in_err-cut_up in
    let x = up.field-0.0 in
    let d = rises (kind_of m) (contour_of c.args.c) e v is c.args.points.now.coordinates.now c.args.writer.now c.put.new.self c.cut_up.new.writer (Err x)
    put.same put.written (put.adds _ v p) up.ensures.same up.ensures.written (rw (← c.reference.ensures) up.ensures.adds) in
    rises_full (kind_of m) (contour_of c.args.c) e v is c.args.points.now.coordinates.now c.args.writer.now c.cut_up.new.writer x d.adds _ c.from_residual-in_err-cut_up.ensures.0

pub returns-then-e-eq0-clause-adds : goal.returns-then-e-eq0-clause-adds
unfolding land contour_of
returns-then-e-eq0-clause-adds c =
    let m = c.args.landing in
    let v = reference_of m in
    let e = v - c.args.c.first.0 in
    let is : c.args.c.first.0 + e ≡ v = omega (arith, c.requires.low) in
    let p = rw c.reference.ensures at (sym c.point_at.ensures.point) in
    let put = c.in_ok-put.ensures in
    let up = c.in_ok-cut_up.ensures in
    let z = rw c.reference.ensures at c.if-e-eq0.true in
    let d = rises (kind_of m) (contour_of c.args.c) e v is c.args.points.now.coordinates.now c.args.writer.now c.put.new.self c.cut_up.new.writer (Ok tt)
    put.same put.written (put.adds _ v p) up.same up.written (rw (← c.reference.ensures) up.adds) in
    rises_done (kind_of m) (contour_of c.args.c) e v is c.args.points.now.coordinates.now c.args.writer.now c.cut_up.new.writer z d.adds

pub returns-in_err-walk_back-clause-adds : goal.returns-in_err-walk_back-clause-adds
unfolding land contour_of
returns-in_err-walk_back-clause-adds c =
    let m = c.args.landing in
    let v = reference_of m in
    let e = v - c.args.c.first.0 in
    let is : c.args.c.first.0 + e ≡ v = omega (arith, c.requires.low) in
    let p = rw c.reference.ensures at (sym c.point_at.ensures.point) in
    let put = c.in_ok-put.ensures in
    let up = c.in_ok-cut_up.ensures in
    let z = rw c.reference.ensures at c.if-e-eq0.false in
    let back = c.in_err-walk_back in
    let d = rises (kind_of m) (contour_of c.args.c) e v is c.args.points.now.coordinates.now c.args.writer.now c.put.new.self c.cut_up.new.writer (Ok tt)
    put.same put.written (put.adds _ v p) up.same up.written (rw (← c.reference.ensures) up.adds) in
    walks_full (kind_of m) (contour_of c.args.c) e v is c.args.points.now.coordinates.now c.args.writer.now c.requires.fits z c.cut_up.new.writer c.walk_back.new.self d
    back.ensures.same back.field-0.0 (back.ensures.adds _) _ c.from_residual-in_err-walk_back.ensures.0

pub returns-clause-adds : goal.returns-clause-adds
unfolding land contour_of
returns-clause-adds c =
    let m = c.args.landing in
    let v = reference_of m in
    let e = v - c.args.c.first.0 in
    let is : c.args.c.first.0 + e ≡ v = omega (arith, c.requires.low) in
    let p = rw c.reference.ensures at (sym c.point_at.ensures.point) in
    let put = c.in_ok-put.ensures in
    let up = c.in_ok-cut_up.ensures in
    let z = rw c.reference.ensures at c.if-e-eq0.false in
    let back = c.in_ok-walk_back.ensures in
    let down = c.cut_down.ensures in
    let d = rises (kind_of m) (contour_of c.args.c) e v is c.args.points.now.coordinates.now c.args.writer.now c.put.new.self c.cut_up.new.writer (Ok tt)
    put.same put.written (put.adds _ v p) up.same up.written (rw (← c.reference.ensures) up.adds) in
    falls_done (kind_of m) (contour_of c.args.c) e v is c.args.points.now.coordinates.now c.args.writer.now c.requires.fits z c.cut_up.new.writer c.walk_back.new.self d
    back.same back.written (back.adds _) c.cut_down.new.writer c.cut_down.result down.same down.written (rw (← c.reference.ensures) down.adds)
