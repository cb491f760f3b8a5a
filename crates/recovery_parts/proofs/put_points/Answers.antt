-- Path point i lands on its vertex, whose point is then written, or it doesn't.
use Rattle.std.proofs.Common.{◌≡◌, length, sym, ◌∙◌, arith}
use Rattle.recovery_parts.specs.PointPlaces.{put_none, put_passing, put_landing, put_all, room_x, room_y}
use Rattle.recovery_parts.proofs.put_points.Goals as goal
use Rattle.recovery_parts.proofs.put_points.Goals.{then-lands, else-lands}

pub loop-i-init : goal.loop-i-init
loop-i-init c = record { put = put_none c.args.path.now c.args.marks.now c.args.vertices.now _ c.args.points.now }

pub bounds-points-v : goal.bounds-points-v
bounds-points-v c =
    let l = c.loop-i in
    let e = sym c.lands.ensures ∙ c.if-lands.true in
    room_x c.args.path.now c.args.marks.now c.args.vertices.now _ c.args.points.now c.requires.landed l.i c.loop-i-test.true l.points l.invariant.put e c.requires.room

pub bounds-points-v-then-lands : goal.bounds-points-v-then-lands
bounds-points-v-then-lands c =
    let l = c.loop-i in
    let e = sym c.lands.ensures ∙ c.if-lands.true in
    room_y c.args.path.now c.args.marks.now c.args.vertices.now _ c.args.points.now c.requires.landed l.i c.loop-i-test.true l.points l.invariant.put e c.requires.room

pub loop-i-preserved : goal.loop-i-preserved
loop-i-preserved c =
    let l = c.loop-i in
    let a = c.args in
    let told = sym c.lands.ensures in
    let h = c.loop-i-test.true in
    record {
      put = elim c.if-lands.branch [
        | then-lands w ↦
            rw w.points-is
            (put_landing a.path.now a.marks.now a.vertices.now _ a.points.now c.requires.landed l.i h l.points l.invariant.put (told ∙ w.if-lands.true) c.requires.room)
        | else-lands w ↦
            rw w.points-is
            (put_passing a.path.now a.marks.now a.vertices.now _ a.points.now c.requires.landed l.i h l.points l.invariant.put (told ∙ w.if-lands.false))
      ];
    }

pub returns : goal.returns
returns c =
    let l = c.loop-i in
    let a = c.args in
    let end : l.i ≡ length a.vertices.now = omega arith in
    put_all a.path.now a.marks.now a.vertices.now _ a.points.now c.requires.landed c.requires.room l.points (rw end at l.invariant.put)
