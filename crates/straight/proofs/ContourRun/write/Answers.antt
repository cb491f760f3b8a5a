-- A turn writes one point behind the last.
use Rattle.std.proofs.Common.{◌+◌, ◌*◌, List, Float, refl, sym, ap, ap₂, ◌∙◌, slice_set, arith, length-set}
use Rattle.rules.specs.HandedOver.{at, over}
use Rattle.rules.specs.Marks.{coordinates}
use Rattle.rules.specs.declared.Point.{Point}
use Rattle.plate_laws.specs.OrderTotals.{run_length}
use Rattle.slices.specs.Pairs.{coordinates_store}
use Rattle.straight.specs.Runs.{run}
use Rattle.straight.proofs.RunVertices.{run_below}
use Rattle.straight.proofs.ContourRun.write.Goals as goal

pub loop-i-init : goal.loop-i-init
unfolding coordinates over
loop-i-init c = (refl, refl)

pub point_at-p-requires : goal.point_at-p-requires
point_at-p-requires c =
    let s = c.args.self in
    omega (arith, c.vertex.ensures, run_below s.reversed s.first.0 s.size c.loop-i.i (omega arith))

pub loop-i-preserved : goal.loop-i-preserved
unfolding run
loop-i-preserved c =
    let a = c.args in
    let s = a.self in
    let l = c.loop-i in
    let xs = a.points.now in
    let vs = run s.reversed s.first.0 s.size in (
      simp length-set (omega arith),
      ap₂ (λ (o : List Float) (q : Point). slice_set (slice_set o (2 * l.i) q.x) (2 * l.i + 1) q.y) l.invariant.1
          (c.point_at-p.ensures ∙ ap (at xs) c.vertex.ensures)
          ∙ sym (coordinates_store xs vs a.part.now l.i (omega (arith, run_length s.reversed s.first.0 s.size)) (omega arith)),
    )
