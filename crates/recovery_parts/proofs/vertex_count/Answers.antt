-- Path point i lands on its vertex, or it doesn't.
use Rattle.std.proofs.Common.{refl, sym, ◌∙◌, arith}
use Rattle.contour_recovery.specs.ContourRecovery.{vertex_count}
use Rattle.recovery_parts.specs.VertexCounts.{count_landing, count_passing}
use Rattle.recovery_parts.proofs.vertex_count.Goals as goal
use Rattle.recovery_parts.proofs.vertex_count.Goals.{then-lands, else-lands}

pub loop-i-init : goal.loop-i-init
unfolding vertex_count
loop-i-init c = refl

pub loop-i-preserved : goal.loop-i-preserved
loop-i-preserved c =
    let i = c.loop-i.i in
    let told = sym c.lands.ensures in
    elim c.if-lands.branch [
      | then-lands w ↦
          let step = count_landing c.args.marks.now c.args.vertices.now i (told ∙ w.if-lands.true) in
          omega (arith, step, w.count-is, w.max-count.ensures, c.loop-i.invariant)
      | else-lands w ↦
          let step = count_passing c.args.marks.now c.args.vertices.now i (told ∙ w.if-lands.false) in
          omega (arith, step, w.count-is, c.loop-i.invariant)
    ]
