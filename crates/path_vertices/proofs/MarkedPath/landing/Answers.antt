-- What `landing` returns, by the words.
use Rattle.std.proofs.Common.{refl, arith}
use Rattle.recovery_laws.specs.ByKind.{fresh}
use Rattle.path_vertices.proofs.MarkedPath.landing.Goals as goal
use Rattle.path_vertices.proofs.MarkedPath.landing.Goals.{else-v-le-HIGHEST_VERTEX-via-then-v-le-HIGHEST_VERTEX+else-not-has_landed, else-v-le-HIGHEST_VERTEX-via-else-v-le-HIGHEST_VERTEX}

pub returns-then-not-has_landed-clause-fresh : goal.returns-then-not-has_landed-clause-fresh
unfolding fresh
returns-then-not-has_landed-clause-fresh c =
    λ i read.
    let e = c.has_landed.ensures _ i read.landings in
    (λ t. grind (arith, e, c.if-v-le-HIGHEST_VERTEX.true, c.if-not-has_landed.true), λ t. refl)

pub returns-else-v-le-HIGHEST_VERTEX-clause-fresh : goal.returns-else-v-le-HIGHEST_VERTEX-clause-fresh
unfolding fresh
returns-else-v-le-HIGHEST_VERTEX-clause-fresh c =
    λ i read.
    elim c.else-v-le-HIGHEST_VERTEX.branch [
      | else-v-le-HIGHEST_VERTEX-via-then-v-le-HIGHEST_VERTEX+else-not-has_landed w ↦
          let e = w.has_landed.ensures _ i read.landings in
          (λ t. absurd (grind (arith, t)), λ t. absurd (grind (arith, t, e, w.if-not-has_landed)))
      | else-v-le-HIGHEST_VERTEX-via-else-v-le-HIGHEST_VERTEX w ↦ (λ t. absurd (grind (arith, t)), λ t. absurd (grind (arith, t, w.if-v-le-HIGHEST_VERTEX)))
    ]
