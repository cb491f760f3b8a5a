-- What `lands_fresh` returns, by the vertex, the point and the word.
use Rattle.std.proofs.Common.{sym, ◌∙◌, arith}
use Rattle.path_rules.proofs.FreshLandings.{lands_off, lands_other, lands_here}
use Rattle.path_rules.proofs.PlatePath.lands_fresh.Goals as goal
use Rattle.path_rules.proofs.PlatePath.lands_fresh.Goals.{then-vertex-self, else-vertex-self}

pub returns-then-same_point-clause-fresh : goal.returns-then-same_point-clause-fresh
returns-then-same_point-clause-fresh c =
    λ cs ms t.
    elim c.if-vertex-self.branch [
      | then-vertex-self w ↦
          let here = rw (w.point_in.ensures, w.point_at.ensures) at (sym w.same_point.ensures ∙ sym w.value-is ∙ c.if-same_point.true) in
          rw c.contour_word.ensures (lands_here _ _ _ _ _ t _ _ _ w.if-vertex-self.true here)
      | else-vertex-self w ↦ absurd (grind arith)
    ]

pub returns-else-same_point-clause-fresh : goal.returns-else-same_point-clause-fresh
returns-else-same_point-clause-fresh c =
    λ cs ms t.
    elim c.if-vertex-self.branch [
      | then-vertex-self w ↦
          let other = rw (w.point_in.ensures, w.point_at.ensures) at (sym w.same_point.ensures ∙ sym w.value-is ∙ c.if-same_point.false) in
          c.if-same_point.false ∙ sym (lands_other _ _ _ _ _ t _ _ _ other)
      | else-vertex-self w ↦ c.if-same_point.false ∙ sym (lands_off _ _ _ _ _ t _ _ _ w.if-vertex-self.false)
    ]
