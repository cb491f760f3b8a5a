-- A sample goes in front of its cell's chain, any other vertex alters nothing.
use Rattle.std.proofs.Common.{refl, sym, ◌∙◌, arith}
use Rattle.samples.proofs.ChainPush.{pushed, rising_skip, in_cell, not_in_cell, no_sample}
use Rattle.samples.proofs.push_sample.Goals as goal

pub returns-then-work-o-ne0 : goal.returns-then-work-o-ne0
returns-then-work-o-ne0 c =
    let k = c.cell_at.ensures in
    let p = c.requires.plated in
    let r =
    pushed c.args.work.now _ _ c.args.frame.now.layout.owners _ _ _ _ _ c.requires.chained p.laid.heads p.laid.next
    (omega (arith, p.laid)) (omega (arith, k.below, p.cells)) c.requires.vertex
    (in_cell _ _ _ _ c.if-work-o-ne0.true (sym k.cell))
    (λ b u. not_in_cell _ _ _ _ (λ e. u (sym e ∙ sym k.cell))) in
    record { chained = r.0; above = r.1; below = r.2 }

pub returns-else-work-o-ne0 : goal.returns-else-work-o-ne0
returns-else-work-o-ne0 c =
    record {
      chained = rising_skip c.requires.chained c.requires.vertex (λ b. no_sample _ _ _ _ c.if-work-o-ne0.false);
      above = λ i g. refl;
      below = λ i g. refl;
    }
