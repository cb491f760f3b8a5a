-- The first path point that breaks a rule, or the words after all.
use Rattle.std.proofs.Common.{refl, ◌<◌, length, ◌∙◌, arith, add-one}
use Rattle.path_vertices.proofs.ReadSteps.{read_none, first_breaking}
use Rattle.path_vertices.proofs.first_inconsistent.Goals as goal

pub loop-i-init : goal.loop-i-init
loop-i-init c =
    record {
      path = refl;
      marks = refl;
      same = (refl, refl, refl, refl);
      read = read_none _ _ _ c.requires;
    }

pub returns-in_default-clause-found : goal.returns-in_default-clause-found
returns-in_default-clause-found c =
    let l = c.loop-i in
    let i = l.invariant in
    let inside : l.i < length c.args.marked.now.landings.vertices.now = omega (arith, c.loop-i-test.true, c.args.marked.now.paired) in
    let breaks = rw (i.path, i.marks) at (c.in_default.ensures.keeps.1) in
    (inside, first_breaking _ _ _ _ l.i i.read inside (λ t. grind (arith, breaks t)))

pub loop-i-preserved : goal.loop-i-preserved
loop-i-preserved c =
    let i = c.loop-i.invariant in
    let after = c.tally.ensures in
    record {
      path = after.path ∙ i.path;
      marks = after.marks ∙ i.marks;
      same = let s = after.same in (s.0 ∙ i.same.0, s.1 ∙ i.same.1, s.2 ∙ i.same.2, s.3 ∙ i.same.3);
      read = rw (add-one, ← i.path, ← i.marks) after.read;
    }
