-- The first path point that breaks a rule, or their end.
use Rattle.std.proofs.Common.{◌≡◌, ◌/◌, length, sym, ◌∙◌, arith, add-one}
use Rattle.path_check.specs.FirstFailing.{first_pass, first_fail, first_end}
use Rattle.path_check.proofs.first_failing.Goals as goal

pub returns-then-not-keeps_rules-clause-found : goal.returns-then-not-keeps_rules-clause-found
returns-then-not-keeps_rules-clause-found c =
    let l = c.loop-i in
    let i = l.invariant in
    λ cs t.
    let p = i.kept cs t in
    let r = rw (i.points, i.path, i.marks) at (c.if-not-keeps_rules.ensures.rules cs) in
    (c.loop-i-test.true, sym (p.0 ∙ first_fail _ l.i _ c.loop-i-test.true (sym (r p.1))))

pub loop-i-preserved : goal.loop-i-preserved
loop-i-preserved c =
    let l = c.loop-i in
    let i = l.invariant in
    let start = c.args.checked.now in
    record {
      points = i.points;
      path = i.path;
      marks = i.marks;
      same = let s = c.tally.ensures.same in (s.0 ∙ i.same.0, s.1 ∙ i.same.1, s.2 ∙ i.same.2, s.3 ∙ i.same.3);
      kept = λ cs t.
          let p = i.kept cs t in
          let r = rw (i.points, i.path, i.marks) at (c.if-not-keeps_rules.ensures.rules cs) in
          let more = rw i.marks at (c.tally.ensures.tallied cs start.points.now start.path.now) in
          let keeps = sym (r p.1) in
          (p.0 ∙ first_pass _ l.i _ c.loop-i-test.true keeps, rw add-one (more p.1 keeps));
    }

pub returns-clause-none : goal.returns-clause-none
returns-clause-none c =
    let l = c.loop-i in
    let end : l.i ≡ length c.args.checked.now.path.now / 2 = omega arith in
    λ cs t n.
    let p = l.invariant.kept cs t in
    (p.0 ∙ first_end _ l.i _ c.loop-i-test.false ∙ end, rw end at p.1)
