-- The words after a path point that keeps the rules, by whether it steps back.
use Rattle.std.proofs.Common.{arith}
use Rattle.rules.specs.Marks.{kind_at}
use Rattle.recovery_laws.specs.ByKind.{rule_within}
use Rattle.path_vertices.proofs.ReadSteps.{read_back, read_landed}
use Rattle.path_vertices.proofs.MarkedPath.tally.Goals as goal

pub land-requires-clause-vertex : goal.land-requires-clause-vertex
land-requires-clause-vertex c =
    let q = c.requires in
    omega (arith, rule_within _ _ _ c.args.i q.kept, q.vertex)

pub land-requires-clause-heads : goal.land-requires-clause-heads
land-requires-clause-heads c = c.requires.read.landings.within

pub returns-then-self-i-eq-BACK_STEP-clause-read : goal.returns-then-self-i-eq-BACK_STEP-clause-read
unfolding kind_at
returns-then-self-i-eq-BACK_STEP-clause-read c =
    let q = c.requires in
    let after = c.step_back.ensures in
    read_back _ _ _ _ c.args.i c.args.v.0 q.inside q.read q.kept q.vertex after.vertices c.if-self-i-eq-BACK_STEP.true (after.holds _ q.read.landings)

pub returns-else-self-i-eq-BACK_STEP-clause-read : goal.returns-else-self-i-eq-BACK_STEP-clause-read
unfolding kind_at
returns-else-self-i-eq-BACK_STEP-clause-read c =
    let q = c.requires in
    let after = c.land.ensures in
    read_landed _ _ _ _ c.args.i c.args.v.0 q.inside q.read q.kept q.vertex after.vertices c.if-self-i-eq-BACK_STEP.false (after.holds _ q.read.landings)
