-- `caches::try_sample` meets its contract: a vertex that is no sample, or whose contour waits no more, alters nothing. Assumes nothing.
use Rattle.std.proofs.Common.{◌≡◌, ℕ, suc, ◌-◌, arith}
use Rattle.work_layout.specs.Parts.{from}
use Rattle.caches.proofs.Tries.{moved_none, moved_left, moved_own}
use Rattle.caches.proofs.try_sample.Goals as goal

pub returns-then-owner-eq0 : goal.returns-then-owner-eq0
returns-then-owner-eq0 c = moved_none _ _ _ c.if-owner-eq0.true

pub returns-then-not-waits : goal.returns-then-not-waits
returns-then-not-waits c =
    let o : ℕ = from c.args.work.now c.args.frame.now.layout.owners c.args.v.0 in
    let some : o ≡ suc (o - 1) = omega (arith, c.if-owner-eq0.false) in
    moved_left _ _ _ (o - 1) some (grind (arith, c.if-not-waits.ensures))

pub returns : goal.returns
returns c =
    let o : ℕ = from c.args.work.now c.args.frame.now.layout.owners c.args.v.0 in
    let some : o ≡ suc (o - 1) = omega (arith, c.if-owner-eq0.false) in
    let few = c.requires.querying.prepared.owners c.args.v.0 c.requires.vertex in
    let laid = c.requires.querying.prepared.plated.laid in
    moved_own _ _ _ (o - 1) some (omega (arith, few, c.requires.querying.prepared.room)) (omega (arith, few, laid)) (omega (arith, few, laid))
    (rw c.ask-found.ensures at c.improve.ensures)
