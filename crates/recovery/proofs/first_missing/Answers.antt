-- Vertex v was landed on, or it is the first that was not.
use Rattle.std.proofs.Common.{◌≡◌, sym, ◌∙◌, arith}
use Rattle.recovery_laws.specs.FirstFailing.{pass_none, pass_more, first_found, none_found}
use Rattle.recovery.proofs.first_missing.Goals as goal

pub loop-v-init : goal.loop-v-init
loop-v-init c = record { landed = λ S i h. pass_none S }

pub returns-then-not-has_landed-clause-found : goal.returns-then-not-has_landed-clause-found
returns-then-not-has_landed-clause-found c =
    let l = c.loop-v in
    λ S i h.
    (c.loop-v-test.true, first_found S l.v c.args.count (l.invariant.landed S i h) c.loop-v-test.true (sym (c.has_landed.ensures S i h) ∙ c.if-not-has_landed.true))

pub loop-v-preserved : goal.loop-v-preserved
loop-v-preserved c =
    let l = c.loop-v in
    record { landed = λ S i h. pass_more S l.v (l.invariant.landed S i h) (sym (c.has_landed.ensures S i h) ∙ c.if-not-has_landed.false) }

pub returns-clause-none : goal.returns-clause-none
returns-clause-none c =
    let l = c.loop-v in
    let end : l.v ≡ c.args.count = omega arith in
    λ S i h n. rw end at (none_found S l.v (l.invariant.landed S i h))
