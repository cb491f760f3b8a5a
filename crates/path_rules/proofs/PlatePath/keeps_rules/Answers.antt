-- What `keeps_rules` returns, by the kind of the mark.
use Rattle.std.proofs.Common.{◌≡◌, ℕ, suc, ◌-◌, List, sym, ◌∙◌, ap, subst, inr, arith}
use borrow.Author.Tests.{ne_eqb}
use Rattle.rules.specs.HandedOver.{Contour, at}
use Rattle.rules.specs.Marks.{landing_kind, kind_at, kind_of, reference_of}
use Rattle.path_rules.specs.PathWords.{Tallied}
use Rattle.path_rules.proofs.MarkKinds.{no_start_kind, IsLanding, landing_reference, landing_no_cut, landing_no_back}
use Rattle.path_rules.proofs.ByKind.{keeps_start, no_start, keeps_cut, keeps_back, keeps_landing, no_landing, late_start, no_kind}
use Rattle.path_rules.proofs.PlatePath.keeps_rules.Goals as goal

-- the words before path point i, as those after path point i − 1
tallied_after : (cs : List Contour) (total : ℕ) (ms : List ℕ) (i : ℕ) (work : List ℕ) → (i ≡ 0 → ⊥) → Tallied cs total ms i work →
    Tallied cs total ms (suc (i - 1)) work
tallied_after cs total ms i work n t = subst (λ (j : ℕ). Tallied cs total ms j work) (omega arith) t

pub returns-in_default-clause-rules : goal.returns-in_default-clause-rules
returns-in_default-clause-rules c = λ cs t. no_kind cs _ _ _ c.args.i (λ h. let x = c.in_default.ensures.known.1 h in cc)

pub returns-in-Start-clause-rules : goal.returns-in-Start-clause-rules
returns-in-Start-clause-rules c =
    let n = c.in-Some.ensures.numbers in
    λ cs t.
    c.lands_fresh.ensures.fresh cs _ t
    ∙ keeps_start cs _ _ _ c.args.i _ c.if-i-eq0.true (sym n.0 ∙ ap kind_of c.in-Start.is) (sym (ap reference_of c.in-Start.is) ∙ n.1)

pub returns-in_default-mark-clause-rules : goal.returns-in_default-mark-clause-rules
returns-in_default-mark-clause-rules c =
    let n = c.in-Some.ensures.numbers in
    λ cs t. no_start cs _ _ _ c.args.i c.if-i-eq0.true (λ e. no_start_kind c.in-Some.mark c.in_default-mark.not-Start (n.0 ∙ e))

pub returns-in-Cut-clause-rules : goal.returns-in-Cut-clause-rules
returns-in-Cut-clause-rules c =
    let n = c.in-Some.ensures.numbers in
    λ cs t.
    c.cuts_fresh.ensures.fresh cs _ (tallied_after cs _ _ c.args.i _ c.if-i-eq0.false t)
    ∙ keeps_cut cs _ _ _ c.args.i _ c.if-i-eq0.false (sym n.0 ∙ ap kind_of c.in-Cut.is) (sym (ap reference_of c.in-Cut.is) ∙ n.1)

pub returns-in-BackStep-clause-rules : goal.returns-in-BackStep-clause-rules
returns-in-BackStep-clause-rules c =
    let n = c.in-Some.ensures.numbers in
    λ cs t.
    c.reverses.ensures
    ∙ keeps_back cs _ _ _ c.args.i _ c.if-i-eq0.false (sym n.0 ∙ ap kind_of c.in-BackStep.is) (sym (ap reference_of c.in-BackStep.is) ∙ n.1)

pub returns-in-Start-mark-clause-rules : goal.returns-in-Start-mark-clause-rules
returns-in-Start-mark-clause-rules c =
    let n = c.in-Some.ensures.numbers in
    λ cs t. late_start cs _ _ _ c.args.i c.if-i-eq0.false (sym n.0 ∙ ap kind_of c.in-Start-mark.is)

pub returns-then-kind-clause-rules : goal.returns-then-kind-clause-rules
returns-then-kind-clause-rules c =
    let n = c.in-Some.ensures.numbers in
    let m = c.in-Some.mark in
    let v = c.in-Jump.v in
    let here : IsLanding m v = inr c.in-Jump.is in
    let landing : kind_at c.args.self.now.marks.now c.args.i ≡ landing_kind (at c.args.self.now.path.now (c.args.i - 1)) (at c.args.self.now.path.now c.args.i) =
    cc
    in
    λ cs t.
    c.lands_fresh-then-kind.ensures.fresh cs _ t
    ∙ keeps_landing cs _ _ _ c.args.i _ c.if-i-eq0.false (λ e. landing_no_cut m v here (n.0 ∙ e)) (λ e. landing_no_back m v here (n.0 ∙ e)) landing
    (sym (landing_reference m v here) ∙ n.1)

pub returns-else-kind-clause-rules : goal.returns-else-kind-clause-rules
returns-else-kind-clause-rules c =
    let n = c.in-Some.ensures.numbers in
    let m = c.in-Some.mark in
    let v = c.in-Jump.v in
    let here : IsLanding m v = inr c.in-Jump.is in
    λ cs t.
    ne_eqb c.kind.result c.kind-in-Jump.result c.if-kind.false
    ∙ no_landing cs _ _ _ c.args.i c.if-i-eq0.false (λ e. landing_no_cut m v here (n.0 ∙ e)) (λ e. landing_no_back m v here (n.0 ∙ e))
    (λ e. c.if-kind.false (cc))
