-- The words after a path point, by the kind of its mark.
use Rattle.std.proofs.Common.{◌≡◌, ℕ, ◌<◌, List, sym, ◌∙◌, ap, inl, inr, arith, length-set}
use Rattle.rules.specs.Marks.{cut_kind, back_step_kind, kind_at, reference_at, kind_of, reference_of}
use Rattle.path_rules.specs.PathWords.{NamesVertex}
use Rattle.path_rules.proofs.MarkKinds.{landing_reference, landing_no_cut, landing_no_back}
use Rattle.path_rules.proofs.ByKind.{no_kind}
use Rattle.path_rules.proofs.NextWords.{cut_part, entry_part, tally_back, tally_cut, tally_entry}
use Rattle.path_rules.proofs.work.Words.tally.Goals as goal

-- the vertex that is cut or landed on
named : (total : ℕ) (ms : List ℕ) (i : ℕ) → NamesVertex total ms i → (kind_at ms i ≡ back_step_kind → ⊥) → reference_at ms i < total
named total ms i (inl e) n = absurd (n e)
named total ms i (inr h) n = h

pub returns-in_default-clause-tallied : goal.returns-in_default-clause-tallied
returns-in_default-clause-tallied c =
    λ cs xs path t kept.
    let broken = no_kind cs xs path c.args.marks.now c.args.i (λ h. let x = c.in_default.ensures.known.1 h in cc) in
    absurd (cc)

pub returns-in-BackStep-clause-tallied : goal.returns-in-BackStep-clause-tallied
returns-in-BackStep-clause-tallied c =
    let n = c.in-Some.ensures.numbers in
    λ cs xs path t kept. tally_back cs xs path _ _ _ _ c.requires.marked t kept (sym n.0 ∙ ap kind_of c.in-BackStep.is)

pub returns-in-Cut-clause-tallied : goal.returns-in-Cut-clause-tallied
returns-in-Cut-clause-tallied c =
    let n = c.in-Some.ensures.numbers in
    let e = sym n.0 ∙ ap kind_of c.in-Cut.is in
    let r = sym (ap reference_of c.in-Cut.is) ∙ n.1 in
    let low = named _ _ _ c.requires.named (λ b. omega (arith, b, e)) in
    λ cs xs path t kept.
    rw (r, length-set, ← cut_part _ _ _ low)
    (tally_cut cs xs path _ _ _ _ c.requires.marked t kept c.args.self.now.labelled low e)

pub returns-in-Start-clause-tallied : goal.returns-in-Start-clause-tallied
returns-in-Start-clause-tallied c =
    let n = c.in-Some.ensures.numbers in
    let m = c.in-Some.mark in
    let v = c.in-Start.v in
    let here = c.in-Start.is in
    let r = sym (landing_reference m v here) ∙ n.1 in
    let cut = λ (e : kind_at c.args.marks.now c.args.i ≡ cut_kind). landing_no_cut m v here (n.0 ∙ e) in
    let back = λ (e : kind_at c.args.marks.now c.args.i ≡ back_step_kind). landing_no_back m v here (n.0 ∙ e) in
    λ cs xs path t kept.
    let low = named _ _ _ c.requires.named back in
    rw (r, ← entry_part _ _ _ low) (tally_entry cs xs path _ _ _ _ c.requires.marked t kept c.args.self.now.labelled low cut back)
