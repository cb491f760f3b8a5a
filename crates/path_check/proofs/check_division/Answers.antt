-- What refusal 12 says, of the rules first and then of what is left out.
use Rattle.std.proofs.Common.{◌≡◌, refl, ◌*◌, ◌/◌, length, sym, arith}
use Rattle.rules.specs.HandedOver.{number_of, place_of, refusal, answer_of}
use Rattle.path_check.specs.Outcome.{rule_broken, left_out, accepted}
use Rattle.path_check.proofs.check_division.Goals as goal

pub returns-in-Some-clause-answer : goal.returns-in-Some-clause-answer
unfolding answer_of number_of place_of refusal
returns-in-Some-clause-answer c = λ cs t. let f = c.in-Some.ensures.found cs t in rule_broken cs _ _ _ _ c.in-Some.place f.1 f.0

pub returns-then-not-is_complete-clause-answer : goal.returns-then-not-is_complete-clause-answer
unfolding answer_of number_of place_of refusal
returns-then-not-is_complete-clause-answer c = λ cs t.
    let a = c.args.checked.now in
    let f = c.in_default.ensures.none cs t refl in
    let even : length a.marks.now ≡ 2 * (length a.path.now / 2) = omega arith in
    let says = c.if-not-is_complete.ensures cs a.marks.now _ even in
    left_out cs _ _ _ _ _ (sym f.0) (sym (says f.1))

pub returns-clause-answer : goal.returns-clause-answer
unfolding answer_of
returns-clause-answer c = λ cs t.
    let a = c.args.checked.now in
    let f = c.in_default.ensures.none cs t refl in
    let even : length a.marks.now ≡ 2 * (length a.path.now / 2) = omega arith in
    let says = c.if-not-is_complete.ensures cs a.marks.now _ even in
    accepted cs _ _ _ _ (length a.path.now / 2) (sym f.0) (omega arith) (sym (says f.1))
