-- `square_root::root_of_55_digits` meets its contract.
use Rattle.std.proofs.Common.{sym, subst, ℕ, ◌+◌, ◌*◌, ◌/◌, ◌^◌, ◌≤◌, ◌<◌, Fits, w64, arith}
use Rattle.square_root.specs.Steps.{left_is, left_fits, second_below, second_near}
use Rattle.square_root.proofs.root_of_55_digits.Goals as goal

pub overflow_mul-result-2 : goal.overflow_mul-result-2
overflow_mul-result-2 c =
    let x = c.root_of_39_digits-x in
    subst (λ (left : ℕ). Fits w64 (left * c.args.e.inverse)) (sym (left_is c.requires.estimates x.ensures.below x.ensures.near x.ensures.least))
    (omega (arith, left_fits c.requires.estimates x.ensures.below x.ensures.near x.ensures.least))

pub returns-clause-below : goal.returns-clause-below
returns-clause-below c =
    let x = c.root_of_39_digits-x in
    subst (λ (left : ℕ). (65536 * x.result + left * c.args.e.inverse / 2 ^ 45) * (65536 * x.result + left * c.args.e.inverse / 2 ^ 45) ≤ c.args.n * 2 ^ 48)
    (sym (left_is c.requires.estimates x.ensures.below x.ensures.near x.ensures.least))
    (second_below c.requires.estimates x.ensures.below x.ensures.near x.ensures.least)

pub returns-clause-near : goal.returns-clause-near
returns-clause-near c =
    let x = c.root_of_39_digits-x in
    subst (λ (left : ℕ). c.args.n * 2 ^ 48 < (65536 * x.result + left * c.args.e.inverse / 2 ^ 45 + 2) * (65536 * x.result + left * c.args.e.inverse / 2 ^ 45 + 2))
    (sym (left_is c.requires.estimates x.ensures.below x.ensures.near x.ensures.least))
    (second_near c.requires.estimates x.ensures.below x.ensures.near x.ensures.least)
