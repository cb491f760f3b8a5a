-- The first number out of range is where `position` finds it.
use Rattle.std.proofs.Common.{not, rules}
use borrow.Author.Tests.{tests}
use Rattle.std.proofs.lemmas.Iterator.{YieldsList-from_slice}
use Rattle.std.proofs.lemmas.Iterator.Search.{position_from_yields_List}
use Rattle.rules.specs.HandedOver.{in_range}
use Rattle.plate.proofs.Firsts.{off_place, found, none}
use Rattle.plate.proofs.first_off.Goals as goal

pub returns-clause-found : goal.returns-clause-found
returns-clause-found c =
    found (λ x. not (in_range c.args.limit x)) c.args.numbers.now _ c.position.result (off_place c.args.limit 0 c.args.numbers.now)
    (position_from_yields_List (λ x. not (in_range c.args.limit x)) _ _ _ c.position.ensures.ran (YieldsList-from_slice c.args.numbers.now cc) (λ x b q k. search (rules, tests)))

pub returns-clause-none : goal.returns-clause-none
returns-clause-none c =
    none (λ x. not (in_range c.args.limit x)) c.args.numbers.now _ c.position.result (off_place c.args.limit 0 c.args.numbers.now)
    (position_from_yields_List (λ x. not (in_range c.args.limit x)) _ _ _ c.position.ensures.ran (YieldsList-from_slice c.args.numbers.now cc) (λ x b q k. search (rules, tests)))
