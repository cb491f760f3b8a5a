-- The first layer above the highest is where `position` finds it.
use Rattle.std.proofs.Common.{not, leb, rules}
use borrow.Author.Tests.{tests}
use Rattle.std.proofs.lemmas.Iterator.{YieldsList-from_slice}
use Rattle.std.proofs.lemmas.Iterator.Search.{position_from_yields_List}
use Rattle.rules.specs.Tools.{highest_layer}
use Rattle.plate.proofs.Firsts.{bad_place, found, none}
use Rattle.plate.proofs.first_bad.Goals as goal

pub returns-clause-found : goal.returns-clause-found
unfolding highest_layer
returns-clause-found c =
    found (λ x. not (leb x highest_layer)) c.args.layers.now _ c.position.result (bad_place 0 c.args.layers.now)
    (position_from_yields_List (λ x. not (leb x highest_layer)) _ _ _ c.position.ensures.ran (YieldsList-from_slice c.args.layers.now cc) (λ x b q k. search (rules, tests)))

pub returns-clause-none : goal.returns-clause-none
unfolding highest_layer
returns-clause-none c =
    none (λ x. not (leb x highest_layer)) c.args.layers.now _ c.position.result (bad_place 0 c.args.layers.now)
    (position_from_yields_List (λ x. not (leb x highest_layer)) _ _ _ c.position.ensures.ran (YieldsList-from_slice c.args.layers.now cc) (λ x b q k. search (rules, tests)))
