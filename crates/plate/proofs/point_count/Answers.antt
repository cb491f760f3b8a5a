-- What the chain adds up is the sum.
use Rattle.std.proofs.Common.{refl, rules, ◌∙◌, sym}
use borrow.Author.Tests.{tests}
use Rattle.std.proofs.lemmas.Iterator.{YieldsList-from_slice, YieldsList-from_map}
use Rattle.std.proofs.lemmas.Iterator.Consumers.{sum_by_from_yields_List}
use Rattle.std.proofs.lemmas.List.Recursion.{is_sum_by}
use Rattle.rules.specs.Tools.{sum}
use Rattle.plate.proofs.point_count.Goals as goal

pub returns : goal.returns
unfolding sum
returns c =
    sum_by_from_yields_List (λ n. n) c.args.lengths.now c.map.result _ c.sum.ensures.ran
    (YieldsList-from_map _ (λ n. n) (YieldsList-from_slice c.args.lengths.now cc) c.map.ensures.closure (λ x r q k. search (rules, tests)))
    ∙ sym (is_sum_by sum (λ n. n) refl (λ x xs. refl) c.args.lengths.now)
