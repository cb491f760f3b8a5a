-- What `cuts_fresh` returns, by the words and then by the points.
use Rattle.std.proofs.Common.{refl, sym, ◌∙◌}
use Rattle.path_rules.proofs.FreshCuts.{cuts_closed, cuts_points}
use Rattle.path_rules.proofs.PlatePath.cuts_fresh.Goals as goal

pub returns-then-is_open-clause-fresh : goal.returns-then-is_open-clause-fresh
returns-then-is_open-clause-fresh c = λ cs ms t. c.goes_along.ensures ∙ cuts_points _ _ _ _ _ t _ _ _ (c.if-is_open.ensures.0 refl)

pub returns-else-is_open-clause-fresh : goal.returns-else-is_open-clause-fresh
returns-else-is_open-clause-fresh c = λ cs ms t. c.if-is_open.false ∙ sym (cuts_closed _ _ _ _ _ t _ _ _ (λ o. let x = c.if-is_open.ensures.1 o in cc))
