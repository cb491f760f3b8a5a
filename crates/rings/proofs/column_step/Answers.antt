-- `rings::column_step`: the two ways that a column's step is chosen.
use mathlib.Core.Logic.{inl, inr}
use borrow.Author.Tests.{eq-eqb, ne_eqb}
use Rattle.rules.specs.Tools.{pick}
use Rattle.rings.specs.Squares.{square_of, column_step}
use Rattle.rings.proofs.column_step.Goals as goal

pub returns-then-row-s-2 : goal.returns-then-row-s-2
unfolding square_of column_step pick
returns-then-row-s-2 c =
    elim c.if-row-s-2.either [ inl e ↦ rw (eq-eqb c.args.row _ e) | inr e ↦ rw (ne_eqb c.args.row _ e.0, eq-eqb c.args.row _ e.1) ]

pub returns-else-row-s-2 : goal.returns-else-row-s-2
unfolding square_of column_step pick
returns-else-row-s-2 c = rw (ne_eqb _ _ c.if-row-s-2.false.0, ne_eqb _ _ c.if-row-s-2.false.1) c.max.ensures
