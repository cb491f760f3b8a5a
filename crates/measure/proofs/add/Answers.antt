-- One mark more, by its kind.
use Rattle.std.proofs.Common.{◌≡◌, ◌≢◌, ℕ, add-zero, arith}
use Rattle.std.proofs.lemmas.Bool.{ne_eqb}
use Rattle.rules.specs.Tools.{pick}
use Rattle.rules.specs.declared.Totals.{Totals}
use Rattle.length_laws.specs.RunningTotals.{added}
use Rattle.measure.proofs.add.Goals as goal

-- the start's kind, or none
added_none : (t : Totals) (kind l : ℕ) → kind ≢ 1 → kind ≢ 2 → kind ≢ 3 → kind ≢ 4 → t ≡ added t kind l
unfolding added pick
added_none t kind l a b d e = rw (ne_eqb kind 1 a, ne_eqb kind 2 b, ne_eqb kind 3 d, ne_eqb kind 4 e) (simp add-zero)

pub returns-in-1 : goal.returns-in-1
unfolding added pick
returns-in-1 c = rw (c.in-1.is, c.from-length.ensures) (simp add-zero)

pub returns-in-2 : goal.returns-in-2
unfolding added pick
returns-in-2 c = rw (c.in-2.is, c.from-length.ensures) (simp add-zero)

pub returns-in-3 : goal.returns-in-3
unfolding added pick
returns-in-3 c = rw (c.in-3.is, c.from-length.ensures) (simp add-zero)

pub returns-in-4 : goal.returns-in-4
unfolding added pick
returns-in-4 c = rw (c.in-4.is, c.from-length.ensures) (simp add-zero)

pub returns-in_default : goal.returns-in_default
returns-in_default c = added_none _ _ _ (omega arith) (omega arith) (omega arith) (omega arith)
