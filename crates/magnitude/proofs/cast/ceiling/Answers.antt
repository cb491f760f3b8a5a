-- `magnitude::cast::ceiling` meets its contract.
use Rattle.std.specs.Prelude.{◌≡◌, ◌+◌}
use Rattle.std.proofs.Common.{◌∙◌, sym, inl, inr, le_of_eq, eq-or-lt_of_le, arith}
use Rattle.std.proofs.Math.Nat.{le-pred_of_lt}
use Rattle.rounding.specs.CeilingCast.{rounded_up, rounded_most, not_rounded}
use Rattle.magnitude.proofs.cast.ceiling.Goals as goal

pub returns-then-from-x : goal.returns-then-from-x
returns-then-from-x c =
    let x = c.args.x in
    let whole = c.truncated-whole.result in
    let is = c.truncated-whole.ensures in
    let above = rw c.from.ensures at c.if-from-x.true in
    elim (eq-or-lt_of_le (le-pred_of_lt c.truncated-whole.type_inv)) [
      | inl e ↦ (let most : c.saturating_add.result ≡ whole = omega (arith, e) in most ∙ rounded_most x whole is (le_of_eq (sym e)))
      | inr l ↦ (let next : c.saturating_add.result ≡ whole + 1 = omega (arith, l) in next ∙ rounded_up x whole is above l)
    ]

pub returns-else-from-x : goal.returns-else-from-x
returns-else-from-x c = not_rounded c.args.x c.truncated-whole.result c.truncated-whole.ensures (rw c.from.ensures at c.if-from-x.false)
