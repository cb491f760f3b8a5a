-- `remainder::shifted_remainder` meets its contract.
use Rattle.std.proofs.Common.{◌∙◌, ◌≤◌, ℕ, ap, arith}
use Prim.Native.Nat.{◌*◌, ◌%◌, ◌^◌, ◌-◌}
use native.Mathlib.Nat.{mod-lt, lt_of_lt_of_le, le_of_lt}
use Rattle.remainder.proofs.DigitShifts.{shift_fits, shift_in}
use Rattle.remainder.proofs.shifted_remainder.Goals as goal

pub loop-left-preserved : goal.loop-left-preserved
loop-left-preserved c =
    let m = c.args.m in
    let left = c.loop-left.left in
    let r = c.loop-left.r in
    let in_digits : 11 ≤ 11 = omega arith in
    let some_left : 11 ≤ left = omega arith in
    record {
      few = lt_of_lt_of_le (mod-lt _ c.requires.nonzero) (le_of_lt c.requires.divisor_fits);
      same =
          ap (λ (x : ℕ). x % m * 2 ^ (left - 11) % m) (shift_fits r 11 c.loop-left.invariant.few in_digits)
          ∙ shift_in r 11 left m some_left
          ∙ c.loop-left.invariant.same;
    }

pub returns : goal.returns
returns c = ap (λ (x : ℕ). x % c.args.m) (shift_fits c.loop-left.r c.loop-left.left c.loop-left.invariant.few c.loop-left-test.false) ∙ c.loop-left.invariant.same
