-- What the loop of `remainder::shifted_remainder` keeps: the answer, from what is left to shift.
use Rattle.std.proofs.Common.{◌≡◌, ◌*◌, ◌^◌, ◌<◌}
use Prim.Native.Nat.{◌%◌}
use Rattle.remainder.proofs.shifted_remainder.Given as goal

abbrev pub invariant-loop-left : goal.invariant-loop-left
invariant-loop-left l = record { few : l.r < 2 ^ 53; same : l.r * 2 ^ l.left % l.m ≡ l.fn.n * 2 ^ l.fn.d % l.m }

abbrev pub decreases-loop-left : goal.decreases-loop-left
decreases-loop-left l = l.left
