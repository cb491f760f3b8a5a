-- What the first k + 1 path points come to, and the lengths of the first k pairs, which are kept.
use Rattle.std.proofs.Common.{◌≡◌, suc}
use Rattle.length_laws.specs.RunningTotals.{so_far}
use Rattle.measure.specs.LengthsKept.{LengthsKept}
use Rattle.measure.proofs.totals.Given as goal

abbrev pub invariant-loop-k : goal.invariant-loop-k
invariant-loop-k l = record {
  kept : LengthsKept l.kept l.path l.k;
  counted : l.totals ≡ so_far l.n (suc l.k) l.path l.marks;
}
