-- The runs that end before vertex v are written, and `length` vertices before v are of the run of v.
use Rattle.std.proofs.Common.{◌≡◌, List, ℕ, ◌++◌, ◌≤◌, length}
use Rattle.rules.specs.HandedOver.{over}
use Rattle.recovery_parts.specs.Flags.{flagged, flagged_runs}
use Rattle.recovery_parts.specs.Lengths.{runs_to}
use Rattle.recovery_parts.proofs.put_lengths.Given as goal

abbrev pub invariant-loop-v : goal.invariant-loop-v
invariant-loop-v l =
    record {
      done : List ℕ;
      counted : l.count ≡ length done;
      written : l.lengths ≡ over done l.initial.lengths;
      left : flagged_runs l.flags ≡ done ++ runs_to (flagged l.flags) (length l.flags) l.v l.length;
      few : l.length ≤ l.v;
      whole : l.v ≡ length l.flags → l.length ≡ 0;
    }
