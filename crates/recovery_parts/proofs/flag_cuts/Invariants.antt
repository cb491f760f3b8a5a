-- The marks before path point i are flagged.
use Rattle.recovery_parts.specs.Flags.{Flags}
use Rattle.rules.specs.Marks.{marks_before}
use Rattle.recovery_parts.proofs.flag_cuts.Given as goal

abbrev pub invariant-loop-i : goal.invariant-loop-i
invariant-loop-i l = record { flags : Flags (marks_before l.i l.marks) l.flags }
