-- The first j patterns are written.
use Rattle.std.proofs.Common.{◌≡◌, length, take}
use Rattle.std.proofs.lemmas.List.Edits.{sets}
use Rattle.little_endian.specs.Bytes.{patterns}
use Rattle.little_endian.proofs.put_f64s.Given as goal

abbrev pub invariant-loop-j : goal.invariant-loop-j
invariant-loop-j l = (length l.bytes ≡ length l.initial.bytes) × (l.bytes ≡ sets l.initial.bytes l.i (patterns (take l.j l.xs)))
