-- The first j numbers are read.
use Rattle.std.proofs.Common.{◌≡◌, ◌++◌, drop}
use Rattle.little_endian.specs.Bytes.{floats}
use Rattle.little_endian.proofs.read_f64s.Given as goal

abbrev pub invariant-loop-j : goal.invariant-loop-j
invariant-loop-j l = l.xs ≡ floats l.j (drop l.i l.bytes) ++ drop l.j l.initial.xs
