-- The number of the bytes read so far, the last of them the lowest.
use Rattle.std.proofs.Common.{◌≡◌, ◌^◌, ◌<◌, length}
use Rattle.std.specs.Prelude.{reverse, map}
use Rattle.little_endian.specs.Bytes.{from_bytes}
use Rattle.little_endian.proofs.read.Given as goal

abbrev pub invariant-loop-b : goal.invariant-loop-b
invariant-loop-b g l =
    (goal.iterator-loop-b g).can_next l.b-iterator ×
    (goal.iterator-loop-b g).is_finite l.b-iterator ×
    (l.x ≡ from_bytes (reverse (map (λ y. y.now) l.yielded))) × (l.x < 256 ^ length l.yielded)
