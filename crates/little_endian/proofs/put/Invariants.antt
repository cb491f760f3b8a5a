-- The lowest bytes are written, and the others are left.
use Rattle.std.proofs.Common.{◌≡◌, ◌/◌, ◌^◌, take}
use Rattle.little_endian.specs.Bytes.{to_bytes}
use Rattle.little_endian.proofs.put.Given as goal

abbrev pub invariant-loop-byte : goal.invariant-loop-byte
invariant-loop-byte g l = (l.left ≡ l.x / 256 ^ l.byte-index) × (take l.byte-index l.byte-items ≡ to_bytes l.byte-index l.x)
