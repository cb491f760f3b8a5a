-- The bytes before the index are zeros.
use Rattle.std.proofs.Common.{◌≡◌, eqb, true, take}
use Rattle.std.specs.List.{list_all}
use Rattle.file_block.proofs.is_clear.Given as goal

abbrev pub invariant-loop-b : goal.invariant-loop-b
invariant-loop-b l = list_all (λ b. eqb b 0) (take l.b-index l.bytes) ≡ true
