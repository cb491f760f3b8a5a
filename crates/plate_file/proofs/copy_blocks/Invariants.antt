-- The first i blocks are copied.
use Rattle.std.proofs.Common.{◌≡◌, length}
use Rattle.file_laws.specs.BlockCopies.{copied_to}
use Rattle.plate_file.proofs.copy_blocks.Given as goal

abbrev pub invariant-loop-i : goal.invariant-loop-i
invariant-loop-i l = (length l.path ≡ length l.initial.path) × (l.path ≡ copied_to l.file l.initial.path l.i)
