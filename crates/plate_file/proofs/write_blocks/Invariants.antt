-- The first i blocks are written.
use Rattle.std.proofs.Common.{◌≡◌, length}
use Rattle.file_laws.specs.WrittenFile.{written_to}
use Rattle.plate_file.proofs.write_blocks.Given as goal

abbrev pub invariant-loop-i : goal.invariant-loop-i
invariant-loop-i l = (length l.file ≡ length l.initial.file) × (l.file ≡ written_to l.path l.initial.file l.i)
