-- The first i blocks are full ones: what is left tells the answer.
use Rattle.std.proofs.Common.{◌≡◌, ◌*◌, ◌≤◌}
use Rattle.rules.specs.Limits.{most_path_points}
use Rattle.file_format.specs.PlateFile.{read_file}
use Rattle.file_laws.specs.PointCounts.{counted, more, left}
use Rattle.plate_file.proofs.scan_blocks.Given as goal

abbrev pub invariant-loop-i : goal.invariant-loop-i
invariant-loop-i l = (31 * l.i ≤ most_path_points) × (counted (read_file l.file) ≡ more (31 * l.i) (left l.file l.i))
