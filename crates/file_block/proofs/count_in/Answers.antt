-- The count's two bytes.
use Rattle.std.proofs.Common.{rules}
use Rattle.file_format.specs.PlateFile.{count_in}
use Rattle.file_block.proofs.count_in.Goals as goal

pub returns : goal.returns
unfolding count_in
returns c = search rules
