-- Before the first point no cell is listed.
use Rattle.std.proofs.Common.{arith}
use Rattle.neighbours.proofs.Entry.{listing_none}
use Rattle.neighbours.proofs.ListFold.{folding_start}
use Rattle.neighbours.proofs.list_cells.Goals as goal

pub loop-i-init : goal.loop-i-init
loop-i-init c = folding_start (listing_none _ _ _ c.requires.plated.laid c.requires.flags) (omega arith)
