-- `history::insert`: the cell and its number are those of the definitions.
use Rattle.rules.specs.SamplesAndCache.{cell_number}
use Rattle.history.specs.History.{inserted}
use Rattle.history.proofs.insert.Goals as goal

pub returns : goal.returns
unfolding inserted cell_number
returns c = rw (c.cell_number-cell.ensures.number, c.cell_of.ensures.col, c.cell_of.ensures.row)
