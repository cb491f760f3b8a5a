-- `neighbours::list_cell` meets its contract: a cell without this turn's flag leaves room. Assumes nothing.
use Rattle.std.proofs.Common.{arith, length-set}
use Rattle.neighbours.proofs.Entry.{list_room, list_new}
use Rattle.neighbours.proofs.list_cell.Goals as goal

pub bounds-work-place : goal.bounds-work-place
bounds-work-place c =
    let r = list_room _ _ _ _ _ c.requires.listing c.requires.cell c.if-work-flag.false in
    simp length-set (omega (arith, r, c.requires.listing.laid))

pub returns : goal.returns
returns c = list_new _ _ _ _ _ c.requires.listing c.requires.cell c.if-work-flag.false
