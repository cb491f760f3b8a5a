-- `neighbours::list_square`: the rows of the square are listed.
use Rattle.rings.specs.Squares.{square_of}
use Rattle.neighbours.proofs.Around.{square_lists}
use Rattle.neighbours.proofs.ListFold.{folding_done}
use Rattle.neighbours.proofs.list_square.Goals as goal

pub returns : goal.returns
unfolding square_of
returns c =
    square_lists c.args.grid.spatial (square_of c.square_of-s.result) _ c.square_of-s.ensures.square
    (folding_done c.loop-row.invariant.1 c.loop-row-test.false)
