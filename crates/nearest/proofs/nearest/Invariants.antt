-- `nearest::nearest`: what holds at each of the four loops.
use Rattle.std.proofs.Common.{◌+◌, ◌-◌, ◌/◌, length}
use Rattle.rings.specs.Squares.{square_of}
use Rattle.nearest.proofs.Loops.{InCell, InRow, InRing, InSearch}
use Rattle.nearest.proofs.nearest.Given as goal

abbrev pub invariant-loop-cursor : goal.invariant-loop-cursor
invariant-loop-cursor l = InCell l.g.spatial l.path (length l.path / 2) l.q (record { col = l.col; row = l.row }) l.initial.best l.best l.cursor

abbrev pub decreases-loop-cursor : goal.decreases-loop-cursor
decreases-loop-cursor l = l.cursor

abbrev pub invariant-loop-col : goal.invariant-loop-col
invariant-loop-col l = InRow l.g.spatial l.path (length l.path / 2) l.q (square_of l.s) l.row l.initial.best l.best l.col

abbrev pub decreases-loop-col : goal.decreases-loop-col
decreases-loop-col l = l.s.last_col + 1 - l.col

abbrev pub invariant-loop-row : goal.invariant-loop-row
invariant-loop-row l = InRing l.g.spatial l.path (length l.path / 2) l.q (square_of l.s) l.initial.best l.best l.row

abbrev pub invariant-rings : goal.invariant-rings
invariant-rings l = InSearch l.g.spatial l.path (length l.path / 2) l.q l.rings l.best l.ring
