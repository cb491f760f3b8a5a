-- `PathWriter::walk_back`: how far the path is walked back.
use Rattle.path_points.proofs.WalkBack.{WalkedTo}
use Rattle.path_points.proofs.PathWriter.walk_back.Given as goal

abbrev pub invariant-loop-place : goal.invariant-loop-place
invariant-loop-place l = WalkedTo l.fn.self l.fn.h.0 l.place l.self
