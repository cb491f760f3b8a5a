-- The sums after so many words.
use Rattle.std.proofs.Common.{take}
use Rattle.file_block.specs.Checks.{SummedTo}
use Rattle.file_block.proofs.sum_words.Given as goal

abbrev pub invariant-loop-word : goal.invariant-loop-word
invariant-loop-word l = SummedTo (take 504 l.bytes) l.first l.second l.word-index
