-- The first k elements are written.
use Rattle.run_words.proofs.Places.{Copied}
use Rattle.run_words.proofs.Place.read_into.Given as goal

abbrev pub invariant-loop-k : goal.invariant-loop-k
invariant-loop-k g l = Copied g.T.Recorded.of_word l.self.text.now l.self.word l.initial.xs l.k l.xs
