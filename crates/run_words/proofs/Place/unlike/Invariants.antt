-- Of the first k elements, `differ` are not their words.
use Rattle.run_words.proofs.Places.{Compared}
use Rattle.run_words.proofs.Place.unlike.Given as goal

abbrev pub invariant-loop-k : goal.invariant-loop-k
invariant-loop-k g l = Compared g.T.Recorded.is_word l.self.text.now l.self.word l.xs l.differ l.k
