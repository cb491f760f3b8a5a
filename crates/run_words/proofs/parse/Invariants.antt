-- The invariant of `run_words::parse`.
use Rattle.run_words.proofs.HexDigits.{ReadDigits}
use Rattle.run_words.proofs.parse.Given as goal

abbrev pub invariant-loop-b : goal.invariant-loop-b
invariant-loop-b l = ReadDigits l.digits l.value l.b-index
