-- `run_words::parse` gives the number that digits spell.
use Rattle.std.proofs.Common.{sym, arith}
use Rattle.run_words.proofs.HexDigits.{fits_word, read_more, read_no_digit, read_all}
use Rattle.run_words.proofs.parse.Goals as goal

pub returns-in_default : goal.returns-in_default
returns-in_default c = read_no_digit _ c.requires _ _ 16 c.loop-b.invariant c.loop-b-test.true (sym c.in_default.ensures.value) (omega arith)

pub overflow_mul-value : goal.overflow_mul-value
overflow_mul-value c = omega (arith, fits_word _ _ c.loop-b.invariant.1 (omega (arith, c.requires, c.loop-b-test.true)))

pub overflow_add-value : goal.overflow_add-value
overflow_add-value c = omega (arith, c.in-Some.ensures.below, fits_word _ _ c.loop-b.invariant.1 (omega (arith, c.requires, c.loop-b-test.true)))

pub loop-b-preserved : goal.loop-b-preserved
loop-b-preserved c = read_more _ c.requires _ _ _ c.loop-b.invariant c.loop-b-test.true c.in-Some.ensures.value c.in-Some.ensures.below

pub returns : goal.returns
returns c = read_all _ c.requires _ _ c.loop-b.invariant c.loop-b-test.false
