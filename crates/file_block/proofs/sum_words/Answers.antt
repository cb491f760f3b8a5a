-- Each turn sums up one more word; after the last, the remainders are the checks.
use Rattle.std.proofs.Common.{◌∙◌, ◌/◌, ◌<◌, length, take, length-take-le, arith}
use Rattle.file_block.specs.Checks.{summed_more, summed_all, checked_front, word_in}
use Rattle.file_block.proofs.sum_words.Goals as goal

pub loop-word-preserved : goal.loop-word-preserved
loop-word-preserved c =
    let bs = take 504 c.args.bytes.now in
    let l = c.loop-word in
    let words = c.as_chunks.ensures in
    let within : l.word-index < length bs / 4 = omega (arith, words.front_len, c.loop-word-test.true) in
    let word = (rw words.front at c.read-first.ensures.number) ∙ word_in bs (length bs / 4) l.word-index _ within in
    summed_more bs l.invariant (omega (arith, within, length-take-le 504 c.args.bytes.now c.requires)) word c.read-first.ensures.small

pub returns : goal.returns
returns c =
    let bytes = c.args.bytes.now in
    let l = c.loop-word in
    checked_front bytes c.requires
    (summed_all (take 504 bytes) l.invariant (omega (arith, c.loop-word-test.false, c.as_chunks.ensures.front_len, length-take-le 504 bytes c.requires)))
