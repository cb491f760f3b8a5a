-- One test after another: the first that fails decides, and else the last.
use Rattle.std.proofs.Common.{◌∙◌, sym, rules}
use Rattle.file_block.specs.BlockTests.{number_fails, count_fails, zeros_fail, first_fails, second_fails}
use Rattle.file_block.specs.Parts.{unused_part_fails, all_but_last_part}
use Rattle.file_block.proofs.is_sound.Goals as goal

pub returns-then-read-number : goal.returns-then-read-number
returns-then-read-number c = number_fails c.args.number c.args.bytes.now c.read.ensures.number c.if-read-number.true

pub returns-then-n-gt-BLOCK_POINTS : goal.returns-then-n-gt-BLOCK_POINTS
returns-then-n-gt-BLOCK_POINTS c = count_fails c.args.number c.args.bytes.now c.count_in-n.ensures c.if-n-gt-BLOCK_POINTS.true

pub returns-then-read-ne0 : goal.returns-then-read-ne0
returns-then-read-ne0 c = zeros_fail c.args.number c.args.bytes.now c.read-2.ensures.number c.if-read-ne0.true

pub returns-then-not-is_clear : goal.returns-then-not-is_clear
returns-then-not-is_clear c = unused_part_fails c.args.number c.args.bytes.now c.count_in-n.ensures (sym c.if-not-is_clear.ensures)

pub returns-then-read-checks : goal.returns-then-read-checks
returns-then-read-checks c =
    first_fails c.args.number c.args.bytes.now c.read-3.ensures.number c.sum_words-checks.ensures.first_is c.if-read-checks.true

pub returns-then-read-checks-2 : goal.returns-then-read-checks-2
returns-then-read-checks-2 c =
    second_fails c.args.number c.args.bytes.now c.read-4.ensures.number c.sum_words-checks.ensures.second_is c.if-read-checks-2.true

pub returns : goal.returns
returns c =
    let sums = c.sum_words-checks.ensures in
    c.all_on_plate.ensures
    ∙ all_but_last_part c.args.number c.args.bytes.now (search rules) c.count_in-n.ensures
    (sym c.read.ensures.number ∙ c.if-read-number.false)
    c.if-n-gt-BLOCK_POINTS.false
    (sym c.read-2.ensures.number ∙ c.if-read-ne0.false)
    (sym c.if-not-is_clear.ensures)
    (sym c.read-3.ensures.number ∙ c.if-read-checks.false ∙ sums.first_is)
    (sym c.read-4.ensures.number ∙ c.if-read-checks-2.false ∙ sums.second_is)
