-- Each turn writes one more block, and then the file is whole.
use Rattle.std.proofs.Common.{◌≡◌, ◌∙◌, ◌+◌, ◌-◌, ◌*◌, refl, rules, arith}
use Rattle.std.proofs.lemmas.List.{take_rest}
use Rattle.file_laws.specs.WrittenFile.{none_written}
use Rattle.file_laws.specs.Parts.{write_part, parts_written}
use Rattle.plate_file.proofs.write_blocks.Goals as goal

pub loop-i-init : goal.loop-i-init
loop-i-init c = (refl, none_written c.args.path.now c.args.file.now)

pub loop-i-preserved : goal.loop-i-preserved
loop-i-preserved c =
    let xs = c.args.path.now in
    let l = c.loop-i in
    let k : 512 * l.i + 512 - 512 * l.i ≡ 512 = omega arith in
    let left = take_rest xs (62 * l.i) in
    let step = write_part xs c.args.file.now l.file _ l.i _ (rw left at c.min-share.ensures) l.invariant.1 (rw left at c.write_block.ensures) in
    (search rules, rw k step)

pub returns : goal.returns
returns c =
    let l = c.loop-i in
    l.invariant.1 ∙ parts_written c.args.path.now c.args.file.now l.i (omega (arith, l.auto.i-end, c.loop-i-test.false))
