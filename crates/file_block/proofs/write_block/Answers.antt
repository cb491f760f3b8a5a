-- Part by part: what stands before the checks, then the checks.
use Rattle.std.proofs.Common.{◌+◌, ◌*◌, length, arith}
use Rattle.file_block.specs.Parts.{zeros_written, body_of_parts, block_of_parts}
use Rattle.file_block.proofs.write_block.Goals as goal

pub returns : goal.returns
returns c =
    let b = c.args.bytes.now in
    let i = c.args.number in
    let xs = c.args.coordinates.now in
    let few = c.requires.few in
    let whole = c.requires.whole in
    let zeros = zeros_written c.put_f64s.new.bytes (8 + 8 * length xs) 504 (omega (arith, few)) (omega (arith, whole, c.put.auto.bytes, c.put-2.auto.bytes, c.put-3.auto.bytes, c.put_f64s.auto.bytes)) (c.fill.ensures.after (λ y h. h)) in
    let e = body_of_parts b i xs few c.put.ensures c.put-2.ensures c.put-3.ensures c.put_f64s.ensures zeros in
    block_of_parts b i xs few whole e c.sum_words-checks.ensures c.put-4.ensures c.put-5.ensures
