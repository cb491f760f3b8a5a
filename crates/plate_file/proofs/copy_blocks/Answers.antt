-- Each turn copies one more block, and then all are copied.
use Rattle.std.proofs.Common.{◌≡◌, ◌∙◌, ◌+◌, ◌-◌, ◌*◌, ◌/◌, ◌<◌, ◌≤◌, length, take, drop, length-take-le, length-drop, refl, rules, arith}
use Rattle.file_laws.specs.Chunks.{whole_chunk_at}
use Rattle.file_laws.specs.BlockCopies.{none_copied}
use Rattle.file_laws.specs.Parts.{part_begins, parts_copied, part_numbers, copy_part}
use Rattle.plate_file.proofs.copy_blocks.Goals as goal

pub loop-i-init : goal.loop-i-init
loop-i-init c = (refl, none_copied c.args.file.now c.args.path.now)

pub overflow_sub-path : goal.overflow_sub-path
overflow_sub-path c =
    omega (
      arith,
      c.loop-i.auto.path,
      part_begins c.args.file.now (length c.args.path.now / 2) c.requires.reads c.args.path.now c.requires.whole c.loop-i.i
          (omega (arith, c.loop-i-test.true, c.as_chunks.ensures.front_len)),
    )

pub slice_bounds-read_f64s-end-in-loop-i : goal.slice_bounds-read_f64s-end-in-loop-i
slice_bounds-read_f64s-end-in-loop-i c =
    let l = c.loop-i in
    let begins =
    part_begins c.args.file.now (length c.args.path.now / 2) c.requires.reads c.args.path.now c.requires.whole l.i
    (omega (arith, c.loop-i-test.true, c.as_chunks.ensures.front_len)) in
    let ends : 62 * l.i + c.min-share.result ≤ length l.path = omega (arith, l.auto.path, begins, c.min-share.ensures) in
    ends

pub read_f64s-requires-clause-numbers : goal.read_f64s-requires-clause-numbers
read_f64s-requires-clause-numbers c =
    let file = c.args.file.now in
    let l = c.loop-i in
    let n = c.min-share.result in
    let half = length c.args.path.now / 2 in
    let in_file : l.i < length file / 512 = omega (arith, c.loop-i-test.true, c.as_chunks.ensures.front_len) in
    let k : 62 * l.i + n - 62 * l.i ≡ n = omega arith in
    let long : length (take n (drop (62 * l.i) l.path)) ≡ n = length-take-le n (drop (62 * l.i) l.path) (omega (arith, length-drop (62 * l.i) l.path, c.min-share.ensures)) in
    let here = whole_chunk_at 512 l.i file _ c.as_chunks.ensures.front c.as_chunks.ensures.front_len c.loop-i-test.true in
    rw (k, long)
    (part_numbers file half c.requires.reads c.args.path.now c.requires.whole l.i n _ in_file (omega (arith, c.min-share.ensures, l.auto.path)) here)

pub loop-i-preserved : goal.loop-i-preserved
loop-i-preserved c =
    let file = c.args.file.now in
    let l = c.loop-i in
    let n = c.min-share.result in
    let half = length c.args.path.now / 2 in
    let in_file : l.i < length file / 512 = omega (arith, c.loop-i-test.true, c.as_chunks.ensures.front_len) in
    let k : 62 * l.i + n - 62 * l.i ≡ n = omega arith in
    let long : length (take n (drop (62 * l.i) l.path)) ≡ n = length-take-le n (drop (62 * l.i) l.path) (omega (arith, length-drop (62 * l.i) l.path, c.min-share.ensures)) in
    let here = whole_chunk_at 512 l.i file _ c.as_chunks.ensures.front c.as_chunks.ensures.front_len c.loop-i-test.true in (
      search rules,
      rw k
          (copy_part file half c.requires.reads c.args.path.now c.requires.whole l.i n _ in_file (omega (arith, c.min-share.ensures, l.auto.path)) here l.path _
          l.invariant.1 (rw (k, long) at c.read_f64s.ensures)),
    )

pub returns : goal.returns
returns c =
    let l = c.loop-i in
    l.invariant.1
    ∙ parts_copied c.args.file.now (length c.args.path.now / 2) c.requires.reads c.args.path.now c.requires.whole l.i
    (omega (arith, l.auto.i-end, c.loop-i-test.false, c.as_chunks.ensures.front_len))
