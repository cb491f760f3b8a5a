-- At the start no byte is written, and each turn writes one more.
use Rattle.std.proofs.Common.{◌≡◌, refl, ℕ, ◌+◌, ◌-◌, ◌%◌, ◌≤◌, List, length, drop, take, length-take-le, sym, ◌∙◌, arith}
use borrow.Rule.Slice.PartMut.{put_mid}
use Rattle.std.proofs.lemmas.List.{take_all, take_more_set, drop-drop, length-drop, append_assoc}
use Rattle.std.proofs.lemmas.List.Edits.{sets, sets-eq}
use Rattle.little_endian.specs.Bytes.{to_bytes}
use Rattle.little_endian.specs.Numbers.{bytes_length, bytes_append}
use Rattle.little_endian.specs.Widths.{left_more}
use Rattle.little_endian.proofs.put.Goals as goal

-- what is written to a part of a slice
put_sets : (xs : List ℕ) (a n : ℕ) (zs : List ℕ) → a + n ≤ length xs → length zs ≡ n → put_mid a n xs zs ≡ sets xs a zs
put_sets xs a n zs h l = rw (sets-eq zs xs a (omega (arith, h, l)), l, drop-drop n a xs, append_assoc (take a xs) zs (drop (a + n) xs))

pub loop-byte-init : goal.loop-byte-init
unfolding to_bytes
loop-byte-init g c = (omega arith, refl)

pub loop-byte-preserved : goal.loop-byte-preserved
unfolding to_bytes
loop-byte-preserved g c =
    let l = c.loop-byte in
    let i = l.invariant in (
      left_more l.byte-index c.args.x i.0,
      rw (take_more_set l.byte-items l.byte-index (l.left % 256) (omega (arith, c.loop-byte-test.true, l.auto.byte-items)), bytes_append l.byte-index 1 c.args.x, i.1, ← i.0),
    )

pub returns : goal.returns
returns g c =
    let l = c.loop-byte in
    let n : c.args.i + g.row.N - c.args.i ≡ g.row.N = omega arith in
    let whole = length-take-le (c.args.i + g.row.N - c.args.i) (drop c.args.i c.args.bytes.now) (omega (arith, length-drop c.args.i c.args.bytes.now, c.requires)) in
    let at : l.byte-index ≡ g.row.N = omega (arith, whole, n, c.loop-byte-test.false, l.auto.byte-items, l.auto.byte-index-end) in
    let all : l.byte-items ≡ to_bytes g.row.N c.args.x =
    rw at at (sym (take_all l.byte-index l.byte-items (omega (arith, c.loop-byte-test.false, l.auto.byte-items))) ∙ l.invariant.1)
    in
    rw (n, all) (put_sets c.args.bytes.now c.args.i g.row.N (to_bytes g.row.N c.args.x) c.requires (bytes_length g.row.N c.args.x))
