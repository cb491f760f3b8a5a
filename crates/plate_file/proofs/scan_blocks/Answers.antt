-- A block that ends the file or refuses it decides what the whole file says; a full one leaves it to the rest.
use Rattle.std.proofs.Common.{◌≡◌, ℕ, ◌+◌, ◌-◌, ◌*◌, ◌/◌, ◌<◌, ◌≤◌, List, [], length, get_or, take, drop, sym, arith}
use Rattle.std.specs.Simd.{first_chunks}
use Rattle.rules.specs.HandedOver.{answer_of, number_of, place_of, refusal}
use Rattle.file_format.specs.PlateFile.{count_in}
use Rattle.file_laws.specs.Chunks.{whole_chunk_at}
use Rattle.file_laws.specs.Block.{sound_few}
use Rattle.file_laws.specs.PointCounts.{left_short, left_damaged, left_many, left_beyond, left_last, left_full, scan_begun, scan_refused, scan_given, scan_on}
use Rattle.plate_file.proofs.scan_blocks.Goals as goal

-- a whole block lies in the file, and holds what stands there
whole_block : (i : ℕ) (file : List ℕ) (blocks : List (List ℕ)) → blocks ≡ first_chunks 512 (length file / 512) file → length blocks ≡ length file / 512 → i < length blocks →
    (512 * i ≤ length file) × (512 ≤ length file - 512 * i) × (get_or blocks i [] ≡ take 512 (drop (512 * i) file))
whole_block i file blocks e l h = (omega arith, omega arith, whole_chunk_at 512 i file [] e l h)

pub loop-i-init : goal.loop-i-init
loop-i-init c = (omega arith, scan_begun c.args.file.now)

pub returns-then-not-is_sound : goal.returns-then-not-is_sound
unfolding answer_of refusal number_of place_of
returns-then-not-is_sound c =
    let l = c.loop-i in
    let file = c.args.file.now in
    let chunks = c.as_chunks.ensures in
    let (starts, room, here) = whole_block l.i file _ chunks.front chunks.front_len c.loop-i-test.true in
    scan_refused file l.i l.invariant.1 8 l.i (left_damaged file l.i starts room _ here (sym c.if-not-is_sound.ensures))

pub overflow_add-total : goal.overflow_add-total
overflow_add-total c = omega (arith, c.loop-i.invariant.0, c.count_in-n.ensures, sound_few _ _ (sym c.if-not-is_sound.ensures))

pub returns-then-total-gt-MOST_PATH_POINTS : goal.returns-then-total-gt-MOST_PATH_POINTS
unfolding answer_of refusal number_of place_of
returns-then-total-gt-MOST_PATH_POINTS c =
    let l = c.loop-i in
    let file = c.args.file.now in
    let chunks = c.as_chunks.ensures in
    let (starts, room, here) = whole_block l.i file _ chunks.front chunks.front_len c.loop-i-test.true in
    scan_refused file l.i l.invariant.1 2 0
    (left_many file l.i starts room _ here (sym c.if-not-is_sound.ensures)
    (omega (arith, c.if-total-gt-MOST_PATH_POINTS.true, c.count_in-n.ensures)))

pub returns-then-to-file : goal.returns-then-to-file
unfolding answer_of refusal number_of place_of
returns-then-to-file c =
    let l = c.loop-i in
    let file = c.args.file.now in
    let n = c.count_in-n.ensures in
    let chunks = c.as_chunks.ensures in
    let (starts, room, here) = whole_block l.i file _ chunks.front chunks.front_len c.loop-i-test.true in
    let to : 512 * (l.i + 1) ≡ 512 * l.i + 512 = omega arith in
    rw to
    (scan_refused file l.i l.invariant.1 9 (512 * l.i + 512)
    (left_beyond file l.i starts room _ here (sym c.if-not-is_sound.ensures)
    (omega (arith, n, c.if-total-gt-MOST_PATH_POINTS.false)) (omega (arith, n, c.if-n-lt-BLOCK_POINTS.true)) (omega (arith, c.if-to-file.true))))

pub returns-then-n-lt-BLOCK_POINTS : goal.returns-then-n-lt-BLOCK_POINTS
unfolding answer_of
returns-then-n-lt-BLOCK_POINTS c =
    let l = c.loop-i in
    let file = c.args.file.now in
    let n = c.count_in-n.ensures in
    let chunks = c.as_chunks.ensures in
    let (starts, room, here) = whole_block l.i file _ chunks.front chunks.front_len c.loop-i-test.true in
    rw n
    (scan_given file l.i l.invariant.1 _
    (left_last file l.i starts room _ here (sym c.if-not-is_sound.ensures)
    (omega (arith, n, c.if-total-gt-MOST_PATH_POINTS.false)) (omega (arith, n, c.if-n-lt-BLOCK_POINTS.true)) (omega (arith, c.if-to-file.false))))

pub loop-i-preserved : goal.loop-i-preserved
loop-i-preserved c =
    let l = c.loop-i in
    let file = c.args.file.now in
    let n = c.count_in-n.ensures in
    let s = sym c.if-not-is_sound.ensures in
    let chunks = c.as_chunks.ensures in
    let (starts, room, here) = whole_block l.i file _ chunks.front chunks.front_len c.loop-i-test.true in
    let full : count_in (get_or c.as_chunks.result.0.now l.i []) ≡ 31 = omega (arith, n, c.if-n-lt-BLOCK_POINTS.false, sound_few _ _ s) in (
      omega (arith, n, full, c.if-total-gt-MOST_PATH_POINTS.false),
      scan_on file l.i l.invariant.1 (left_full file l.i starts room _ here s (omega (arith, n, c.if-total-gt-MOST_PATH_POINTS.false)) full),
    )

pub returns : goal.returns
unfolding answer_of refusal number_of place_of
returns c =
    let l = c.loop-i in
    let file = c.args.file.now in
    let all : l.i ≡ length file / 512 = omega (arith, l.auto.i-end, c.loop-i-test.false, c.as_chunks.ensures.front_len) in
    scan_refused file l.i l.invariant.1 9 (length file) (left_short file l.i (omega (arith, all)) (omega (arith, all)))
