-- A file that is copied and written by parts of a slice: n numbers of a block, as many as are left. Assumes nothing.
use Rattle.std.specs.Prelude.{◌≡◌, refl, List, ◌++◌, ℕ, ◌+◌, ◌-◌, ◌*◌, ◌/◌, ◌≤◌, ◌<◌, min, Float, length, take, drop}
use Rattle.std.proofs.Common.{sym, ap, ◌∙◌, append-nil, arith, length-take, length-drop, length-take-le, take-add, take_all, drop_of_length-le}
use Rattle.std.proofs.Math.Decide.{dec_le}
use Rattle.rules.specs.HandedOver.{gives, over}
use Rattle.plate_laws.specs.Lists.{All}
use Rattle.little_endian.specs.Bytes.{floats}
use Rattle.little_endian.specs.Numbers.{NoNan}
use Rattle.file_format.specs.PlateFile.{block, blocks, write_file, read_file}
use Rattle.file_laws.specs.Lengths.{block_length, blocks_length}
use Rattle.file_laws.specs.WrittenFile.{over_append, blocks_snoc, written_to}
use Rattle.file_laws.specs.PointCounts.{counted}
use Rattle.file_laws.specs.BlockCopies.{read_path, copied_to, read_as, points_read, blocks_read, all_copied, copied_here, copied_numbers}

-- ---- writing

-- the coordinates of block i, as far as there are some
pub part_coordinates : (xs : List Float) (i n : ℕ) → n ≡ min (length (drop (62 * i) xs)) 62 → take n (drop (62 * i) xs) ≡ take 62 (drop (62 * i) xs)
part_coordinates xs i n e = go (dec_le 62 (length (drop (62 * i) xs)))
  where
    go : Dec (62 ≤ length (drop (62 * i) xs)) → take n (drop (62 * i) xs) ≡ take 62 (drop (62 * i) xs)
    go (yes h) = let f : n ≡ 62 = omega arith in rw f
    go (no h) =
        let a : length (drop (62 * i) xs) ≤ n = omega arith in
        let b : length (drop (62 * i) xs) ≤ 62 = omega arith in
        take_all n (drop (62 * i) xs) a ∙ sym (take_all 62 (drop (62 * i) xs) b)

pub write_part : (xs : List Float) (file f new : List ℕ) (i n : ℕ) → n ≡ min (length (drop (62 * i) xs)) 62 →
    f ≡ written_to xs file i → new ≡ block i (take n (drop (62 * i) xs)) →
    take (512 * i) f ++ (new ++ drop 512 (drop (512 * i) f)) ≡ written_to xs file (i + 1)
write_part xs file f new i n e h b =
    let z : 0 + i ≡ i = omega arith in
    let ys = take 62 (drop (62 * i) xs) in
    let new_is : new ≡ block i ys = b ∙ ap (block i) (part_coordinates xs i n e) in
    let l : length ys ≤ 62 = omega (arith, length-take 62 (drop (62 * i) xs)) in
    rw (h, blocks_snoc i 0 xs, z, new_is) (over_append (blocks i 0 xs) (block i ys) file (512 * i) 512 (blocks_length i 0 xs) (block_length i ys l))

pub parts_written : (xs : List Float) (file : List ℕ) (i : ℕ) → i ≡ length xs / 62 + 1 → written_to xs file i ≡ over (write_file xs) file
unfolding write_file
parts_written xs file i e = rw e

-- ---- copying

-- a file that is counted as so many points, and an output slice of just their coordinates
module _ (file : List ℕ) (points : ℕ) (counts : counted (read_file file) ≡ gives points) (path : List Float) (room : length path ≡ 2 * points) where
  abbrev xs : List Float
  xs = read_path file

  pub parts_copied : (i : ℕ) → i ≡ length file / 512 → copied_to file path i ≡ xs
  unfolding over
  parts_copied i e =
      let k : length path ≤ length xs = omega (arith, room, points_read file points counts) in
      all_copied file points counts path i e ∙ rw (drop_of_length-le path k) (append-nil xs)

  pub part_begins : (i : ℕ) → i < length file / 512 → 62 * i ≤ length path
  part_begins i h = omega (arith, h, room, blocks_read file points counts)

  -- block i of the file, of which n numbers are copied
  module _ (i n : ℕ) (b : List ℕ) (in-file : i < length file / 512) (share : n ≡ min (length path - 62 * i) 62)
      (here : b ≡ take 512 (drop (512 * i) file)) where
    twice : n ≡ 2 * min (points - 31 * i) 31
    twice = omega (arith, share, room)

    part_length : length (take 62 (drop (62 * i) xs)) ≡ n
    part_length =
        omega (arith, length-take 62 (drop (62 * i) xs), length-drop (62 * i) xs, points_read file points counts, share, room, in-file, blocks_read file points counts)

    part_here : floats n (drop 8 b) ≡ take 62 (drop (62 * i) xs)
    part_here = rw twice (copied_here file points counts i (min (points - 31 * i) 31) b in-file refl here)

    pub part_numbers : All NoNan (floats n (drop 8 b))
    part_numbers = rw twice (copied_numbers file points counts i (min (points - 31 * i) 31) b in-file refl here)

    pub copy_part : (p new : List Float) → p ≡ copied_to file path i → new ≡ floats n (drop 8 b) →
        take (62 * i) p ++ (new ++ drop n (drop (62 * i) p)) ≡ copied_to file path (i + 1)
    copy_part p new e f =
        let front = take (62 * i) xs in
        let more = take 62 (drop (62 * i) xs) in
        let k : length front ≡ 62 * i = length-take-le (62 * i) xs (omega (arith, in-file, (read_as file points counts).count)) in
        let g : 62 * (i + 1) ≡ 62 * i + 62 = omega arith in
        rw (e, f, part_here, g, take-add (62 * i) 62 xs) (over_append front more path (62 * i) n k part_length)
