-- How many bytes a block and a file have. Assumes nothing.
use Rattle.std.specs.Prelude.{◌≡◌, refl, List, ℕ, zero, suc, ◌+◌, ◌-◌, ◌*◌, ◌/◌, ◌≤◌, length, take, drop, Float}
use Rattle.std.proofs.Common.{arith, length-append, length-take}
use Rattle.little_endian.specs.Bytes.{words}
use Rattle.little_endian.specs.Numbers.{bytes_length, patterns_length}
use Rattle.file_format.specs.PlateFile.{first_check, second_check, block_body, block, blocks, write_file}

pub body_length : (i : ℕ) (xs : List Float) → length xs ≤ 62 → length (block_body i xs) ≡ 504
unfolding block_body
body_length i xs h =
    simp length-append
    (omega (arith, bytes_length 4 i, bytes_length 2 (length xs / 2), bytes_length 2 0, patterns_length xs, bytes_length (496 - 8 * length xs) 0))

pub block_length : (i : ℕ) (xs : List Float) → length xs ≤ 62 → length (block i xs) ≡ 512
unfolding block
block_length i xs h =
    let ws = words 126 (block_body i xs) in
    simp length-append (omega (arith, body_length i xs h, bytes_length 4 (first_check ws), bytes_length 4 (second_check ws)))

pub blocks_length : (n i : ℕ) (xs : List Float) → length (blocks n i xs) ≡ 512 * n
unfolding blocks
blocks_length zero i xs = refl
blocks_length (suc n) i xs =
    let l : length (take 62 xs) ≤ 62 = omega (arith, length-take 62 xs) in
    simp length-append (omega (arith, block_length i (take 62 xs) l, blocks_length n (suc i) (drop 62 xs)))

pub file_length : (xs : List Float) → length (write_file xs) ≡ 512 * (length xs / 62 + 1)
unfolding write_file
file_length xs = blocks_length (length xs / 62 + 1) 0 xs
