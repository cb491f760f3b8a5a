-- "Plate file" of document 02, ticket 2: the blocks, the file of a path, what a file is read as, and the two calls with their refusals. The last part says what
-- is to be proved: ReadsBack, OneFile. Definitions only.
--
-- A block has 512 bytes: 0 to 3 its number, 4 and 5 its count of points, 6 and 7 zero, 8 to 503 its 31 places, 504 to 507 the first check, 508 to 511 the second.
use Rattle.std.specs.Prelude.{◌≡◌, Bool, not, ◌&&◌, List, [], ◌∷◌, ◌++◌, ℕ, zero, suc, ◌+◌, ◌-◌, ◌*◌, ◌/◌, ◌%◌, ◌^◌, ◌≤◌, leb, ltb, eqb, length, take, drop, Float}
use Rattle.rules.specs.Tools.{pick, sum}
use Rattle.rules.specs.HandedOver.{AllF64, Answer, gives, refuses, plate_limit, first_off, RefusalRow, row, refused_by, off_the_plate, no_room, over, written}
use Rattle.rules.specs.Limits.{most_path_points}
use Rattle.little_endian.specs.Bytes.{AllBytes, to_bytes, field, words, patterns, floats}

-- ---- the two checks

-- the sum after each word, s being the sum before the first
unfoldable pub sums : ℕ → List ℕ → List ℕ
sums s [] = []
sums s (w ∷ ws) = (s + w) ∷ sums (s + w) ws

unfoldable pub first_check : List ℕ → ℕ
first_check ws = sum ws % 2 ^ 32

unfoldable pub second_check : List ℕ → ℕ
second_check ws = sum (sums 0 ws) % 2 ^ 32

-- ---- writing

-- block i as far as its checks, xs being the coordinates of up to 31 points: the unused places are zero
unfoldable pub block_body : ℕ → List Float → List ℕ
block_body i xs = to_bytes 4 i ++ to_bytes 2 (length xs / 2) ++ to_bytes 2 0 ++ patterns xs ++ to_bytes (496 - 8 * length xs) 0

unfoldable pub block : ℕ → List Float → List ℕ
block i xs =
    let body = block_body i xs in
    let ws = words 126 body in
    body ++ to_bytes 4 (first_check ws) ++ to_bytes 4 (second_check ws)

-- n blocks from block i on, each with the next 31 points, as far as there are some
unfoldable pub blocks : ℕ → ℕ → List Float → List ℕ
blocks zero i xs = []
blocks (suc n) i xs = block i (take 62 xs) ++ blocks n (suc i) (drop 62 xs)

-- the file of a path: full blocks, and a last one that is not full and may hold no point
unfoldable pub write_file : List Float → List ℕ
write_file xs = blocks (length xs / 62 + 1) 0 xs

-- ---- reading

unfoldable pub count_in : List ℕ → ℕ
count_in b = field 4 2 b

unfoldable pub coordinates_in : List ℕ → List Float
coordinates_in b = floats (2 * count_in b) (drop 8 b)

-- 512 bytes are block i, undamaged
unfoldable pub sound : ℕ → List ℕ → Bool
sound i b =
    let n = count_in b in
    eqb (field 0 4 b) i
    && leb n 31
    && eqb (field 6 2 b) 0
    && eqb (field (8 + 16 * n) (496 - 16 * n) b) 0
    && eqb (field 504 4 b) (first_check (words 126 b))
    && eqb (field 508 4 b) (second_check (words 126 b))
    && eqb (first_off plate_limit 0 (coordinates_in b)) (2 * n)

unfoldable pub block_damaged : ℕ → List ℕ → RefusalRow
block_damaged i b = row (not (sound i b)) 8 i

-- n path points are more than a path may have
unfoldable pub too_many_path_points : ℕ → RefusalRow
too_many_path_points n = row (ltb most_path_points n) 2 0

-- block i, which closes the file, is not its end: `left` bytes are left, its own 512 among them
unfoldable pub goes_on : ℕ → ℕ → RefusalRow
goes_on i left = row (ltb 512 left) 9 (512 * i + 512)

-- the coordinates of a full block, and then what is read after it
unfoldable pub followed : List Float → Answer (List Float) → Answer (List Float)
followed xs (gives ys) = gives (xs ++ ys)
followed xs (refuses number place) = refuses number place

-- What is read from block i on. bs is what is left of the file, and n is how many whole blocks it has: with none left, the file ends early.
unfoldable pub read_from : ℕ → ℕ → List ℕ → Answer (List Float)
read_from zero i bs = refuses 9 (512 * i + length bs)
read_from (suc n) i bs =
    let b = take 512 bs in
    let closing = refused_by (goes_on i (length bs) ∷ []) (gives (coordinates_in b)) in
    let full = followed (coordinates_in b) (read_from n (suc i) (drop 512 bs)) in
    refused_by (block_damaged i b ∷ too_many_path_points (31 * i + count_in b) ∷ []) (pick (ltb (count_in b) 31) closing full)

unfoldable pub read_file : List ℕ → Answer (List Float)
read_file bs = read_from (length bs / 512) 0 bs

-- ---- the calls

unfoldable pub odd_path : List Float → RefusalRow
odd_path xs = row (not (eqb (length xs % 2) 0)) 3 0

-- the refusals of the writer, where `room` bytes fit; an odd slice is rounded down for 2
unfoldable pub write_rows : List Float → ℕ → List RefusalRow
write_rows xs room = too_many_path_points (length xs / 2) ∷ odd_path xs ∷ off_the_plate xs ∷ no_room room (length (write_file xs)) ∷ []

-- how many bytes the file has; `file` is the output slice
pub record WriteOutcome : Type 0 where
  pub answer : Answer ℕ
  pub file : List ℕ

unfoldable pub write_call : List Float → List ℕ → WriteOutcome
write_call xs file =
    let bs = write_file xs in
    let a = refused_by (write_rows xs (length file)) (gives (length bs)) in
    record { answer = a; file = written a bs file }

-- what was read, where it has room in a path slice of `room` numbers: how many points
unfoldable pub read_into : ℕ → Answer (List Float) → Answer ℕ
read_into room (gives xs) = refused_by (no_room room (length xs) ∷ []) (gives (length xs / 2))
read_into room (refuses number place) = refuses number place

-- the coordinates that were read
unfoldable pub coordinates_of : Answer (List Float) → List Float
coordinates_of (gives xs) = xs
coordinates_of (refuses number place) = []

-- how many points were read; `path` is the output slice
pub record ReadOutcome : Type 0 where
  pub answer : Answer ℕ
  pub path : List Float

unfoldable pub read_call : List ℕ → List Float → ReadOutcome
read_call file path =
    let r = read_file file in
    let a = read_into (length path) r in
    record { answer = a; path = written a (coordinates_of r) path }

-- ---- what is to be proved

-- What the writer finishes, the reader reads back where the path slice has room: every coordinate bit for bit, and nothing beyond is altered.
unfoldable pub ReadsBack : Type 0
ReadsBack =
    (xs path : List Float) (file : List ℕ) (n : ℕ) →
    AllF64 xs →
    let w = write_call xs file in
    w.answer ≡ gives n →
    length xs ≤ length path →
    let r = read_call (take n w.file) path in
    (r.answer ≡ gives (length xs / 2)) × (r.path ≡ over xs path)

-- Whatever is read as a path is the file of that path, and is what the writer writes for it, where the output slice has room.
unfoldable pub OneFile : Type 0
OneFile =
    (bs : List ℕ) (xs : List Float) →
    AllBytes bs →
    read_file bs ≡ gives xs →
    (bs ≡ write_file xs)
    × ((file : List ℕ) → length bs ≤ length file → let w = write_call xs file in (w.answer ≡ gives (length bs)) × (w.file ≡ over bs file))
