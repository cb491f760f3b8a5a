-- Plate files (document 02, ticket 2), as rows of tables that one theorem covers, and the writer's limit, which no row can reach.
-- Bytes, answers and places are those of a separate model of document 02's text, written in Python: none comes from the definitions.
use Rattle.std.specs.Prelude.{◌≡◌, refl, true, false, List, [], ◌∷◌, ◌++◌, map, ℕ, ◌+◌, ◌/◌, ◌<◌, pos, negsuc, length, take, replicate, Float}
use Rattle.std.proofs.Common.{lt-ltb}
use Rattle.std.proofs.lemmas.List.Edits.{sets}
use Rattle.std.specs.Float.{nan, fin}
use Rattle.std.specs.Float.Ieee.{neg, le, of_bits, to_bits}
use Rattle.rules.specs.Limits.{most_path_points}
use Rattle.rules.specs.Tools.{pick, sum}
use Rattle.rules.specs.HandedOver.{Answer, gives, refuses, in_range, plate_limit, first_off, refused_by, out_of_range, off_the_plate, no_room, over, written}
use Rattle.little_endian.specs.Bytes.{to_bytes, from_bytes, part, field, words, patterns, floats}
use Rattle.file_format.specs.PlateFile.{sums, first_check, second_check, block_body, block, blocks, write_file, count_in, coordinates_in, sound, block_damaged, too_many_path_points, goes_on, followed, read_from, read_file, odd_path, write_rows, WriteOutcome, write_call, read_into, coordinates_of, ReadOutcome, read_call}

-- ---- paths

-- (1, −0)
point : List Float
point = fin false 1 (pos 0) ∷ fin true 0 (pos 0) ∷ []

-- (1, −0), (2^−1074, 1000000)
points : List Float
points = point ++ (fin false 1 (negsuc 1073) ∷ fin false 15625 (pos 6) ∷ [])

-- 1, n zeros, 2
long : ℕ → List Float
long n = fin false 1 (pos 0) ∷ replicate n (fin false 0 (pos 0)) ++ (fin false 1 (pos 1) ∷ [])

-- ---- blocks

-- bytes, but for those from some places on
infixl 20 ◌but◌
◌but◌ : List ℕ → List (ℕ × List ℕ) → List ℕ
bs but [] = bs
bs but (p ∷ ps) = sets bs p.0 p.1 but ps

-- block 0 of no point, of (1, −0), of both points, of 30 and of 31
zeros : List ℕ
zeros = replicate 512 0

point_block : List ℕ
point_block = zeros but ((4, 1 ∷ []) ∷ (14, 240 ∷ 63 ∷ []) ∷ (23, 128 ∷ []) ∷ (504, 1 ∷ 0 ∷ 240 ∷ 191 ∷ 125 ∷ 0 ∷ 80 ∷ 56 ∷ []) ∷ [])

points_block : List ℕ
points_block =
    zeros
    but ((4, 2 ∷ []) ∷ (14, 240 ∷ 63 ∷ []) ∷ (23, 128 ∷ 1 ∷ []) ∷ (36, 128 ∷ 132 ∷ 46 ∷ 65 ∷ []) ∷ [])
    but ((504, 131 ∷ 132 ∷ 30 ∷ 1 ∷ 242 ∷ 143 ∷ 146 ∷ 2 ∷ []) ∷ [])

almost_full : List ℕ
almost_full = zeros but ((4, 30 ∷ []) ∷ (14, 240 ∷ 63 ∷ []) ∷ (487, 64 ∷ []) ∷ (504, 30 ∷ 0 ∷ 240 ∷ 127 ∷ 166 ∷ 14 ∷ 80 ∷ 248 ∷ []) ∷ [])

full_block : List ℕ
full_block = zeros but ((4, 31 ∷ []) ∷ (14, 240 ∷ 63 ∷ []) ∷ (503, 64 ∷ []) ∷ (504, 31 ∷ 0 ∷ 240 ∷ 127 ∷ 35 ∷ 15 ∷ 80 ∷ 248 ∷ []) ∷ [])

-- block 1 of no point, of (1, −0) and of 31; block 2 of no point
closing : List ℕ
closing = zeros but ((0, 1 ∷ []) ∷ (504, 1 ∷ 0 ∷ 0 ∷ 0 ∷ 126 ∷ []) ∷ [])

closing_point : List ℕ
closing_point = point_block but ((0, 1 ∷ []) ∷ (504, 2 ∷ []) ∷ (508, 251 ∷ []) ∷ [])

second_full : List ℕ
second_full = full_block but ((0, 1 ∷ []) ∷ (504, 32 ∷ []) ∷ (508, 161 ∷ []) ∷ [])

third : List ℕ
third = zeros but ((0, 2 ∷ []) ∷ (504, 2 ∷ []) ∷ (508, 252 ∷ []) ∷ [])

-- block 33825 of (1, −0) and of both points: the first makes 1,048,576 points
last_block : List ℕ
last_block = point_block but ((0, 33 ∷ 132 ∷ []) ∷ (504, 34 ∷ 132 ∷ 240 ∷ 191 ∷ 187 ∷ 8 ∷ 145 ∷ 56 ∷ []) ∷ [])

passing : List ℕ
passing = points_block but ((0, 33 ∷ 132 ∷ []) ∷ (504, 164 ∷ 8 ∷ 31 ∷ 1 ∷ 48 ∷ 152 ∷ 211 ∷ 2 ∷ []) ∷ [])

-- ---- rows

-- a path or a file, how many bytes or numbers the output slice has, and the outcome
abbrev pub WriteRow : Type 0
WriteRow = List Float × ℕ × WriteOutcome

abbrev pub ReadRow : Type 0
ReadRow = List ℕ × ℕ × ReadOutcome

-- what the output slices hold before
unfoldable pub unwritten : ℕ → List ℕ
unwritten n = replicate n 7

unfoldable pub unread : ℕ → List Float
unread n = replicate n (fin false 7 (pos 0))

-- a path's file, with so many bytes of room beyond it; and a refusal
writes : List Float → List ℕ → ℕ → WriteRow
writes xs bs beyond = (xs, length bs + beyond, record { answer = gives (length bs); file = bs ++ unwritten beyond })

not_written : List Float → ℕ → ℕ → ℕ → WriteRow
not_written xs room number place = (xs, room, record { answer = refuses number place; file = unwritten room })

-- a file's path, with so many numbers of room beyond it; and a refusal
reads : List ℕ → List Float → ℕ → ReadRow
reads bs xs beyond = (bs, length xs + beyond, record { answer = gives (length xs / 2); path = xs ++ unread beyond })

not_read : List ℕ → ℕ → ℕ → ℕ → ReadRow
not_read bs room number place = (bs, room, record { answer = refuses number place; path = unread room })

-- 8 and 9 come before 6: there is no room for a point
damaged : List ℕ → ℕ → ReadRow
damaged bs place = not_read bs 1 8 place

wrong_end : List ℕ → ℕ → ReadRow
wrong_end bs place = not_read bs 1 9 place

-- ---- the tables

pub writing : List WriteRow
writing =
    -- nothing beyond the file is altered
    writes [] zeros 2
    ∷ writes point point_block 0
    ∷ writes points points_block 1
    -- 30, 31, 32 and 62 points
    ∷ writes (long 58) almost_full 0
    ∷ writes (long 60) (full_block ++ closing) 0
    ∷ writes (long 60 ++ point) (full_block ++ closing_point) 0
    ∷ writes (long 60 ++ long 60) (full_block ++ second_full ++ third) 0
    -- 3 before 4, for a NaN alone; 4 before 6, for the next number above 1,000,000; 6 for a byte short
    ∷ not_written (nan ∷ []) 1 3 0
    ∷ not_written (fin false 15625 (pos 6) ∷ fin false 8589934592000001 (negsuc 32) ∷ []) 1 4 1
    ∷ not_written [] 511 6 0
    ∷ not_written (long 60) 1023 6 0
    ∷ []

pub reading : List ReadRow
reading =
    -- nothing beyond the path is altered
    reads zeros [] 1
    ∷ reads point_block point 0
    ∷ reads points_block points 1
    ∷ reads almost_full (long 58) 0
    ∷ reads (full_block ++ closing) (long 60) 0
    ∷ reads (full_block ++ closing_point) (long 60 ++ point) 0
    ∷ reads (full_block ++ second_full ++ third) (long 60 ++ long 60) 0
    -- a wrong check, in its first byte and in its last
    ∷ damaged (point_block but ((504, 2 ∷ []) ∷ [])) 0
    ∷ damaged (point_block but ((507, 190 ∷ []) ∷ [])) 0
    ∷ damaged (point_block but ((508, 126 ∷ []) ∷ [])) 0
    ∷ damaged (point_block but ((511, 57 ∷ []) ∷ [])) 0
    -- a wrong byte, the checks being right again: in the number
    ∷ damaged (point_block but ((0, 1 ∷ []) ∷ (504, 2 ∷ []) ∷ (508, 251 ∷ []) ∷ [])) 0
    ∷ damaged (point_block but ((3, 1 ∷ []) ∷ (507, 192 ∷ []) ∷ (511, 182 ∷ []) ∷ [])) 0
    -- in the count: the point's place is unused then, or it is above 31
    ∷ damaged (point_block but ((4, 0 ∷ []) ∷ (504, 0 ∷ []) ∷ (508, 0 ∷ []) ∷ [])) 0
    ∷ damaged (point_block but ((4, 32 ∷ []) ∷ (504, 32 ∷ []) ∷ (508, 160 ∷ 15 ∷ []) ∷ [])) 0
    ∷ damaged (point_block but ((5, 1 ∷ []) ∷ (505, 1 ∷ []) ∷ (509, 125 ∷ []) ∷ [])) 0
    -- in the zero bytes
    ∷ damaged (point_block but ((6, 1 ∷ []) ∷ (506, 241 ∷ []) ∷ (510, 205 ∷ []) ∷ [])) 0
    ∷ damaged (point_block but ((7, 1 ∷ []) ∷ (507, 192 ∷ []) ∷ (511, 181 ∷ []) ∷ [])) 0
    -- in the first unused place, and in the last, which is −0 then
    ∷ damaged (point_block but ((24, 1 ∷ []) ∷ (504, 2 ∷ []) ∷ (508, 245 ∷ []) ∷ [])) 0
    ∷ damaged (point_block but ((503, 128 ∷ []) ∷ (507, 63 ∷ []) ∷ (511, 184 ∷ []) ∷ [])) 0
    -- in a coordinate: a NaN, and the next number above 1,000,000
    ∷ damaged (point_block but ((14, 248 ∷ 127 ∷ []) ∷ (506, 248 ∷ 255 ∷ []) ∷ (510, 40 ∷ 252 ∷ []) ∷ [])) 0
    ∷ damaged (point_block but ((16, 1 ∷ []) ∷ (20, 128 ∷ 132 ∷ 46 ∷ 65 ∷ []) ∷ (504, 130 ∷ 132 ∷ 30 ∷ 129 ∷ 119 ∷ 161 ∷ 76 ∷ 135 ∷ []) ∷ [])) 0
    -- the place is the block's number; here block 1 is damaged, or is block 0 again
    ∷ damaged (full_block ++ (closing but ((100, 1 ∷ []) ∷ []))) 1
    ∷ damaged (full_block ++ full_block) 1
    -- the file ends early
    ∷ wrong_end [] 0
    ∷ wrong_end (take 511 zeros) 511
    ∷ wrong_end full_block 512
    ∷ wrong_end (full_block ++ take 188 closing) 700
    -- it goes on after its closing block, whatever follows
    ∷ wrong_end (point_block ++ (0 ∷ [])) 512
    ∷ wrong_end (point_block ++ unwritten 512) 512
    ∷ wrong_end (full_block ++ closing ++ (0 ∷ [])) 1024
    -- 8 before 9
    ∷ damaged ((point_block but ((100, 1 ∷ []) ∷ [])) ++ (0 ∷ [])) 0
    ∷ damaged ((full_block but ((100, 1 ∷ []) ∷ [])) ++ (0 ∷ [])) 0
    -- 6 for a number short
    ∷ not_read points_block 3 6 0
    ∷ not_read (full_block ++ closing) 61 6 0
    ∷ []

-- what is read from block 33825 on: 2 comes after 8 and before 9
pub reading_last : List (List ℕ × Answer (List Float))
reading_last =
    (last_block, gives point)
    ∷ (passing, refuses 2 0)
    ∷ (passing ++ (0 ∷ []), refuses 2 0)
    ∷ (passing but ((100, 1 ∷ []) ∷ []), refuses 8 33825)
    ∷ (last_block ++ (0 ∷ []), refuses 9 17318912)
    ∷ []

-- each row's outcome is that of the definitions
pub files :
    (map (λ r. write_call r.0 (unwritten r.1)) writing ≡ map (λ r. r.2) writing)
    × (map (λ r. read_call r.0 (unread r.1)) reading ≡ map (λ r. r.2) reading)
    × (map (λ r. read_from 1 33825 r.0) reading_last ≡ map (λ r. r.1) reading_last)
unfolding
    writing reading reading_last writes not_written reads not_read damaged wrong_end unwritten unread
    point points long ◌but◌ zeros point_block points_block almost_full full_block closing closing_point second_full third last_block passing
    -- floats, Tools, HandedOver
    neg le of_bits to_bits pick sum in_range plate_limit first_off refused_by out_of_range off_the_plate no_room over written
    -- Bytes
    to_bytes from_bytes part field words patterns floats
    -- PlateFile
    sums first_check second_check block_body block blocks write_file count_in coordinates_in sound block_damaged too_many_path_points goes_on followed read_from read_file
    odd_path write_rows write_call read_into coordinates_of read_call
files = (refl, refl, refl)

-- ---- the writer's limit

-- above 1,048,576 points comes 2, whatever else is wrong
pub too_long : (xs : List Float) (file : List ℕ) → most_path_points < length xs / 2 → (write_call xs file).answer ≡ refuses 2 0
unfolding write_call write_rows refused_by pick too_many_path_points
too_long xs file h = rw (lt-ltb most_path_points (length xs / 2) h) refl

-- the same of one point more, by the numbers
pub above_limit : (xs : List Float) (file : List ℕ) → length xs ≡ 2097154 → (write_call xs file).answer ≡ refuses 2 0
unfolding write_call write_rows refused_by pick too_many_path_points
above_limit xs file h = rw h refl

-- a number more than those of 1,048,576 points is refused with 3
pub odd_at_limit : (xs : List Float) (file : List ℕ) → length xs ≡ 2097153 → (write_call xs file).answer ≡ refuses 3 0
unfolding write_call write_rows refused_by pick too_many_path_points odd_path
odd_at_limit xs file h = rw h refl

-- just 1,048,576 points are refused with 4 or 6, or not at all
pub at_limit :
    (xs : List Float) (file : List ℕ) → length xs ≡ 2097152 →
    let n = length (write_file xs) in
    (write_call xs file).answer ≡ refused_by (off_the_plate xs ∷ no_room (length file) n ∷ []) (gives n)
unfolding write_call write_rows refused_by pick too_many_path_points odd_path
at_limit xs file h = rw h refl
