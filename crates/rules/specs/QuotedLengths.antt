-- Lengths as rows: of pairs, of plates contour by contour, and of paths. Expected values are worked out in exact fractions from the roots that the Rust gives.
use Rattle.std.specs.Prelude.{◌≡◌, refl, ℕ, ◌^◌, ◌-◌, List, [], ◌∷◌, map, length, Float}
use Rattle.std.specs.Float.Ieee.{round, neg, add, sub, mul, of_int}
use Rattle.rules.specs.Tools.{pick, sum}
use Rattle.rules.specs.HandedOver.{plate, parked_plate, at, contours_from, contours}
use Rattle.rules.specs.Distances.{mul_add, root_by, floor_root, round_root, sqrt, distance_squared, distance}
use Rattle.rules.specs.Marks.{kind_at, count_marks, marks_of}
use Rattle.rules.specs.Lengths.{in_1024ths, pair_length, segment_length, contour_length, plate_length, counted_length, length_along}
use Rattle.rules.specs.Calls.{totals}
use Rattle.rules.specs.Plates.{whole, decimal, binary, pairs}
use Rattle.rules.specs.declared.Totals.{Totals}

-- ---- numbers and slices

-- n / 10,000, as the nearest float
ten_thousandths : ℕ → Float
ten_thousandths n = decimal n 4

-- the points (x, 0) of an f64 slice
on_axis : List Float → List Float
on_axis [] = []
on_axis (x ∷ xs) = x ∷ whole 0 ∷ on_axis xs

in_ten_thousandths : List ℕ → List Float
in_ten_thousandths ns = on_axis (map ten_thousandths ns)

-- the length of a pair
between : Float → Float → Float → Float → ℕ
between a b c d = pair_length (record { x = a; y = b }) (record { x = c; y = d })

far : Float
far = whole 1000000

-- ---- pairs

pub pair_rows : List ℕ
pair_rows =
    -- 3, 4, 5; equal points; 0 and −0
    between (whole 0) (whole 0) (whole 3) (whole 4)
    ∷ between (whole 7) (whole 7) (whole 7) (whole 7)
    ∷ between (whole 0) (whole 0) (neg (whole 0)) (whole 0)
    -- rounded down: a root that is no whole number of 1,024ths; 1.9456 of them, which gives 1; 1/1,024 and the number just below it; 1.5 of them
    ∷ between (whole 0) (whole 0) (whole 1) (whole 1)
    ∷ between (whole 0) (whole 0) (ten_thousandths 19) (whole 0)
    ∷ between (whole 0) (whole 0) (binary 1 10) (whole 0)
    ∷ between (whole 0) (whole 0) (binary (2 ^ 53 - 1) 63) (whole 0)
    ∷ between (whole 0) (whole 0) (whole 0) (binary 3 11)
    -- the plain distance is a rounded number: 2.5, where the root of the squared distance itself is below it; with x and y exchanged it may be another
    ∷ between (whole 0) (whole 0) (decimal 24 1) (decimal 7 1)
    ∷ between (whole 0) (whole 0) (decimal 24 2) (decimal 7 2)
    ∷ between (whole 0) (whole 0) (decimal 7 2) (decimal 24 2)
    -- subnormal differences, whose squares vanish; and a squared distance that is subnormal
    ∷ between (whole 0) (whole 0) (binary 1 1074) (whole 0)
    ∷ between (binary 1 1074) (whole 0) (neg (binary 1 1074)) (binary 1 600)
    ∷ between (whole 0) (whole 0) (binary 1 537) (whole 0)
    -- across the whole plate
    ∷ between (neg far) (neg far) far far
    ∷ between far (whole 0) (neg far) (whole 0)
    ∷ []

pub of_pairs : pair_rows
    ≡ 5120 ∷ 0 ∷ 0 ∷ 1448 ∷ 1 ∷ 1 ∷ 0 ∷ 1 ∷ 2560 ∷ 255 ∷ 256 ∷ 0 ∷ 0 ∷ 0 ∷ 2896309375 ∷ 2048000000 ∷ []
unfolding
    pair_rows ten_thousandths decimal binary between far whole round neg add sub mul of_int
    pick mul_add root_by floor_root round_root sqrt distance_squared distance in_1024ths pair_length
of_pairs = refl

-- ---- plates, contour by contour

-- the lengths of a plate's contours, and its own
lengths_by_contours : List Float → List ℕ → List ℕ × ℕ
lengths_by_contours xs ns = let p = parked_plate xs ns (map (λ n. 0) ns) (whole 0) (whole 0) in (map (contour_length p) (contours p), plate_length p)

pub plate_rows : List (List ℕ × ℕ)
plate_rows =
    -- no contour; skipped ones and single points; three contours, between which no segment goes
    lengths_by_contours [] []
    ∷ lengths_by_contours (on_axis (whole 5 ∷ [])) (0 ∷ 1 ∷ 0 ∷ [])
    ∷ lengths_by_contours (on_axis (whole 0 ∷ whole 4 ∷ whole 9 ∷ whole 8 ∷ whole 6 ∷ whole 1 ∷ [])) (2 ∷ 0 ∷ 1 ∷ 3 ∷ [])
    -- each segment is rounded down: two of 0.6144 give 0, where their sum would give 1
    ∷ lengths_by_contours (in_ten_thousandths (0 ∷ 6 ∷ 12 ∷ [])) (3 ∷ [])
    -- more than 32 bits, in one contour and in all
    ∷ lengths_by_contours (neg far ∷ neg far ∷ far ∷ far ∷ neg far ∷ neg far ∷ []) (3 ∷ [])
    ∷ lengths_by_contours (neg far ∷ neg far ∷ far ∷ far ∷ neg far ∷ neg far ∷ far ∷ far ∷ []) (2 ∷ 2 ∷ [])
    ∷ []

pub of_plates : plate_rows
    ≡ ([], 0)
    ∷ (0 ∷ [], 0)
    ∷ (4096 ∷ 0 ∷ 7168 ∷ [], 11264)
    ∷ (0 ∷ [], 0)
    ∷ (5792618750 ∷ [], 5792618750)
    ∷ (2896309375 ∷ 2896309375 ∷ [], 5792618750)
    ∷ []
unfolding
    plate_rows ten_thousandths decimal binary on_axis in_ten_thousandths far lengths_by_contours whole round neg add sub mul of_int
    pick sum plate parked_plate at contours_from contours
    mul_add root_by floor_root round_root sqrt distance_squared distance
    in_1024ths pair_length segment_length contour_length plate_length
of_plates = refl

-- ---- paths

three_lengths : Totals → ℕ × ℕ × ℕ
three_lengths t = (t.cut_length, t.back_step_length, t.jump_length)

-- the lengths along a path whose points are (x, 0), the x whole numbers
along_path : List ℕ → List (ℕ × ℕ) → ℕ × ℕ × ℕ
along_path xs ms = three_lengths (totals (length xs) (on_axis (map whole xs)) (pairs ms))

pub path_rows : List (ℕ × ℕ × ℕ)
path_rows =
    -- no point, and one
    along_path [] []
    ∷ along_path (7 ∷ []) ((0, 0) ∷ [])
    -- each kind by itself: a cut of 1, a back-step of 1, a cut of 10, a touch, a jump of 100
    ∷ along_path (0 ∷ 1 ∷ 0 ∷ 10 ∷ 10 ∷ 110 ∷ []) ((0, 0) ∷ (1, 0) ∷ (2, 0) ∷ (1, 1) ∷ (4, 5) ∷ (3, 6) ∷ [])
    -- the mark of a pair is that of its later point: the start's counts nowhere, nor does a kind that there is not; a touch is among the jumps
    ∷ along_path (0 ∷ 1 ∷ 3 ∷ 7 ∷ []) ((1, 0) ∷ (0, 0) ∷ (5, 0) ∷ (4, 0) ∷ [])
    -- the lengths are of n points
    ∷ three_lengths (totals 2 (on_axis (map whole (0 ∷ 1 ∷ 3 ∷ []))) (pairs ((0, 0) ∷ (1, 0) ∷ (1, 1) ∷ [])))
    -- each pair is rounded down: three cuts of 0.6144 give 0, where their sum would give 1; a jump of 1.2288 gives 1
    ∷ three_lengths (totals 4 (in_ten_thousandths (0 ∷ 6 ∷ 12 ∷ 18 ∷ [])) (pairs ((0, 0) ∷ (1, 0) ∷ (1, 1) ∷ (1, 2) ∷ [])))
    ∷ three_lengths (totals 2 (in_ten_thousandths (0 ∷ 12 ∷ [])) (pairs ((0, 0) ∷ (3, 1) ∷ [])))
    -- more than 32 bits, of each
    ∷ three_lengths (totals 3 (neg far ∷ neg far ∷ far ∷ far ∷ neg far ∷ neg far ∷ []) (pairs ((0, 0) ∷ (1, 0) ∷ (1, 1) ∷ [])))
    ∷ three_lengths (totals 3 (neg far ∷ neg far ∷ far ∷ far ∷ neg far ∷ neg far ∷ []) (pairs ((0, 0) ∷ (2, 0) ∷ (2, 0) ∷ [])))
    ∷ three_lengths (totals 3 (neg far ∷ neg far ∷ far ∷ far ∷ neg far ∷ neg far ∷ []) (pairs ((0, 0) ∷ (3, 1) ∷ (3, 2) ∷ [])))
    ∷ []

pub of_paths : path_rows
    ≡ (0, 0, 0)
    ∷ (0, 0, 0)
    ∷ (11264, 1024, 102400)
    ∷ (0, 0, 4096)
    ∷ (1024, 0, 0)
    ∷ (0, 0, 0)
    ∷ (0, 0, 1)
    ∷ (5792618750, 0, 0)
    ∷ (0, 5792618750, 0)
    ∷ (0, 0, 5792618750)
    ∷ []
unfolding
    path_rows ten_thousandths decimal binary on_axis in_ten_thousandths far three_lengths along_path whole pairs round neg add sub mul of_int
    pick sum at mul_add root_by floor_root round_root sqrt distance_squared distance
    kind_at count_marks marks_of in_1024ths pair_length counted_length length_along totals
of_paths = refl
