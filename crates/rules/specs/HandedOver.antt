-- "What is handed over" of document 01, with what document 02 adds to it: points and contours, and the refusals that calls share, with their order and
-- their places. Definitions only.
use Rattle.std.specs.Prelude.{◌≡◌, ℕ, zero, suc, ◌+◌, ◌*◌, ◌/◌, min, ◌<◌, Bool, false, not, ◌&&◌, ◌||◌, List, [], ◌∷◌, ◌++◌, T, leb, ltb, eqb, length, take, drop, get_or, pos, Float, Result, Ok, Err}
use Rattle.std.specs.Float.{nan, fin, binary64}
use Rattle.std.specs.Float.Ieee.{fits, neg, le}
use Rattle.rules.specs.Tools.{pick, sum, highest_layer}
use Rattle.rules.specs.Limits.{most_contours, most_points, most_path_points, fixed_work}
use Rattle.rules.specs.Box.{box}
use Rattle.rules.specs.declared.Point.{Point}
use Rattle.rules.specs.declared.BoundingBox.{BoundingBox}
use Rattle.rules.specs.declared.StartPointStrategy.{StartPointStrategy}
use Rattle.rules.specs.declared.StartPointStrategy.TheVariants.{Outside, Inside, Home}
use Rattle.rules.specs.declared.Refusal.{Refusal}
use Rattle.rules.specs.declared.Refusal.TheVariants.{TooManyContours, TooManyPoints, Miscounted, OffThePlate, WorkShort, Full, Blank, BlockDamaged, WrongEnd, NotDrawn, BadLayer}
use Rattle.rules.specs.declared.Input.{Input}

-- ---- points and contours

-- a number that an f64 can have; a `Float` may have any precision
abbrev pub IsF64 : Float → Type 0
IsF64 x = T (fits binary64 x)

-- the numbers of every f64 slice are these
unfoldable pub AllF64 : List Float → Type 0
AllF64 xs = (i : ℕ) → i < length xs → IsF64 (get_or xs i nan)

-- M is the length of `lengths`, and P is their sum.
pub record Plate : Type 0 where
  -- horizontal then vertical, each contour's points following the last's
  pub points : List Float
  pub lengths : List ℕ
  -- of each contour, skipped ones too
  pub layers : List ℕ
  pub width : ℕ
  pub height : ℕ
  pub strategy : StartPointStrategy
  -- what the grid lies over
  pub box : BoundingBox

-- the plate's box is that of its points
unfoldable pub plate : List Float → List ℕ → List ℕ → ℕ → ℕ → StartPointStrategy → Plate
plate xs ns ls w h s = record { points = xs; lengths = ns; layers = ls; width = w; height = h; strategy = s; box = box xs }

-- of what a call is handed
abbrev pub plate_of : Input → Plate
plate_of i = plate i.points.now i.lengths.now i.layers.now i.width i.height i.strategy

-- of a carriage that is parked at (x, y): with Home the size does not count
unfoldable pub parked_plate : List Float → List ℕ → List ℕ → Float → Float → Plate
parked_plate xs ns ls x y = plate xs ns ls 0 0 (Home (record { x = x; y = y }))

-- the point at a place of an f64 slice: of the points, that of a vertex number
unfoldable pub at : List Float → ℕ → Point
at xs v = record { x = get_or xs (2 * v) nan; y = get_or xs (2 * v + 1) nan }

-- a contour that is not skipped: its number, skipped ones counted, the vertex number of its vertex 0, and its last vertex, counted from 0 within it
pub record Contour : Type 0 where
  pub number : ℕ
  pub first : ℕ
  pub last : ℕ

-- those of the lengths from contour j and vertex v on that are not zero
unfoldable pub contours_from : ℕ → ℕ → List ℕ → List Contour
contours_from j v [] = []
contours_from j v (zero ∷ ns) = contours_from (suc j) v ns
contours_from j v (suc n ∷ ns) = record { number = j; first = v; last = n } ∷ contours_from (suc j) (v + suc n) ns

abbrev pub contours_of : List ℕ → List Contour
contours_of ns = contours_from 0 0 ns

unfoldable pub contours : Plate → List Contour
contours p = contours_of p.lengths

-- vertex i of a contour, counted from 0 within it
unfoldable pub vertex_at : Plate → Contour → ℕ → Point
vertex_at p c i = at p.points (c.first + i)

-- the layer of a contour
unfoldable pub layer_at : Plate → Contour → ℕ
layer_at p c = get_or p.layers c.number 0

-- ---- C, by the lengths of the output slices

unfoldable pub order_room : ℕ → ℕ
order_room order = order / 2

unfoldable pub straight_room : ℕ → ℕ
straight_room path = min (path / 2) most_path_points

unfoldable pub retrace_room : ℕ → ℕ → ℕ
retrace_room path marks = min (min (path / 2) (marks / 2)) most_path_points

-- ---- answers

-- a result, or a refusal's number and place
pub data Answer (A : Type 0) : Type 0 where
  gives : A → Answer A
  refuses : ℕ → ℕ → Answer A

-- the paper's number of each refusal
unfoldable pub number_of : Refusal → ℕ
number_of TooManyContours = 1
number_of TooManyPoints = 2
number_of Miscounted = 3
number_of (OffThePlate place) = 4
number_of (WorkShort place) = 5
number_of (Full place) = 6
number_of Blank = 7
number_of (BlockDamaged place) = 8
number_of (WrongEnd place) = 9
number_of (NotDrawn place) = 12
number_of (BadLayer place) = 13

-- and its place
unfoldable pub place_of : Refusal → ℕ
place_of TooManyContours = 0
place_of TooManyPoints = 0
place_of Miscounted = 0
place_of (OffThePlate place) = place
place_of (WorkShort place) = place
place_of (Full place) = place
place_of Blank = 0
place_of (BlockDamaged place) = place
place_of (WrongEnd place) = place
place_of (NotDrawn place) = place
place_of (BadLayer place) = place

unfoldable pub refusal : {A : Type 0} → Refusal → Answer A
refusal r = refuses (number_of r) (place_of r)

-- the paper's values for each case of an answer of the code
unfoldable pub answer_of : {A : Type 0} → Result A Refusal → Answer A
answer_of (Ok a) = gives a
answer_of (Err r) = refusal r

-- ---- conditions

-- x is a number of magnitude at most `limit`: a comparison with a NaN fails
unfoldable pub in_range : Float → Float → Bool
in_range limit x = le (neg limit) x && le x limit

-- 1,000,000 = 15625 × 2^6, and 2,147,483,648 = 2^31 for the distance call
unfoldable pub plate_limit : Float
plate_limit = fin false 15625 (pos 6)

unfoldable pub distance_limit : Float
distance_limit = fin false 1 (pos 31)

-- the place of the first coordinate out of range, counted from i, or the place after the last
unfoldable pub first_off : Float → ℕ → List Float → ℕ
first_off limit i [] = i
first_off limit i (x ∷ xs) = let rest = first_off limit (suc i) xs in pick (in_range limit x) rest i

-- the number of the first contour with a layer above the highest, counted from i, or the number after the last
unfoldable pub first_bad : ℕ → List ℕ → ℕ
first_bad i [] = i
first_bad i (l ∷ ls) = let rest = first_bad (suc i) ls in pick (leb l highest_layer) rest i

-- ---- refusals, in their order

-- where the test holds, a call is refused with this number and place
pub record RefusalRow : Type 0 where
  pub test : Bool
  pub number : ℕ
  pub place : ℕ

abbrev pub row : Bool → ℕ → ℕ → RefusalRow
row test number place = record { test = test; number = number; place = place }

-- the first row whose test holds refuses; where none does, the answer stands
unfoldable pub refused_by : {A : Type 0} → List RefusalRow → Answer A → Answer A
refused_by [] answer = answer
refused_by (r ∷ rs) answer = pick r.test (refuses r.number r.place) (refused_by rs answer)

unfoldable pub too_many_contours : List ℕ → RefusalRow
too_many_contours ns = row (ltb most_contours (length ns)) 1 0

unfoldable pub too_many_points : List ℕ → RefusalRow
too_many_points ns = row (ltb most_points (sum ns)) 2 0

unfoldable pub miscounted : List Float → List ℕ → RefusalRow
miscounted xs ns = row (not (eqb (length xs) (2 * sum ns))) 3 0

-- layers that are not one for each of the m contours; and the first contour whose layer is above the highest
unfoldable pub bad_layer_count : ℕ → List ℕ → RefusalRow
bad_layer_count m ls = row (not (eqb (length ls) m)) 13 m

unfoldable pub bad_layer : List ℕ → RefusalRow
bad_layer ls = row (ltb (first_bad 0 ls) (length ls)) 13 (first_bad 0 ls)

unfoldable pub out_of_range : Float → List Float → RefusalRow
out_of_range limit xs = row (ltb (first_off limit 0 xs) (length xs)) 4 (first_off limit 0 xs)

unfoldable pub off_the_plate : List Float → RefusalRow
off_the_plate xs = out_of_range plate_limit xs

-- a work slice of w numbers where `needed` are asked for
unfoldable pub work_short : ℕ → ℕ → ℕ → RefusalRow
work_short w needed place = row (ltb w needed) 5 place

-- n points or entries where C fit
unfoldable pub full : ℕ → ℕ → RefusalRow
full c n = row (ltb c n) 6 c

-- The same of a call that document 02 adds: n are to be written where `room` fit. It writes nothing, and its place is 0.
unfoldable pub no_room : ℕ → ℕ → RefusalRow
no_room room n = row (ltb room n) 6 0

-- 1 to 4, of contours without layers
unfoldable pub contour_rows : List Float → List ℕ → List RefusalRow
contour_rows xs ns = too_many_contours ns ∷ too_many_points ns ∷ miscounted xs ns ∷ off_the_plate xs ∷ []

-- the coordinates of the parked point, where the strategy has one
unfoldable pub parked_coordinates : StartPointStrategy → List Float
parked_coordinates Outside = []
parked_coordinates Inside = []
parked_coordinates (Home parked) = parked.x ∷ parked.y ∷ []

-- 1 to 3, 13 and 4, of contours with layers and of a strategy: the parked point's 4 comes before the contours' own
unfoldable pub input_rows : List Float → List ℕ → List ℕ → StartPointStrategy → List RefusalRow
input_rows xs ns ls s =
    too_many_contours ns
    ∷ too_many_points ns
    ∷ miscounted xs ns
    ∷ bad_layer_count (length ns) ls
    ∷ bad_layer ls
    ∷ off_the_plate (parked_coordinates s)
    ∷ off_the_plate xs
    ∷ []

abbrev pub plate_rows : Plate → List RefusalRow
plate_rows p = input_rows p.points p.lengths p.layers p.strategy

-- and then 5 and 6, of order and straight, and of retrace: w and d are the lengths of the u32 and the f64 work slice, c is C, and n points or entries are to
-- be written
unfoldable pub order_rows : Plate → ℕ → ℕ → ℕ → List RefusalRow
order_rows p w c n = plate_rows p ++ (work_short w (length p.lengths) 0 ∷ full c n ∷ [])

unfoldable pub retrace_work : Plate → ℕ → ℕ
retrace_work p c = c + 4 * sum p.lengths + 8 * length p.lengths + fixed_work

unfoldable pub retrace_rows : Plate → ℕ → ℕ → ℕ → ℕ → List RefusalRow
retrace_rows p w d c n = plate_rows p ++ (work_short w (retrace_work p c) 0 ∷ work_short d (length p.lengths) 1 ∷ full c n ∷ [])

-- ---- slices afterwards

-- `new` written over the start of a slice
unfoldable pub over : {A : Type 0} → List A → List A → List A
over new slice = new ++ drop (length new) slice

-- An output slice of two numbers for each point or entry: a result is written whole, refusal 6 leaves the first C of it,
-- any other refusal alters nothing; and nothing beyond is altered.
unfoldable pub after : {A B : Type 0} → Answer A → ℕ → List B → List B → List B
after (gives a) c result slice = over result slice
after (refuses number place) c result slice = pick (eqb number 6) (over (take (2 * c) result) slice) slice

-- An output slice of a call that document 02 adds: a result is written over its start, and no refusal alters it.
unfoldable pub written : {A B : Type 0} → Answer A → List B → List B → List B
written (gives a) result slice = over result slice
written (refuses number place) result slice = slice

-- the refusals after which a work slice's content is free
unfoldable pub frees_work : ℕ → Bool
frees_work number = eqb number 6 || eqb number 10 || eqb number 11 || eqb number 12

-- A work slice: its content is free after a result and after such a refusal, and unaltered otherwise.
unfoldable pub WorkKept : {A B : Type 0} → Answer A → List B → List B → Type 0
WorkKept (gives a) before now = Unit {0}
WorkKept (refuses number place) before now = T (not (frees_work number)) → now ≡ before
