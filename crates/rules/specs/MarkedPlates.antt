-- The marked plates of document 01, as rows of one table that one theorem covers. Rows A to I come first. The rows after them have no letter: they show the
-- other rules of the documents, in the documents' order, and their comments name the rule or the mistake. Plates that tell rules apart more finely, and those
-- at the limits, are run: the recorded rows of rust/differential/src/record, and the programs `run_limits` and those beside it.
-- No expected value comes from the definitions. Paths, orders, starts, distances and grids are what the Rust gives for these plates, its functions unchanged.
-- Marks are those of a separate transcription of the Rust that writes marks too, its paths being equal to the Rust's; counts are how many marks there are
-- of a kind, and lengths are worked out from these paths and marks in exact fractions of the roots that the Rust gives. A jump of these between equal points is a touch, kind 4, by document
-- 02's text. Refusals, their places and what the slices then hold follow document 01's text, and the rows of touches, of layers and of the parked point
-- document 02's, worked out by hand; with Home the starts, orders and paths are also what the Rust gives with Inside, its centre replaced by the parked point.
-- The row of a plate in another box than its points' own, which the Rust cannot be given, is worked out by hand too.
use Rattle.std.specs.Prelude.{◌≡◌, refl, ℕ, zero, suc, ◌+◌, ◌*◌, ◌^◌, Bool, true, false, List, [], ◌∷◌, ◌++◌, map, pos, negsuc, length, replicate, Float}
use Rattle.std.specs.Float.{nan, inf, fin, binary64}
use Rattle.std.specs.Float.Ieee.{neg, add, sub, mul, div, rem, le, eq, of_int, to_unsigned}
use Rattle.rules.specs.Tools.{pick, sum, without, having, least, leads, winner, highest_layer, lowest, foremost, lesser, greater}
use Rattle.rules.specs.HandedOver.{Plate, plate, parked_plate, at, contours_from, contours, vertex_at, layer_at, order_room, straight_room, retrace_room, Answer, gives, refuses, in_range, plate_limit, distance_limit, first_off, first_bad, refused_by, too_many_contours, too_many_points, miscounted}
use Rattle.rules.specs.HandedOver.{bad_layer_count, bad_layer, out_of_range, off_the_plate, work_short, full, parked_coordinates, input_rows, order_rows, retrace_work, retrace_rows, over, after}
use Rattle.rules.specs.Distances.{mul_add, root_by, floor_root, round_root, sqrt, distance_squared, distance}
use Rattle.rules.specs.Start.{half, centre, measured_from, oriented, ends, layer_of, beats, start}
use Rattle.rules.specs.Box.{widen, box_from, box}
use Rattle.rules.specs.GridAndNearest.{cell_size, ceiling, cells_along, grid_of, index_along, cell_of, square, within, on_border, seen_from, found, wins, nearer, scan_ring, bound, beyond, scan_from, nearest}
use Rattle.rules.specs.SamplesAndCache.{sampled_after, sampled, cell_number, cell_at, sample_at, samples_from, samples, cache, cached, query_sample, seeded, met, listed, listed_row, listed_square, listed_around, cells_around, query_in, updated_in, updated, waiting, ask_path, keep, seed, update}
use Rattle.rules.specs.Retrace.{step_at, vertex_of, walk_to, walk_back, forward as forwardSteps, backward, return_to, both_ways, emit, entry_of, begin, path_points, closer, waiting_layer, choose, waiting_number, place_in, entered, join_all, retrace_from, retrace_of, retrace}
use Rattle.rules.specs.Marks.{coincide, landing_kind, land, cut_up, cut_down, back_step, coordinates, marks, kind_at, count_marks, marks_of, vertices}
use Rattle.rules.specs.Lengths.{in_1024ths, pair_length, counted_length, length_along}
use Rattle.rules.specs.OrderAndStraight.{last_end, nearer_sense, nearer_end, contour_number, order_after, order_from, order_of, order, entries, straight}
use Rattle.rules.specs.Calls.{distance_call, start_or, start_call, order_call, straight_call, totals, path_totals, retrace_call}
use Rattle.rules.specs.Plates.{whole, decimal, binary, ◌∣◌, along, points_of, drawn, pairs}
use Rattle.rules.specs.declared.Point.{Point}
use Rattle.rules.specs.declared.Totals.{Totals}
use Rattle.rules.specs.declared.StartPointStrategy.{StartPointStrategy}
use Rattle.rules.specs.declared.StartPointStrategy.TheVariants.{Outside, Inside, Home}

-- ---- numbers

hundredths : ℕ → Float
hundredths n = decimal n 2

thousandths : ℕ → Float
thousandths n = decimal n 3

sixteenths : ℕ → Float
sixteenths n = binary n 4

-- ---- plates and slices

-- points and lengths as they are handed over, right or wrong
handed : List Float → List ℕ → Plate
handed xs ns = plate xs ns (replicate (length ns) 0) 0 0 Outside

-- a plate with other layers
in_layers : List ℕ → Plate → Plate
in_layers ls p = plate p.points p.lengths ls p.width p.height p.strategy

point : Float → Float → Point
point a b = record { x = a; y = b }

-- a plate with Home, its size being what it was
with_home : Point → Plate → Plate
with_home parked p = plate p.points p.lengths p.layers p.width p.height (Home parked)

-- the same, parked at a point of whole numbers
home : ℕ → ℕ → Plate → Plate
home a b p = with_home (point (whole a) (whole b)) p

-- points and lengths as they are handed over with a parked point
handed_with_home : Point → List Float → List ℕ → Plate
handed_with_home parked xs ns = parked_plate xs ns (replicate (length ns) 0) parked.x parked.y

-- what an output slice of n numbers holds before a call
unwritten : ℕ → List ℕ
unwritten n = replicate n 777

unwritten_path : ℕ → List Float
unwritten_path n = replicate n (whole 777)

forward : Bool
forward = false

reversed : Bool
reversed = true

-- path points, cuts, back-steps, jumps, touches, and how long the cuts, the back-steps, and the jumps and touches are
touching : ℕ → ℕ → ℕ → ℕ → ℕ → ℕ × ℕ × ℕ → Answer Totals
touching n s b j t (c, r, l) =
    gives (record { points = n; cuts = s; back_steps = b; jumps = j; touches = t; cut_length = c; back_step_length = r; jump_length = l })

-- no touches
joined : ℕ → ℕ → ℕ → ℕ → ℕ × ℕ × ℕ → Answer Totals
joined n s b j lengths = touching n s b j 0 lengths

-- ---- rows

-- what is asked; slices by how many numbers they have
pub data Call : Type 0 where
  distance_of : Point → Point → Call
  -- not a call: the squared distance with both products rounded, and then their sum
  two_roundings : Point → Point → Call
  start_on : Plate → Call
  order_on : Plate → (slice work : ℕ) → Call
  straight_on : Plate → (path work : ℕ) → Call
  retrace_on : Plate → (path marks work distances : ℕ) → Call
  -- not a call: C for output slices of so many numbers
  room_in : ℕ → Call
  -- not a call: the grid of a plate
  grid_on : Plate → Call
  -- not a call: start, order and path by the rules, refusals aside
  rules_on : Plate → Call

-- the answer, and the output slices afterwards
pub data Reply : Type 0 where
  distances : Answer (Float × Float) → Reply
  squared : Float → Reply
  starts : Answer (ℕ × Bool) → Reply
  ordered : Answer ℕ → List ℕ → Reply
  straightened : Answer ℕ → List Float → Reply
  retraced : Answer Totals → List Float → List ℕ → Reply
  -- C for order, straight and retrace
  room : ℕ → ℕ → ℕ → Reply
  -- cell size, columns and rows
  grid : Float → ℕ → ℕ → Reply
  -- the start, the order's entries and the path's marks
  ruled : Answer (ℕ × Bool) → List ℕ → List ℕ → Reply

pub record Row : Type 0 where
  pub call : Call
  pub reply : Reply

infix 90 ◌⇒◌
◌⇒◌ : Call → Reply → Row
c ⇒ r = record { call = c; reply = r }

-- the calls with room for C entries or points, and work enough
order_in : ℕ → Plate → Call
order_in c p = order_on p (2 * c) 100000

straight_in : ℕ → Plate → Call
straight_in c p = straight_on p (2 * c) 100000

retrace_in : ℕ → Plate → Call
retrace_in c p = retrace_on p (2 * c) (2 * c) 100000 100000

-- the retrace call with room for just this path and these marks
retraces : Plate → List Float → List (ℕ × ℕ) → Answer Totals → Row
retraces p path ms c = retrace_in (length ms) p ⇒ retraced c path (pairs ms)

-- A float itself, with its numbers computed: what the definitions give passes through this, so that a check that fails does so at once.
numeral : ℕ → ℕ
numeral zero = zero
numeral (suc n) = suc n

pub computed : Float → Float
computed nan = nan
computed (inf s) = inf s
computed (fin s m (pos k)) = fin s (numeral m) (pos (numeral k))
computed (fin s m (negsuc k)) = fin s (numeral m) (negsuc (numeral k))

numeral_is : (n : ℕ) → numeral n ≡ n
unfolding numeral
numeral_is zero = refl
numeral_is (suc n) = refl

pub computed_is : (x : Float) → computed x ≡ x
unfolding computed
computed_is nan = refl
computed_is (inf s) = refl
computed_is (fin s m (pos k)) = rw (numeral_is m, numeral_is k) refl
computed_is (fin s m (negsuc k)) = rw (numeral_is m, numeral_is k) refl

both_computed : Answer (Float × Float) → Answer (Float × Float)
both_computed (gives d) = gives (computed d.0, computed d.1)
both_computed (refuses number place) = refuses number place

measured : Answer Totals → Answer Totals
measured (gives t) =
    gives (record {
      points = t.points;
      cuts = t.cuts;
      back_steps = t.back_steps;
      jumps = t.jumps;
      touches = t.touches;
      cut_length = numeral t.cut_length;
      back_step_length = numeral t.back_step_length;
      jump_length = numeral t.jump_length;
    })
measured (refuses number place) = refuses number place

-- what the definitions reply
pub reply_to : Call → Reply
reply_to (distance_of a b) = distances (both_computed (distance_call a b))
reply_to (two_roundings a b) =
    let dx = sub binary64 a.x b.x in
    let dy = sub binary64 a.y b.y in
    squared (computed (add binary64 (mul binary64 dx dx) (mul binary64 dy dy)))
reply_to (start_on p) = starts (start_call p)
reply_to (order_on p n w) = let o = order_call p (unwritten n) w in ordered o.answer o.order
reply_to (straight_on p n w) = let o = straight_call p (unwritten_path n) w in straightened o.answer (map computed o.path)
reply_to (retrace_on p n m w d) = let o = retrace_call p (unwritten_path n) (unwritten m) w d in retraced (measured o.answer) (map computed o.path) o.marks
reply_to (room_in n) = room (order_room n) (straight_room n) (retrace_room n n)
reply_to (grid_on p) = let g = grid_of p.box in grid (computed g.cell_size) g.cols g.rows
reply_to (rules_on p) = ruled (start_or (start p)) (entries (order p)) (marks (retrace p))

-- ---- plates and points of more than one row

A : Plate
A = drawn whole [] 0 0 Outside

B : StartPointStrategy → Plate
B s = drawn whole ((0, 0) ∷ (4, 0) ∷ [] ∣ []) 10 10 s

C : StartPointStrategy → Plate
C s = drawn whole ((0, 0) ∷ (10, 0) ∷ [] ∣ []) 10 10 s

D : Plate
D = drawn whole ((0, 0) ∷ (4, 0) ∷ [] ∣ (4, 1) ∷ (8, 1) ∷ [] ∣ []) 8 2 Outside

E : Plate
E = drawn whole ((0, 0) ∷ (4, 0) ∷ (8, 0) ∷ [] ∣ (0, 1) ∷ [] ∣ []) 0 0 Inside

F : Plate
F = drawn whole ((4, 0) ∷ [] ∣ (0, 1) ∷ (4, 1) ∷ (8, 1) ∷ [] ∣ []) 8 0 Inside

G : Plate
G = drawn whole ((0, 0) ∷ [] ∣ (1, 0) ∷ [] ∣ (0, 1) ∷ [] ∣ []) 0 0 Inside

zero_point : Point
zero_point = point (whole 0) (whole 0)

-- (1 + 2^−27, 1.25 × 2^−27)
I : Point
I = point (binary (2 ^ 27 + 1) 27) (binary 5 29)

-- with contours that are skipped
skipping : Plate
skipping = drawn whole ([] ∣ (0, 0) ∷ (4, 0) ∷ [] ∣ [] ∣ (9, 0) ∷ (5, 0) ∷ [] ∣ (1, 1) ∷ (1, 2) ∷ [] ∣ (9, 1) ∷ [] ∣ []) 0 0 Inside

-- (4,1) | (0,0)(4,0)(8,0), and the same in a box from (0,0) to (1000,0), whose cells have the size 20
over_middle : Plate
over_middle = drawn whole ((4, 1) ∷ [] ∣ (0, 0) ∷ (4, 0) ∷ (8, 0) ∷ [] ∣ []) 8 2 Inside

in_wide_box : Plate → Plate
in_wide_box p =
    record {
      points = p.points;
      lengths = p.lengths;
      layers = p.layers;
      width = p.width;
      height = p.height;
      strategy = p.strategy;
      box = record { min_x = whole 0; min_y = whole 0; max_x = whole 1000; max_y = whole 0 };
    }

-- the last point is farther from the first than the other
three_points : Plate
three_points = drawn whole ((0, 0) ∷ [] ∣ (1, 0) ∷ [] ∣ (0, 2) ∷ [] ∣ []) 0 0 Inside

-- the next f64 above 1,000,000, and above 2,147,483,648
above_plate_limit : Float
above_plate_limit = binary (1000000 * 2 ^ 33 + 1) 33

above_distance_limit : Float
above_distance_limit = binary (2 ^ 52 + 1) 21

-- ---- the table

pub table : List Row
table =
    -- A: none: empty path; start call 7. The slices stay as they were.
    retrace_in 2 A ⇒ retraced (joined 0 0 0 0 (0, 0, 0)) (unwritten_path 4) (unwritten 4)
    ∷ straight_in 2 A ⇒ straightened (gives 0) (unwritten_path 4)
    ∷ order_in 2 A ⇒ ordered (gives 0) (unwritten 4)
    ∷ start_on A ⇒ starts (refuses 7 0)
    -- B: Outside forward, Inside reversed
    ∷ start_on (B Outside) ⇒ starts (gives (0, forward))
    ∷ start_on (B Inside) ⇒ starts (gives (0, reversed))
    -- C: forward for both
    ∷ start_on (C Outside) ⇒ starts (gives (0, forward))
    ∷ start_on (C Inside) ⇒ starts (gives (0, forward))
    -- D: path and marks
    ∷ retraces D
    (along whole ((0, 0) ∷ (4, 0) ∷ (4, 1) ∷ (8, 1) ∷ []))
    ((0, 0) ∷ (1, 0) ∷ (3, 2) ∷ (1, 2) ∷ [])
    (joined 4 2 0 1 (8192, 0, 1024))
    -- E: path and marks, with C = 6
    ∷ retraces E
    (along whole ((0, 0) ∷ (4, 0) ∷ (8, 0) ∷ (4, 0) ∷ (0, 0) ∷ (0, 1) ∷ []))
    ((0, 0) ∷ (1, 0) ∷ (1, 1) ∷ (2, 1) ∷ (2, 0) ∷ (3, 3) ∷ [])
    (joined 6 2 2 1 (8192, 8192, 1024))
    -- E with C = 4: refusal 6 and four points, four marks
    ∷ retrace_in 4 E
    ⇒ retraced (refuses 6 4)
    (along whole ((0, 0) ∷ (4, 0) ∷ (8, 0) ∷ (4, 0) ∷ []))
    (pairs ((0, 0) ∷ (1, 0) ∷ (1, 1) ∷ (2, 1) ∷ []))
    -- F: path and marks
    ∷ retraces F
    (along whole ((4, 0) ∷ (4, 1) ∷ (8, 1) ∷ (4, 1) ∷ (0, 1) ∷ []))
    ((0, 0) ∷ (3, 2) ∷ (1, 2) ∷ (2, 1) ∷ (1, 1) ∷ [])
    (joined 5 2 1 1 (8192, 4096, 1024))
    -- G: straight in that order
    ∷ order_in 3 G ⇒ ordered (gives 3) (pairs ((0, 0) ∷ (1, 0) ∷ (2, 0) ∷ []))
    ∷ straight_in 3 G ⇒ straightened (gives 3) (along whole ((0, 0) ∷ (1, 0) ∷ (0, 1) ∷ []))
    -- G: retrace
    ∷ retraces G
    (along whole ((0, 0) ∷ (1, 0) ∷ (0, 0) ∷ (0, 1) ∷ []))
    ((0, 0) ∷ (3, 1) ∷ (2, 0) ∷ (3, 2) ∷ [])
    (joined 4 0 1 2 (0, 1024, 2048))
    -- H: 25 and 5
    ∷ distance_of zero_point (point (whole 3) (whole 4)) ⇒ distances (gives (whole 25, whole 5))
    -- I: squared 1 + 2^−26 + 2^−52 (and plain 1 + 2^−27); two roundings would give 1 + 2^−26
    ∷ distance_of zero_point I ⇒ distances (gives (binary (2 ^ 52 + 2 ^ 26 + 1) 52, binary (2 ^ 27 + 1) 27))
    ∷ two_roundings zero_point I ⇒ squared (binary (2 ^ 26 + 1) 26)
    -- ---- what is handed over
    -- 4,096 contours and 65,536 points are none too many
    ∷ start_on (handed [] (replicate 4096 0)) ⇒ starts (refuses 7 0)
    ∷ start_on (handed [] (65536 ∷ [])) ⇒ starts (refuses 3 0)
    -- refusals, each before the next: 1 before 2, 2 before 3, 3 before 4
    ∷ start_on (handed [] (65537 ∷ replicate 4096 0)) ⇒ starts (refuses 1 0)
    ∷ start_on (handed [] (65537 ∷ [])) ⇒ starts (refuses 2 0)
    ∷ start_on (handed (nan ∷ []) (1 ∷ [])) ⇒ starts (refuses 3 0)
    -- 4: the next f64 above 1,000,000, and below −1,000,000; the first of two gives the place
    ∷ start_on (handed (whole 0 ∷ whole 0 ∷ whole 0 ∷ above_plate_limit ∷ []) (2 ∷ [])) ⇒ starts (refuses 4 3)
    ∷ start_on (handed (whole 0 ∷ whole 0 ∷ neg above_plate_limit ∷ nan ∷ []) (2 ∷ [])) ⇒ starts (refuses 4 2)
    -- 4 before 5, in order and in retrace; no slice is altered
    ∷ order_on (handed (whole 0 ∷ nan ∷ []) (1 ∷ [])) 2 0 ⇒ ordered (refuses 4 1) (unwritten 2)
    ∷ retrace_on (handed (whole 0 ∷ nan ∷ []) (1 ∷ [])) 2 2 0 0 ⇒ retraced (refuses 4 1) (unwritten_path 2) (unwritten 2)
    -- 5: E with C = 6 needs 6 + 4 × 4 + 8 × 2 + 16,384 = 16,422 u32 and 2 f64; one short gets 5, u32 before f64
    ∷ retrace_on E 12 12 16422 2
    ⇒ retraced (joined 6 2 2 1 (8192, 8192, 1024))
    (along whole ((0, 0) ∷ (4, 0) ∷ (8, 0) ∷ (4, 0) ∷ (0, 0) ∷ (0, 1) ∷ []))
    (pairs ((0, 0) ∷ (1, 0) ∷ (1, 1) ∷ (2, 1) ∷ (2, 0) ∷ (3, 3) ∷ []))
    ∷ retrace_on E 12 12 16422 1 ⇒ retraced (refuses 5 1) (unwritten_path 12) (unwritten 12)
    ∷ retrace_on E 12 12 16421 1 ⇒ retraced (refuses 5 0) (unwritten_path 12) (unwritten 12)
    -- by C, not by the result's length; and before 6
    ∷ retrace_on E 14 14 16422 2 ⇒ retraced (refuses 5 0) (unwritten_path 14) (unwritten 14)
    ∷ retrace_on E 8 8 16419 2 ⇒ retraced (refuses 5 0) (unwritten_path 8) (unwritten 8)
    -- order and straight need M u32, skipped contours counted: 6 here
    ∷ order_on skipping 4 5 ⇒ ordered (refuses 5 0) (unwritten 4)
    -- 6: C is the least of both halves, rounded down; nothing after the first C entries is altered
    ∷ retrace_on E 13 9 100000 2
    ⇒ retraced (refuses 6 4)
    (along whole ((0, 0) ∷ (4, 0) ∷ (8, 0) ∷ (4, 0) ∷ []) ++ unwritten_path 5)
    (pairs ((0, 0) ∷ (1, 0) ∷ (1, 1) ∷ (2, 1) ∷ []) ++ unwritten 1)
    ∷ retrace_on E 9 13 100000 2
    ⇒ retraced (refuses 6 4)
    (along whole ((0, 0) ∷ (4, 0) ∷ (8, 0) ∷ (4, 0) ∷ []) ++ unwritten_path 1)
    (pairs ((0, 0) ∷ (1, 0) ∷ (1, 1) ∷ (2, 1) ∷ []) ++ unwritten 5)
    ∷ order_on G 5 3 ⇒ ordered (refuses 6 2) (pairs ((0, 0) ∷ (1, 0) ∷ []) ++ unwritten 1)
    ∷ straight_on G 5 3 ⇒ straightened (refuses 6 2) (along whole ((0, 0) ∷ (1, 0) ∷ []) ++ unwritten_path 1)
    -- C = 0, with a path of six points and with none
    ∷ retrace_on E 1 1 100000 2 ⇒ retraced (refuses 6 0) (unwritten_path 1) (unwritten 1)
    ∷ retrace_on A 0 0 16384 0 ⇒ retraced (joined 0 0 0 0 (0, 0, 0)) [] []
    -- a result alters nothing beyond it
    ∷ retrace_on E 15 16 100000 2
    ⇒ retraced (joined 6 2 2 1 (8192, 8192, 1024))
    (along whole ((0, 0) ∷ (4, 0) ∷ (8, 0) ∷ (4, 0) ∷ (0, 0) ∷ (0, 1) ∷ []) ++ unwritten_path 3)
    (pairs ((0, 0) ∷ (1, 0) ∷ (1, 1) ∷ (2, 1) ∷ (2, 0) ∷ (3, 3) ∷ []) ++ unwritten 4)
    ∷ order_on G 9 3 ⇒ ordered (gives 3) (pairs ((0, 0) ∷ (1, 0) ∷ (2, 0) ∷ []) ++ unwritten 3)
    -- C is at most 1,048,576 for straight and retrace
    ∷ room_in 2097154 ⇒ room 1048577 1048576 1048576
    -- 7: the start call only; a contour that holds no point is none
    ∷ start_on (handed [] (0 ∷ 0 ∷ [])) ⇒ starts (refuses 7 0)
    -- ---- distances
    -- the differences are rounded first: with 1 + 3 × 2^−55 itself it would be 1 + 2^−52
    ∷ distance_of (point (whole 1) (whole 0)) (point (neg (binary 3 55)) (whole 0)) ⇒ distances (gives (whole 1, whole 1))
    -- the root is rounded to the nearest
    ∷ distance_of zero_point (point (whole 1) (whole 1)) ⇒ distances (gives (whole 2, decimal 14142135623730951 16))
    -- subnormal numbers count: 2^−1074
    ∷ distance_of zero_point (point (binary 1 537) (whole 0)) ⇒ distances (gives (binary 1 1074, binary 1 537))
    -- the next f64 below −2,147,483,648 gets 4; the first of two gives the place
    ∷ distance_of (point (whole 0) (neg above_distance_limit)) (point (whole 0) (inf false)) ⇒ distances (refuses 4 1)
    -- ---- start
    -- the centre of an odd width is not a whole number: 3.5 is as far from 3 as from 4
    ∷ start_on (drawn whole ((3, 0) ∷ (4, 0) ∷ [] ∣ []) 7 0 Outside) ⇒ starts (gives (0, forward))
    -- of equal ends in two contours the first wins, with Outside and with Inside
    ∷ start_on (drawn whole ((1, 0) ∷ [] ∣ (0, 1) ∷ [] ∣ []) 0 0 Outside) ⇒ starts (gives (0, forward))
    ∷ start_on (drawn whole ((1, 0) ∷ [] ∣ (0, 1) ∷ [] ∣ []) 0 0 Inside) ⇒ starts (gives (0, forward))
    -- only ends count, and a later contour can win
    ∷ start_on (drawn whole ((1, 0) ∷ (2, 0) ∷ [] ∣ (3, 0) ∷ (9, 9) ∷ (5, 0) ∷ [] ∣ []) 0 0 Outside) ⇒ starts (gives (1, reversed))
    -- ---- grid and nearest
    -- cell size, columns and rows: the width or the height of the box, whichever is greater, but no less than 1; 54 columns, the most that there are
    ∷ grid_on (drawn whole ((0, 0) ∷ (8, 1) ∷ [] ∣ []) 0 0 Outside) ⇒ grid (hundredths 16) 53 10
    ∷ grid_on (drawn whole ((1, 8) ∷ (0, 0) ∷ [] ∣ []) 0 0 Outside) ⇒ grid (hundredths 16) 10 53
    ∷ grid_on (drawn sixteenths ((4, 0) ∷ (8, 2) ∷ [] ∣ []) 0 0 Outside) ⇒ grid (hundredths 2) 16 10
    ∷ grid_on (drawn whole ((0, 0) ∷ (3, 0) ∷ [] ∣ []) 0 0 Outside) ⇒ grid (hundredths 6) 54 3
    -- an equal distance wins with the higher path place, not the lower
    ∷ retraces (drawn whole ((0, 0) ∷ [] ∣ (1, 0) ∷ (0, 1) ∷ [] ∣ []) 0 0 Outside)
    (along whole ((1, 0) ∷ (0, 1) ∷ (0, 0) ∷ []))
    ((0, 1) ∷ (1, 1) ∷ (3, 0) ∷ [])
    (joined 3 1 0 1 (1448, 0, 1024))
    -- the search does not stop at ring 1
    ∷ retraces (drawn whole ((0, 2) ∷ (3, 0) ∷ [] ∣ (1, 0) ∷ [] ∣ []) 4 0 Inside)
    (along whole ((3, 0) ∷ (0, 2) ∷ (3, 0) ∷ (1, 0) ∷ []))
    ((0, 1) ∷ (1, 0) ∷ (2, 0) ∷ (3, 2) ∷ [])
    (joined 4 1 1 1 (3692, 3692, 2048))
    -- ring 1 is searched though ring 0 had a point: the one in the next cell is nearer
    ∷ retraces (drawn sixteenths ((0, 0) ∷ (800, 8) ∷ (177, 8) ∷ (161, 8) ∷ [] ∣ (175, 8) ∷ [] ∣ []) 0 0 Inside)
    (along sixteenths ((0, 0) ∷ (800, 8) ∷ (177, 8) ∷ (161, 8) ∷ (177, 8) ∷ (175, 8) ∷ []))
    ((0, 0) ∷ (1, 0) ∷ (1, 1) ∷ (1, 2) ∷ (2, 2) ∷ (3, 4) ∷ [])
    (joined 6 3 1 1 (92098, 1024, 128))
    -- a ring whose bound equals the best is still searched; the bound is the square of (r − 1) × s, rounded before it is squared
    ∷ retraces (drawn hundredths ((0, 0) ∷ (24, 0) ∷ [] ∣ (12, 0) ∷ [] ∣ []) 0 0 Inside)
    (along hundredths ((0, 0) ∷ (24, 0) ∷ (12, 0) ∷ []))
    ((0, 0) ∷ (1, 0) ∷ (3, 2) ∷ [])
    (joined 3 1 0 1 (245, 0, 122))
    -- ring 2 is left where its bound is above the best, though by rounded cell edges it holds a point as near and later
    ∷ retraces (drawn thousandths ((71, 2) ∷ (31, 2) ∷ [] ∣ (51, 2) ∷ [] ∣ []) 0 0 Inside)
    (along thousandths ((31, 2) ∷ (71, 2) ∷ (31, 2) ∷ (51, 2) ∷ []))
    ((0, 1) ∷ (1, 0) ∷ (2, 0) ∷ (3, 2) ∷ [])
    (joined 4 1 1 1 (40, 40, 20))
    -- the column is by (x − origin) × (1 / s), not by (x − origin) / s
    ∷ retraces (drawn hundredths ((13, 0) ∷ (29, 0) ∷ [] ∣ (21, 0) ∷ [] ∣ []) 8 0 Outside)
    (along hundredths ((13, 0) ∷ (29, 0) ∷ (21, 0) ∷ []))
    ((0, 0) ∷ (1, 0) ∷ (3, 2) ∷ [])
    (joined 3 1 0 1 (163, 0, 81))
    -- ---- samples and cache
    -- the last vertex is always a sample
    ∷ retraces (drawn whole ((57, 0) ∷ [] ∣ (97, 2) ∷ (96, 1) ∷ [] ∣ (11, 0) ∷ (10, 0) ∷ [] ∣ []) 0 0 Inside)
    (along whole ((10, 0) ∷ (11, 0) ∷ (57, 0) ∷ (96, 1) ∷ (97, 2) ∷ []))
    ((0, 4) ∷ (1, 3) ∷ (3, 0) ∷ (3, 2) ∷ (1, 1) ∷ [])
    (joined 5 2 0 2 (2472, 0, 87053))
    -- the total becomes its remainder by s, not 0: vertex 2 is the entry
    ∷ retraces (drawn whole ((4, 0) ∷ [] ∣ (0, 1) ∷ (3, 1) ∷ (4, 1) ∷ (4, 100) ∷ [] ∣ []) 8 0 Inside)
    (along whole ((4, 0) ∷ (4, 1) ∷ (4, 100) ∷ (4, 1) ∷ (3, 1) ∷ (0, 1) ∷ []))
    ((0, 0) ∷ (3, 3) ∷ (1, 3) ∷ (2, 1) ∷ (1, 2) ∷ (1, 1) ∷ [])
    (joined 6 3 1 1 (105472, 101376, 1024))
    -- the remainder is by s, not what is left after taking s once; and plain distances are added, not squared ones
    ∷ retraces (drawn hundredths ((0, 0) ∷ (5, 0) ∷ (6, 0) ∷ (1, 0) ∷ [] ∣ (7, 0) ∷ [] ∣ []) 0 0 Outside)
    (along hundredths ((7, 0) ∷ (5, 0) ∷ (6, 0) ∷ (1, 0) ∷ (6, 0) ∷ (5, 0) ∷ (0, 0) ∷ []))
    ((0, 4) ∷ (3, 1) ∷ (1, 1) ∷ (1, 2) ∷ (2, 2) ∷ (2, 1) ∷ (1, 0) ∷ [])
    (joined 7 3 2 1 (112, 61, 20))
    -- an equal distance replaces no cache
    ∷ retraces (drawn whole ((2, 0) ∷ (2, 0) ∷ [] ∣ (6, 1) ∷ [] ∣ []) 8 0 Outside)
    (along whole ((6, 1) ∷ (2, 0) ∷ (2, 0) ∷ []))
    ((0, 2) ∷ (3, 0) ∷ (1, 0) ∷ [])
    (joined 3 1 0 1 (0, 0, 4222))
    -- the listed cells are those within 1: not the own cell alone
    ∷ retraces (drawn whole ((6, 1) ∷ [] ∣ (44, 1) ∷ [] ∣ (5, 1) ∷ [] ∣ (25, 1) ∷ [] ∣ []) 50 0 Inside)
    (along whole ((25, 1) ∷ (6, 1) ∷ (5, 1) ∷ (6, 1) ∷ (25, 1) ∷ (44, 1) ∷ []))
    ((0, 3) ∷ (3, 0) ∷ (3, 2) ∷ (2, 1) ∷ (2, 0) ∷ (3, 1) ∷ [])
    (joined 6 0 2 3 (0, 20480, 39936))
    -- the row above too
    ∷ retraces (drawn whole ((1, 75) ∷ [] ∣ (1, 25) ∷ [] ∣ (1, 77) ∷ [] ∣ (1, 50) ∷ [] ∣ []) 0 100 Inside)
    (along whole ((1, 50) ∷ (1, 75) ∷ (1, 77) ∷ (1, 75) ∷ (1, 50) ∷ (1, 25) ∷ []))
    ((0, 3) ∷ (3, 0) ∷ (3, 2) ∷ (2, 1) ∷ (2, 0) ∷ (3, 1) ∷ [])
    (joined 6 0 2 3 (0, 27648, 53248))
    -- not those within 2
    ∷ retraces (drawn whole ((23, 3) ∷ [] ∣ (22, 3) ∷ (23, 5) ∷ [] ∣ (50, 2) ∷ [] ∣ []) 50 0 Outside)
    (along whole ((50, 2) ∷ (23, 3) ∷ (23, 5) ∷ (22, 3) ∷ []))
    ((0, 3) ∷ (3, 0) ∷ (3, 2) ∷ (1, 1) ∷ [])
    (joined 4 1 0 2 (2289, 0, 29714))
    -- samples in other cells are not queried again
    ∷ retraces (drawn whole ((30, 2) ∷ [] ∣ (50, 0) ∷ [] ∣ (27, 0) ∷ (27, 1) ∷ [] ∣ []) 0 0 Outside)
    (along whole ((50, 0) ∷ (30, 2) ∷ (27, 0) ∷ (27, 1) ∷ []))
    ((0, 1) ∷ (3, 0) ∷ (3, 2) ∷ (1, 2) ∷ [])
    (joined 4 1 0 2 (1024, 0, 24274))
    -- cells around each point are listed, not only around the ends
    ∷ retraces (drawn whole ((4, 0) ∷ [] ∣ (1, 0) ∷ [] ∣ (3, 0) ∷ [] ∣ (2, 0) ∷ (1, 0) ∷ (4, 0) ∷ [] ∣ []) 4 0 Outside)
    (along whole ((4, 0) ∷ (4, 0) ∷ (1, 0) ∷ (2, 0) ∷ (1, 0) ∷ (1, 0) ∷ (1, 0) ∷ (2, 0) ∷ (3, 0) ∷ []))
    ((0, 0) ∷ (4, 5) ∷ (1, 4) ∷ (1, 3) ∷ (2, 2) ∷ (4, 1) ∷ (2, 4) ∷ (2, 3) ∷ (3, 2) ∷ [])
    (touching 9 2 3 1 2 (4096, 2048, 1024))
    -- samples are queried by cell, not by contour
    ∷ retraces (drawn whole ((3, 0) ∷ (4, 0) ∷ [] ∣ (4, 0) ∷ (3, 0) ∷ [] ∣ (0, 0) ∷ [] ∣ (4, 1) ∷ [] ∣ []) 0 0 Outside)
    (along whole ((4, 1) ∷ (4, 0) ∷ (3, 0) ∷ (3, 0) ∷ (4, 0) ∷ (3, 0) ∷ (0, 0) ∷ []))
    ((0, 5) ∷ (3, 1) ∷ (1, 0) ∷ (4, 3) ∷ (1, 2) ∷ (2, 3) ∷ (3, 4) ∷ [])
    (touching 7 2 1 2 1 (2048, 1024, 4096))
    -- cells are listed by points in vertex order, not in the order of emission
    ∷ retraces (drawn whole ((8, 0) ∷ (4, 0) ∷ [] ∣ (1, 0) ∷ [] ∣ (8, 0) ∷ (4, 0) ∷ [] ∣ []) 0 0 Inside)
    (along whole ((1, 0) ∷ (4, 0) ∷ (8, 0) ∷ (8, 0) ∷ (4, 0) ∷ []))
    ((0, 2) ∷ (3, 1) ∷ (1, 0) ∷ (4, 3) ∷ (1, 3) ∷ [])
    (touching 5 2 0 1 1 (8192, 0, 3072))
    -- cells are listed by rows, then columns
    ∷ retraces (drawn whole ((27, 1) ∷ [] ∣ (27, 2) ∷ (28, 1) ∷ [] ∣ (0, 1) ∷ [] ∣ []) 0 0 Inside)
    (along whole ((0, 1) ∷ (27, 1) ∷ (28, 1) ∷ (27, 2) ∷ []))
    ((0, 3) ∷ (3, 0) ∷ (3, 2) ∷ (1, 1) ∷ [])
    (joined 4 1 0 2 (1448, 0, 28672))
    -- rows from the lowest
    ∷ retraces (drawn whole ((8, 1) ∷ [] ∣ (8, 2) ∷ (7, 1) ∷ [] ∣ (50, 1) ∷ [] ∣ []) 8 0 Outside)
    (along whole ((50, 1) ∷ (8, 1) ∷ (7, 1) ∷ (8, 2) ∷ []))
    ((0, 3) ∷ (3, 0) ∷ (3, 2) ∷ (1, 1) ∷ [])
    (joined 4 1 0 2 (1448, 0, 44032))
    -- columns from the lowest
    ∷ retraces (drawn whole ((50, 0) ∷ [] ∣ (8, 0) ∷ (7, 0) ∷ [] ∣ (7, 0) ∷ (8, 0) ∷ [] ∣ []) 8 0 Outside)
    (along whole ((50, 0) ∷ (8, 0) ∷ (7, 0) ∷ (7, 0) ∷ (8, 0) ∷ []))
    ((0, 0) ∷ (3, 1) ∷ (1, 1) ∷ (4, 3) ∷ (1, 3) ∷ [])
    (touching 5 2 0 1 1 (2048, 0, 43008))
    -- the point's own cell is not listed before the row below it
    ∷ retraces (drawn whole ((0, 2) ∷ (0, 1) ∷ [] ∣ (29, 1) ∷ [] ∣ (0, 1) ∷ (0, 2) ∷ [] ∣ []) 0 0 Outside)
    (along whole ((29, 1) ∷ (0, 1) ∷ (0, 2) ∷ (0, 1) ∷ (0, 1) ∷ (0, 2) ∷ []))
    ((0, 2) ∷ (3, 1) ∷ (1, 0) ∷ (2, 1) ∷ (4, 3) ∷ (1, 3) ∷ [])
    (touching 6 2 1 1 1 (2048, 1024, 29696))
    -- within a cell from the lowest vertex
    ∷ retraces (drawn whole ((0, 1) ∷ (0, 1) ∷ [] ∣ (0, 2) ∷ [] ∣ (34, 3) ∷ [] ∣ []) 0 0 Outside)
    (along whole ((34, 3) ∷ (0, 2) ∷ (0, 1) ∷ (0, 1) ∷ []))
    ((0, 3) ∷ (3, 2) ∷ (3, 0) ∷ (1, 0) ∷ [])
    (joined 4 1 0 2 (0, 0, 35855))
    -- ---- retrace and marks
    -- the place is the fresh one, not the cached one
    ∷ retraces (drawn whole ((1, 8) ∷ [] ∣ (7, 0) ∷ [] ∣ (7, 2) ∷ [] ∣ []) 0 0 Outside)
    (along whole ((1, 8) ∷ (7, 2) ∷ (7, 0) ∷ []))
    ((0, 0) ∷ (3, 2) ∷ (3, 1) ∷ [])
    (joined 3 0 0 2 (0, 0, 10736))
    -- a return to e of two steps, after a walk-back: its references are places of the path
    ∷ retraces (drawn whole ((4, 0) ∷ (13, 0) ∷ [] ∣ (0, 1) ∷ (4, 1) ∷ (8, 1) ∷ (12, 1) ∷ [] ∣ []) 8 0 Inside)
    (along whole ((4, 0) ∷ (13, 0) ∷ (4, 0) ∷ (4, 1) ∷ (8, 1) ∷ (12, 1) ∷ (8, 1) ∷ (4, 1) ∷ (0, 1) ∷ []))
    ((0, 0) ∷ (1, 0) ∷ (2, 0) ∷ (3, 3) ∷ (1, 3) ∷ (1, 4) ∷ (2, 4) ∷ (2, 3) ∷ (1, 2) ∷ [])
    (joined 9 4 3 1 (21504, 17408, 1024))
    -- contours that hold no point are skipped, and are no jumps
    ∷ retraces skipping
    (along whole ((0, 0) ∷ (4, 0) ∷ (5, 0) ∷ (9, 0) ∷ (5, 0) ∷ (4, 0) ∷ (0, 0) ∷ (1, 1) ∷ (1, 2) ∷ (1, 1) ∷ (0, 0) ∷ (4, 0) ∷ (5, 0) ∷ (9, 0) ∷ (9, 1) ∷ []))
    ((0, 0) ∷ (1, 0) ∷ (3, 3) ∷ (1, 2) ∷ (2, 2) ∷ (2, 1) ∷ (2, 0) ∷ (3, 4) ∷ (1, 4) ∷ (2, 7) ∷ (2, 6) ∷ (2, 5) ∷ (2, 4) ∷ (2, 3) ∷ (3, 6) ∷ [])
    (joined 15 3 8 3 (9216, 20904, 3496))
    -- ---- order and straight
    -- forward where forward ≤ reverse: an equal distance reverses nothing
    ∷ order_in 2 (drawn whole ((0, 0) ∷ [] ∣ (1, 0) ∷ (0, 1) ∷ [] ∣ []) 0 0 Inside) ⇒ ordered (gives 2) (pairs ((0, 0) ∷ (1, 0) ∷ []))
    -- contour numbers count skipped contours; a reversed contour ends at its first vertex
    ∷ order_in 4 skipping ⇒ ordered (gives 4) (pairs ((1, 0) ∷ (3, 1) ∷ (5, 0) ∷ (4, 0) ∷ []))
    ∷ straight_in 7 skipping
    ⇒ straightened (gives 7) (along whole ((0, 0) ∷ (4, 0) ∷ (5, 0) ∷ (9, 0) ∷ (9, 1) ∷ (1, 1) ∷ (1, 2) ∷ []))
    -- ---- the parked point
    -- of equal ends the first point comes before the last, and a contour's last point before a later contour's first
    ∷ start_on (home 2 0 (B Inside)) ⇒ starts (gives (0, forward))
    ∷ start_on (home 4 0 (drawn whole ((9, 9) ∷ (4, 0) ∷ [] ∣ (4, 0) ∷ (9, 9) ∷ [] ∣ []) 0 0 Inside)) ⇒ starts (gives (0, reversed))
    -- a smaller distance wins over an earlier end; the centre does not count, whatever the size
    ∷ start_on (home 90 0 (drawn whole ((0, 0) ∷ (4, 0) ∷ [] ∣ (90, 0) ∷ (95, 0) ∷ [] ∣ []) 10 10 Inside)) ⇒ starts (gives (1, forward))
    -- 4: place 0 or 1 within the point
    ∷ start_on (with_home (point above_plate_limit nan) D) ⇒ starts (refuses 4 0)
    ∷ start_on (with_home (point (whole 0) (neg above_plate_limit)) D) ⇒ starts (refuses 4 1)
    -- before the coordinates' own 4, whose place is in the slice; after 13; before 5 and 7; no slice is altered
    ∷ start_on (handed_with_home (point (whole 0) nan) (nan ∷ whole 0 ∷ []) (1 ∷ [])) ⇒ starts (refuses 4 1)
    ∷ start_on (in_layers (0 ∷ 16 ∷ []) (with_home (point nan nan) D)) ⇒ starts (refuses 13 1)
    ∷ order_on (with_home (point (whole 0) nan) D) 4 0 ⇒ ordered (refuses 4 1) (unwritten 4)
    ∷ start_on (with_home (point (whole 0) nan) A) ⇒ starts (refuses 4 1)
    -- retrace: F from (9,1), which is another path than F's own
    ∷ retraces (home 9 1 F)
    (along whole ((8, 1) ∷ (4, 1) ∷ (0, 1) ∷ (4, 1) ∷ (4, 0) ∷ []))
    ((0, 3) ∷ (1, 2) ∷ (1, 1) ∷ (2, 1) ∷ (3, 0) ∷ [])
    (joined 5 2 1 1 (8192, 4096, 1024))
    -- ---- touches
    -- an end meets an end
    ∷ retraces (drawn whole ((0, 0) ∷ (4, 0) ∷ [] ∣ (4, 0) ∷ [] ∣ []) 0 0 Inside)
    (along whole ((0, 0) ∷ (4, 0) ∷ (4, 0) ∷ []))
    ((0, 0) ∷ (1, 0) ∷ (4, 2) ∷ [])
    (touching 3 1 0 0 1 (4096, 0, 0))
    -- 0 and −0 are equal; the path has the landing's own bits
    ∷ retraces (plate (whole 0 ∷ neg (whole 0) ∷ neg (whole 0) ∷ whole 0 ∷ whole 4 ∷ whole 0 ∷ []) (1 ∷ 2 ∷ []) (0 ∷ 0 ∷ []) 0 0 Inside)
    (whole 0 ∷ neg (whole 0) ∷ neg (whole 0) ∷ whole 0 ∷ whole 4 ∷ whole 0 ∷ [])
    ((0, 0) ∷ (4, 1) ∷ (1, 1) ∷ [])
    (touching 3 1 0 0 1 (4096, 0, 0))
    -- a squared distance of 0 is no touch where a coordinate differs: 0 and the least number above it, as x and as y
    ∷ retraces (plate (whole 0 ∷ whole 0 ∷ binary 1 1074 ∷ whole 0 ∷ []) (1 ∷ 1 ∷ []) (0 ∷ 0 ∷ []) 0 0 Inside)
    (whole 0 ∷ whole 0 ∷ binary 1 1074 ∷ whole 0 ∷ [])
    ((0, 0) ∷ (3, 1) ∷ [])
    (joined 2 0 0 1 (0, 0, 0))
    ∷ retraces (plate (whole 0 ∷ whole 0 ∷ whole 0 ∷ binary 1 1074 ∷ []) (1 ∷ 1 ∷ []) (0 ∷ 0 ∷ []) 0 0 Inside)
    (whole 0 ∷ whole 0 ∷ whole 0 ∷ binary 1 1074 ∷ [])
    ((0, 0) ∷ (3, 1) ∷ [])
    (joined 2 0 0 1 (0, 0, 0))
    -- The fresh place decides, and not the cached one: the third point was cached at (0,0), and the second's place is as near, and higher.
    ∷ retraces (plate (whole 0 ∷ whole 0 ∷ binary 1 1074 ∷ whole 0 ∷ binary 1 1074 ∷ whole 0 ∷ []) (1 ∷ 1 ∷ 1 ∷ []) (0 ∷ 0 ∷ 0 ∷ []) 0 0 Inside)
    (whole 0 ∷ whole 0 ∷ binary 1 1074 ∷ whole 0 ∷ binary 1 1074 ∷ whole 0 ∷ [])
    ((0, 0) ∷ (3, 1) ∷ (4, 2) ∷ [])
    (touching 3 0 0 1 1 (0, 0, 0))
    -- and only the point that is left counts: an equal one lies before it on the path, at place 0
    ∷ retraces (plate (whole 0 ∷ whole 0 ∷ binary 1 1074 ∷ whole 0 ∷ whole 0 ∷ whole 0 ∷ []) (1 ∷ 1 ∷ 1 ∷ []) (0 ∷ 0 ∷ 0 ∷ []) 0 0 Inside)
    (whole 0 ∷ whole 0 ∷ binary 1 1074 ∷ whole 0 ∷ whole 0 ∷ whole 0 ∷ [])
    ((0, 0) ∷ (3, 1) ∷ (3, 2) ∷ [])
    (joined 3 0 0 2 (0, 0, 0))
    -- into the middle of a contour
    ∷ retraces (drawn whole ((4, 0) ∷ [] ∣ (0, 0) ∷ (4, 0) ∷ (8, 0) ∷ [] ∣ []) 8 0 Inside)
    (along whole ((4, 0) ∷ (4, 0) ∷ (8, 0) ∷ (4, 0) ∷ (0, 0) ∷ []))
    ((0, 0) ∷ (4, 2) ∷ (1, 2) ∷ (2, 1) ∷ (1, 1) ∷ [])
    (touching 5 2 1 0 1 (8192, 4096, 0))
    -- the point left is where the walk back ends, not where the path ended
    ∷ retraces (drawn whole ((0, 0) ∷ (4, 0) ∷ [] ∣ (0, 0) ∷ [] ∣ []) 0 0 Inside)
    (along whole ((0, 0) ∷ (4, 0) ∷ (0, 0) ∷ (0, 0) ∷ []))
    ((0, 0) ∷ (1, 0) ∷ (2, 0) ∷ (4, 2) ∷ [])
    (touching 4 1 1 0 1 (4096, 4096, 0))
    -- a back-step between equal points stays what it is: the one at place 5 takes back the touch
    ∷ retraces (drawn whole ((0, 0) ∷ (4, 0) ∷ (8, 0) ∷ [] ∣ (0, 1) ∷ [] ∣ (4, 0) ∷ [] ∣ []) 0 0 Inside)
    (along whole ((0, 0) ∷ (4, 0) ∷ (8, 0) ∷ (4, 0) ∷ (4, 0) ∷ (4, 0) ∷ (8, 0) ∷ (4, 0) ∷ (0, 0) ∷ (0, 1) ∷ []))
    ((0, 0) ∷ (1, 0) ∷ (1, 1) ∷ (2, 1) ∷ (4, 4) ∷ (2, 3) ∷ (2, 2) ∷ (2, 1) ∷ (2, 0) ∷ (3, 3) ∷ [])
    (touching 10 2 5 1 1 (8192, 16384, 1024))
    -- ---- layers
    -- a nearer contour of a higher layer waits, in order, straight and retrace
    ∷ order_in 3 (in_layers (0 ∷ 1 ∷ 0 ∷ []) three_points) ⇒ ordered (gives 3) (pairs ((0, 0) ∷ (2, 0) ∷ (1, 0) ∷ []))
    ∷ straight_in 3 (in_layers (0 ∷ 1 ∷ 0 ∷ []) three_points) ⇒ straightened (gives 3) (along whole ((0, 0) ∷ (0, 2) ∷ (1, 0) ∷ []))
    ∷ retraces (in_layers (0 ∷ 1 ∷ 0 ∷ []) three_points)
    (along whole ((0, 0) ∷ (0, 2) ∷ (0, 0) ∷ (1, 0) ∷ []))
    ((0, 0) ∷ (3, 2) ∷ (2, 0) ∷ (3, 1) ∷ [])
    (joined 4 0 1 2 (0, 2048, 3072))
    -- three layers, which decide before the distance: lowest to highest, whatever their order in the slice
    ∷ order_in 3 (in_layers (15 ∷ 7 ∷ 0 ∷ []) three_points) ⇒ ordered (gives 3) (pairs ((2, 0) ∷ (1, 0) ∷ (0, 0) ∷ []))
    ∷ retraces (in_layers (15 ∷ 7 ∷ 0 ∷ []) three_points)
    (along whole ((0, 2) ∷ (1, 0) ∷ (0, 0) ∷ []))
    ((0, 2) ∷ (3, 1) ∷ (3, 0) ∷ [])
    (joined 3 0 0 2 (0, 0, 3313))
    -- the start is in the lowest layer, though an end of another is nearer
    ∷ start_on (in_layers (1 ∷ 0 ∷ []) (drawn whole ((0, 0) ∷ (1, 0) ∷ [] ∣ (5, 0) ∷ (3, 0) ∷ [] ∣ []) 0 0 Inside)) ⇒ starts (gives (1, reversed))
    -- the first of a later layer is the nearest to the last end, not the one that the strategy takes
    ∷ order_in 3 (in_layers (0 ∷ 1 ∷ 1 ∷ []) (drawn whole ((0, 0) ∷ (5, 0) ∷ [] ∣ (2, 0) ∷ [] ∣ (4, 0) ∷ [] ∣ []) 0 0 Inside))
    ⇒ ordered (gives 3) (pairs ((0, 0) ∷ (2, 0) ∷ (1, 0) ∷ []))
    -- a skipped contour of a lower layer keeps no other one waiting
    ∷ retraces (in_layers (0 ∷ 2 ∷ 1 ∷ []) (drawn whole ([] ∣ (0, 0) ∷ (1, 0) ∷ [] ∣ (5, 0) ∷ [] ∣ []) 0 0 Inside)) (along whole ((5, 0) ∷ (1, 0) ∷ (0, 0) ∷ [])) ((0, 2) ∷ (3, 1) ∷ (1, 0) ∷ []) (joined 3 1 0 1 (1024, 0, 4096))
    -- samples of a higher layer are queried after each contour of a lower layer
    ∷ retraces (in_layers (0 ∷ 1 ∷ 0 ∷ []) (drawn whole ((0, 0) ∷ [] ∣ (0, 3) ∷ (9, 0) ∷ [] ∣ (9, 0) ∷ [] ∣ []) 0 0 Inside))
    (along whole ((0, 0) ∷ (9, 0) ∷ (9, 0) ∷ (0, 3) ∷ []))
    ((0, 0) ∷ (3, 3) ∷ (4, 2) ∷ (1, 1) ∷ [])
    (touching 4 1 0 1 1 (9714, 0, 9216))
    -- 13: a wrong length of the slice, too short or too long, comes first, place M; then the first contour with a layer above 15, a skipped one too
    ∷ start_on (in_layers (16 ∷ 0 ∷ []) three_points) ⇒ starts (refuses 13 3)
    ∷ start_on (in_layers (0 ∷ 0 ∷ 0 ∷ 0 ∷ []) three_points) ⇒ starts (refuses 13 3)
    ∷ order_in 3 (in_layers (15 ∷ 16 ∷ 17 ∷ []) three_points) ⇒ ordered (refuses 13 1) (unwritten 6)
    ∷ retrace_in 3 (in_layers (0 ∷ 16 ∷ 0 ∷ []) three_points) ⇒ retraced (refuses 13 1) (unwritten_path 6) (unwritten 6)
    ∷ straight_in 2 (in_layers (0 ∷ 0 ∷ 0 ∷ 0 ∷ 0 ∷ 4294967295 ∷ []) skipping) ⇒ straightened (refuses 13 5) (unwritten_path 4)
    -- 1, 2 and 3 before 13, of either kind
    ∷ start_on (in_layers [] (handed [] (replicate 4097 0))) ⇒ starts (refuses 1 0)
    ∷ start_on (in_layers (replicate 4097 16) (handed [] (replicate 4097 0))) ⇒ starts (refuses 1 0)
    ∷ start_on (in_layers [] (handed [] (65537 ∷ []))) ⇒ starts (refuses 2 0)
    ∷ start_on (in_layers (16 ∷ []) (handed [] (65537 ∷ []))) ⇒ starts (refuses 2 0)
    ∷ start_on (in_layers [] (handed (nan ∷ []) (1 ∷ []))) ⇒ starts (refuses 3 0)
    ∷ start_on (in_layers (16 ∷ []) (handed (nan ∷ []) (1 ∷ []))) ⇒ starts (refuses 3 0)
    -- 13, of either kind, before 4; 13 before 5, 6 and 7
    ∷ start_on (in_layers (16 ∷ []) (handed (nan ∷ nan ∷ []) (1 ∷ []))) ⇒ starts (refuses 13 0)
    ∷ start_on (in_layers [] (handed (nan ∷ nan ∷ []) (1 ∷ []))) ⇒ starts (refuses 13 1)
    ∷ order_on (in_layers (16 ∷ 0 ∷ 0 ∷ []) three_points) 0 0 ⇒ ordered (refuses 13 0) []
    ∷ retrace_on (in_layers (16 ∷ 0 ∷ 0 ∷ []) three_points) 0 0 0 0 ⇒ retraced (refuses 13 0) [] []
    ∷ start_on (in_layers (16 ∷ []) (handed [] (0 ∷ []))) ⇒ starts (refuses 13 0)
    -- What no call reaches, since it refuses with 13: a contour with a layer above 15 is never chosen, and the vertex numbers of later contours count its
    -- points.
    ∷ rules_on (in_layers (16 ∷ 15 ∷ 17 ∷ []) three_points) ⇒ ruled (gives (1, forward)) (pairs ((1, 0) ∷ [])) (pairs ((0, 1) ∷ []))
    ∷ rules_on (in_layers (16 ∷ 17 ∷ 16 ∷ []) three_points) ⇒ ruled (refuses 7 0) [] []
    -- ---- the plate's box
    -- the grid, and the samples by it, lie over the plate's box: where the cells are larger than the contour only its ends are samples
    ∷ retraces over_middle
    (along whole ((4, 1) ∷ (4, 0) ∷ (8, 0) ∷ (4, 0) ∷ (0, 0) ∷ []))
    ((0, 0) ∷ (3, 2) ∷ (1, 2) ∷ (2, 1) ∷ (1, 1) ∷ [])
    (joined 5 2 1 1 (8192, 4096, 1024))
    ∷ retraces (in_wide_box over_middle)
    (along whole ((4, 1) ∷ (0, 0) ∷ (4, 0) ∷ (8, 0) ∷ []))
    ((0, 0) ∷ (3, 1) ∷ (1, 1) ∷ (1, 2) ∷ [])
    (joined 4 2 0 1 (8192, 0, 4222))
    ∷ []

-- each row's reply is what the definitions reply
pub plates : map (λ r. reply_to r.call) table ≡ map (λ r. r.reply) table
unfolding
    table whole decimal binary hundredths thousandths sixteenths ◌∣◌ along points_of drawn handed in_layers point with_home home handed_with_home pairs
    unwritten unwritten_path forward reversed touching joined ◌⇒◌ order_in straight_in retrace_in retraces numeral computed both_computed measured reply_to
    A B C D E F G zero_point I skipping over_middle in_wide_box three_points above_plate_limit above_distance_limit
    -- floats
    neg add sub mul div rem le eq of_int to_unsigned
    -- Tools, HandedOver
    pick sum without having least leads winner highest_layer lowest foremost lesser greater plate parked_plate at contours_from contours vertex_at layer_at order_room straight_room retrace_room
    in_range plate_limit distance_limit first_off first_bad refused_by too_many_contours too_many_points miscounted bad_layer_count bad_layer out_of_range off_the_plate
    work_short full parked_coordinates input_rows order_rows retrace_work retrace_rows over after
    -- Distances, Start
    mul_add root_by floor_root round_root sqrt distance_squared distance half centre measured_from oriented ends layer_of beats start
    -- GridAndNearest
    widen box_from box cell_size ceiling cells_along grid_of index_along cell_of square within on_border
    seen_from found wins nearer scan_ring bound beyond scan_from nearest
    -- SamplesAndCache
    sampled_after sampled cell_number cell_at sample_at samples_from samples cache cached query_sample seeded
    met listed listed_row listed_square listed_around cells_around query_in updated_in updated waiting ask_path keep seed update
    -- Marks, Retrace
    coincide landing_kind land cut_up cut_down back_step step_at vertex_of walk_to walk_back forwardSteps backward return_to both_ways emit entry_of begin path_points closer waiting_layer choose waiting_number place_in
    entered join_all retrace_from retrace_of retrace coordinates marks kind_at count_marks marks_of
    -- OrderAndStraight, Calls
    last_end nearer_sense nearer_end contour_number order_after order_from order_of order entries straight
    distance_call start_or start_call order_call straight_call totals path_totals vertices retrace_call
    -- Lengths
    in_1024ths pair_length counted_length length_along
plates = refl
