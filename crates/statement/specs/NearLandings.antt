-- Rows of HowNear: numbers that its comparison lets pass and numbers that it does not, paths whose landings are near and paths with one that is not, how many
-- path points are written, and a plate of which the statements speak.
-- Among them is a plate on which the ring search passes over a nearer point, so that d ≤ f would be false:
-- (0,0)(7.8,3.9)(11.7,0)(65,0) | (7.8,0), 0 by 0, Inside. A cell is 1.3 wide, and 3.9, 7.8 and 11.7 are on edges of cells, but for rounding. The jump to
-- (7.8,0) leaves (7.8,3.9), three rows off, at 15.209999999999999. Ring 4, in which (11.7,0) lies, at 15.209999999999996, is not searched, for its bound
-- is (3 × 1.3)², which is rounded to 15.210000000000003.
use Rattle.std.specs.Prelude.{◌≡◌, refl, true, false, List, [], ◌∷◌, map, ℕ, zero, suc, ◌≤◌, T, ltb, pos, negsuc, Float}
use Rattle.std.proofs.Common.{inl, inr, arith, ltb→lt, lit≤}
use Rattle.std.specs.Float.{nan, inf, fin}
use Rattle.std.specs.Float.Ieee.{round, fits, neg, add, sub, mul, div, rem, lt, le, eq, of_int, to_unsigned}
use Rattle.rules.specs.Tools.{pick, sum, without, having, least, leads, winner, highest_layer, lowest, foremost, lesser, greater}
use Rattle.rules.specs.HandedOver.{AllF64, Plate, plate, at, contours_from, contours, vertex_at, layer_at, Answer, gives, refuses, retrace_room, first_off, first_bad, in_range, plate_limit, refused_by, too_many_contours, too_many_points, miscounted, bad_layer_count, bad_layer, out_of_range, off_the_plate}
use Rattle.rules.specs.HandedOver.{work_short, full, parked_coordinates, input_rows, retrace_work, retrace_rows, after, over}
use Rattle.rules.specs.Distances.{mul_add, root_by, floor_root, round_root, sqrt, distance_squared, distance}
use Rattle.rules.specs.Start.{half, centre, measured_from, oriented, ends, layer_of, beats, start}
use Rattle.rules.specs.Box.{widen, box_from, box}
use Rattle.rules.specs.GridAndNearest.{cell_size, ceiling, cells_along, grid_of, index_along, cell_of, square, within, on_border, seen_from, found, wins, nearer, scan_ring, bound, beyond, scan_from, nearest}
use Rattle.rules.specs.SamplesAndCache.{sampled_after, sampled, cell_number, cell_at, sample_at, samples_from, samples, cache, cached, query_sample, seeded, met, listed, listed_row, listed_square, listed_around, cells_around, query_in, updated_in, updated, waiting, ask_path, keep, seed, update}
use Rattle.rules.specs.Retrace.{step_at, vertex_of, walk_to, walk_back, forward, backward, return_to, both_ways, emit, entry_of, begin, path_points, closer, waiting_layer, choose, waiting_number, place_in, entered, join_all, retrace_from, retrace_of, retrace}
use Rattle.rules.specs.Marks.{coincide, landing_kind, land, cut_up, cut_down, back_step, coordinates, marks, marks_of, count_marks, kind_at, vertices}
use Rattle.rules.specs.Calls.{totals, path_totals, retrace_call}
use Rattle.statement.specs.Division.{IsJumpOrTouch}
use Rattle.rules.specs.Plates.{whole, decimal, tenths, ◌∣◌, along, points_of, drawn, pairs}
use Rattle.statement.specs.HowNear.{NearlyAtMost, LandingsNear, written_points, IsAccepted, HowNearByRules, HowNear}
use Rattle.rules.specs.declared.Totals.{Totals}
use Rattle.rules.specs.declared.StartPointStrategy.TheVariants.{Inside}

-- a number that is above another is not at most that one
above : {m n : ℕ} → T (ltb n m) → m ≤ n → ⊥
above {m} {n} t h = omega (arith, ltb→lt n m t)

-- a cut and a back-step are no landings
no_pair_lands : {kind : ℕ} → 1 ≤ kind → kind ≤ 2 → IsJumpOrTouch kind → ⊥
no_pair_lands l h (inl e) = omega (arith, e)
no_pair_lands l h (inr e) = omega (arith, e)

-- ---- the comparison

pub compared :
    -- 0 and 0; 0 and more
    NearlyAtMost (whole 0) (whole 0)
    × NearlyAtMost (whole 0) (whole 1)
    × (NearlyAtMost (whole 1) (whole 0) → ⊥)
    -- at the limit, and one more
    × NearlyAtMost (whole 1073741825) (whole 1073741824)
    × (NearlyAtMost (whole 1073741826) (whole 1073741824) → ⊥)
    -- exponents count, on either side of 0
    × NearlyAtMost (fin false 1 (negsuc 1)) (fin false 1 (pos 2))
    × (NearlyAtMost (fin false 1 (pos 2)) (fin false 1 (negsuc 1)) → ⊥)
    × (NearlyAtMost (fin false 1 (pos 2)) (fin false 1 (pos 1)) → ⊥)
    × (NearlyAtMost (fin false 1 (negsuc 0)) (fin false 1 (negsuc 1)) → ⊥)
    -- the least f64 above 0, and the greatest: neither is scaled away
    × NearlyAtMost (fin false 1 (negsuc 1073)) (fin false 1 (negsuc 1073))
    × (NearlyAtMost (fin false 3 (negsuc 1073)) (fin false 1 (negsuc 1072)) → ⊥)
    × (NearlyAtMost (fin false 1 (pos 1023)) (fin false 1 (negsuc 1073)) → ⊥)
    -- no NaN, no infinity and no minus sign
    × (NearlyAtMost nan (whole 1) → ⊥)
    × (NearlyAtMost (whole 1) nan → ⊥)
    × (NearlyAtMost (inf true) (whole 1) → ⊥)
    × (NearlyAtMost (whole 1) (inf false) → ⊥)
    × (NearlyAtMost (neg (whole 1)) (whole 1) → ⊥)
    × (NearlyAtMost (neg (whole 1)) (inf false) → ⊥)
    × (NearlyAtMost (whole 0) (neg (whole 0)) → ⊥)
    × (NearlyAtMost (inf false) (inf false) → ⊥)
    × (NearlyAtMost (whole 1) (inf true) → ⊥)
    × (NearlyAtMost (neg (whole 0)) (whole 0) → ⊥)
    × (NearlyAtMost (whole 0) (neg (whole 1)) → ⊥)
unfolding NearlyAtMost whole of_int neg
compared = (
  lit≤ tt,
  lit≤ tt,
  above tt,
  lit≤ tt,
  above tt,
  lit≤ tt,
  above tt,
  above tt,
  above tt,
  lit≤ tt,
  above tt,
  above tt,
  λ h. h,
  λ h. h,
  λ h. h,
  λ h. h,
  λ h. h,
  λ h. h,
  λ h. h,
  λ h. h,
  λ h. h,
  λ h. h,
  λ h. h,
)

-- ---- paths whose landings are near

-- (0,0)(25,0)(0,0) | (0,1), 0 by 0, Inside: the jump leaves (0,0), at 1. The second cut ends where the path begins; nothing is asked of cuts.
pub closed_path : List Float
closed_path = along whole ((0, 0) ∷ (25, 0) ∷ (0, 0) ∷ (0, 1) ∷ [])

pub closed_near : LandingsNear closed_path (pairs ((0, 0) ∷ (1, 0) ∷ (1, 1) ∷ (3, 3) ∷ [])) 4
unfolding LandingsNear NearlyAtMost closed_path whole along pairs pick kind_at at of_int add sub mul mul_add distance_squared neg
closed_near zero l t i m = absurd (no_pair_lands (lit≤ tt) (lit≤ tt) t)
closed_near (suc zero) l t i m = absurd (no_pair_lands (lit≤ tt) (lit≤ tt) t)
closed_near (suc (suc zero)) l t zero m = lit≤ tt
closed_near (suc (suc zero)) l t (suc zero) m = lit≤ tt
closed_near (suc (suc zero)) l t (suc (suc zero)) m = lit≤ tt
closed_near (suc (suc zero)) l t (suc (suc (suc i))) m = absurd (omega (arith, m))
closed_near (suc (suc (suc k))) l t i m = absurd (omega (arith, l))

-- one landing after another: (0,0) | (0,0) | (3,0), a touch and a jump
pub touch_near : LandingsNear (along whole ((0, 0) ∷ (0, 0) ∷ (3, 0) ∷ [])) (pairs ((0, 0) ∷ (4, 1) ∷ (3, 2) ∷ [])) 3
unfolding LandingsNear NearlyAtMost whole along pairs pick kind_at at of_int add sub mul mul_add distance_squared neg
touch_near zero l t zero m = lit≤ tt
touch_near zero l t (suc i) m = absurd (omega (arith, m))
touch_near (suc zero) l t zero m = lit≤ tt
touch_near (suc zero) l t (suc zero) m = lit≤ tt
touch_near (suc zero) l t (suc (suc i)) m = absurd (omega (arith, m))
touch_near (suc (suc k)) l t i m = absurd (omega (arith, l))

-- (n,0)(n,1) | (0,0): the squared distance of the jump, from (n,1), is greater than that from (n,0) by one part in n². For n = 32,768 that is just what may be.
pub aside : ℕ → List Float
aside n = along whole ((n, 0) ∷ (n, 1) ∷ (0, 0) ∷ [])

pub limit_near : LandingsNear (aside 32768) (pairs ((0, 0) ∷ (1, 0) ∷ (3, 2) ∷ [])) 3
unfolding LandingsNear NearlyAtMost aside whole along pairs pick kind_at at of_int add sub mul mul_add distance_squared neg
limit_near zero l t i m = absurd (no_pair_lands (lit≤ tt) (lit≤ tt) t)
limit_near (suc zero) l t zero m = lit≤ tt
limit_near (suc zero) l t (suc zero) m = lit≤ tt
limit_near (suc zero) l t (suc (suc i)) m = absurd (omega (arith, m))
limit_near (suc (suc k)) l t i m = absurd (omega (arith, l))

-- nothing is asked of what stands after the first n path points
pub beyond_near : LandingsNear (along whole ((0, 0) ∷ (50, 0) ∷ (0, 1) ∷ [])) (pairs ((0, 0) ∷ (1, 0) ∷ (3, 2) ∷ [])) 2
unfolding LandingsNear pairs pick kind_at
beyond_near zero l t i m = absurd (no_pair_lands (lit≤ tt) (lit≤ tt) t)
beyond_near (suc k) l t i m = absurd (omega (arith, l))

-- the plate above, its path, and its marks
pub passed_over : Plate
passed_over = drawn tenths ((0, 0) ∷ (78, 39) ∷ (117, 0) ∷ (650, 0) ∷ [] ∣ (78, 0) ∷ [] ∣ []) 0 0 Inside

pub passed_path : List Float
passed_path = along tenths ((0, 0) ∷ (78, 39) ∷ (117, 0) ∷ (650, 0) ∷ (117, 0) ∷ (78, 39) ∷ (78, 0) ∷ [])

pub passed_marks : List ℕ
passed_marks = pairs ((0, 0) ∷ (1, 0) ∷ (1, 1) ∷ (1, 2) ∷ (2, 2) ∷ (2, 1) ∷ (3, 4) ∷ [])

-- they are what the rules give; and the jump, from path point 5, is longer than it would be from path point 4
pub passed_over_lem :
    (coordinates passed_over.points (vertices (retrace passed_over)) ≡ passed_path)
    × (marks (retrace passed_over) ≡ passed_marks)
    × T (lt (distance_squared (at passed_path 4) (at passed_path 6)) (distance_squared (at passed_path 5) (at passed_path 6)))
unfolding
    passed_over passed_path passed_marks whole decimal tenths ◌∣◌ along points_of drawn pairs
    neg add sub mul div rem lt le eq of_int to_unsigned
    pick sum without having least leads winner highest_layer lowest foremost lesser greater plate at contours_from contours vertex_at layer_at
    mul_add root_by floor_root round_root sqrt distance_squared distance half centre measured_from oriented ends layer_of beats start
    widen box_from box cell_size ceiling cells_along grid_of index_along cell_of square within on_border
    seen_from found wins nearer scan_ring bound beyond scan_from nearest
    sampled_after sampled cell_number cell_at sample_at samples_from samples cache cached query_sample seeded
    met listed listed_row listed_square listed_around cells_around query_in updated_in updated waiting ask_path keep seed update
    coincide landing_kind land cut_up cut_down back_step step_at vertex_of walk_to walk_back forward backward return_to both_ways emit entry_of begin path_points
    closer waiting_layer choose waiting_number place_in entered join_all retrace_from retrace_of retrace coordinates marks vertices
passed_over_lem = (refl, refl, tt)

pub passed_near : LandingsNear passed_path passed_marks 7
unfolding LandingsNear NearlyAtMost passed_path passed_marks decimal tenths along pairs pick kind_at at add sub mul mul_add distance_squared neg
passed_near zero l t i m = absurd (no_pair_lands (lit≤ tt) (lit≤ tt) t)
passed_near (suc zero) l t i m = absurd (no_pair_lands (lit≤ tt) (lit≤ tt) t)
passed_near (suc (suc zero)) l t i m = absurd (no_pair_lands (lit≤ tt) (lit≤ tt) t)
passed_near (suc (suc (suc zero))) l t i m = absurd (no_pair_lands (lit≤ tt) (lit≤ tt) t)
passed_near (suc (suc (suc (suc zero)))) l t i m = absurd (no_pair_lands (lit≤ tt) (lit≤ tt) t)
passed_near (suc (suc (suc (suc (suc zero))))) l t zero m = lit≤ tt
passed_near (suc (suc (suc (suc (suc zero))))) l t (suc zero) m = lit≤ tt
passed_near (suc (suc (suc (suc (suc zero))))) l t (suc (suc zero)) m = lit≤ tt
passed_near (suc (suc (suc (suc (suc zero))))) l t (suc (suc (suc zero))) m = lit≤ tt
passed_near (suc (suc (suc (suc (suc zero))))) l t (suc (suc (suc (suc zero)))) m = lit≤ tt
passed_near (suc (suc (suc (suc (suc zero))))) l t (suc (suc (suc (suc (suc zero))))) m = lit≤ tt
passed_near (suc (suc (suc (suc (suc zero))))) l t (suc (suc (suc (suc (suc (suc i)))))) m = absurd (omega (arith, m))
passed_near (suc (suc (suc (suc (suc (suc k)))))) l t i m = absurd (omega (arith, l))

-- ---- paths with a landing that is not near

pub far :
    -- a jump, and a touch, from (50,0) to (0,1), with (0,0) before it
    (LandingsNear (along whole ((0, 0) ∷ (50, 0) ∷ (0, 1) ∷ [])) (pairs ((0, 0) ∷ (1, 0) ∷ (3, 2) ∷ [])) 3 → ⊥)
    × (LandingsNear (along whole ((0, 0) ∷ (50, 0) ∷ (0, 1) ∷ [])) (pairs ((0, 0) ∷ (1, 0) ∷ (4, 2) ∷ [])) 3 → ⊥)
    -- the nearer point stands neither first nor last among those before the landing
    × (LandingsNear (along whole ((50, 0) ∷ (0, 0) ∷ (50, 0) ∷ (0, 1) ∷ (0, 2) ∷ [])) (pairs ((0, 0) ∷ (1, 0) ∷ (1, 1) ∷ (3, 3) ∷ (1, 3) ∷ [])) 5 → ⊥)
    -- just beyond the limit
    × (LandingsNear (aside 32767) (pairs ((0, 0) ∷ (1, 0) ∷ (3, 2) ∷ [])) 3 → ⊥)
    -- the path point that is left is one of those before the landing, though it be the only one
    × (LandingsNear (nan ∷ nan ∷ along whole ((0, 0) ∷ [])) (pairs ((0, 0) ∷ (3, 1) ∷ [])) 2 → ⊥)
unfolding LandingsNear NearlyAtMost aside whole along pairs pick kind_at at of_int add sub mul mul_add distance_squared neg
far = (
  λ h. above tt (h 1 (omega arith) (inl refl) 0 (omega arith)),
  λ h. above tt (h 1 (omega arith) (inr refl) 0 (omega arith)),
  λ h. above tt (h 2 (omega arith) (inl refl) 1 (omega arith)),
  λ h. above tt (h 1 (omega arith) (inl refl) 0 (omega arith)),
  λ h. h 0 (omega arith) (inl refl) 0 (omega arith),
)

-- ---- how many path points are written

pub seven_points : Answer Totals
seven_points = gives (record { points = 7; cuts = 3; back_steps = 2; jumps = 1; touches = 0; cut_length = 3072; back_step_length = 2048; jump_length = 1024 })

-- a result; refusal 6; others, with a place and without
pub written : map written_points (seven_points ∷ refuses 6 4 ∷ refuses 5 1 ∷ refuses 13 6 ∷ refuses 4 9 ∷ refuses 1 0 ∷ []) ≡ 7 ∷ 4 ∷ 0 ∷ 0 ∷ 0 ∷ 0 ∷ []
unfolding seven_points written_points pick
written = refl

-- ---- what the statements ask, and what they give

-- (0,0) | (0.1,0) | (0.2,0), 0 by 0, Inside: two jumps
pub in_a_row : Plate
in_a_row = drawn tenths ((0, 0) ∷ [] ∣ (1, 0) ∷ [] ∣ (2, 0) ∷ [] ∣ []) 0 0 Inside

-- it has what is asked of a plate
pub asked_f64 : AllF64 in_a_row.points
unfolding AllF64 in_a_row decimal tenths ◌∣◌ along points_of drawn plate fits round
asked_f64 zero l = tt
asked_f64 (suc zero) l = tt
asked_f64 (suc (suc zero)) l = tt
asked_f64 (suc (suc (suc zero))) l = tt
asked_f64 (suc (suc (suc (suc zero)))) l = tt
asked_f64 (suc (suc (suc (suc (suc zero))))) l = tt
asked_f64 (suc (suc (suc (suc (suc (suc i)))))) l = absurd (omega (arith, l))

pub asked : (in_a_row.box ≡ box in_a_row.points) × IsAccepted in_a_row
unfolding
    IsAccepted in_a_row refused_by parked_coordinates input_rows too_many_contours too_many_points miscounted bad_layer_count bad_layer out_of_range off_the_plate
    first_off first_bad in_range plate_limit
    decimal tenths ◌∣◌ along points_of drawn plate round neg le pick sum highest_layer
asked = (refl, refl)

-- a number of 54 digits is no f64
pub not_f64 : AllF64 (fin false 9007199254740993 (pos 0) ∷ []) → ⊥
unfolding AllF64 fits
not_f64 h = h 0 (omega arith)

-- so the statements say this of it: by the rules; of a call that finishes, with room to spare; and of one with C = 2, which is refused with 6
pub given :
    (HowNearByRules → LandingsNear (along tenths ((0, 0) ∷ (1, 0) ∷ (2, 0) ∷ [])) (pairs ((0, 0) ∷ (3, 1) ∷ (3, 2) ∷ [])) 3)
    × (HowNear → LandingsNear (along tenths ((0, 0) ∷ (1, 0) ∷ (2, 0) ∷ (9, 9) ∷ [])) (pairs ((0, 0) ∷ (3, 1) ∷ (3, 2) ∷ (9, 9) ∷ [])) 3)
    × (HowNear → LandingsNear (along tenths ((0, 0) ∷ (1, 0) ∷ [])) (pairs ((0, 0) ∷ (3, 1) ∷ (9, 9) ∷ [])) 2)
unfolding
    HowNearByRules HowNear in_a_row retrace_call retrace_room retrace_work retrace_rows work_short full after over totals path_totals marks_of count_marks written_points
    refused_by parked_coordinates input_rows too_many_contours too_many_points miscounted bad_layer_count bad_layer out_of_range off_the_plate first_off first_bad in_range plate_limit
    whole decimal tenths ◌∣◌ along points_of drawn pairs
    round fits neg add sub mul div rem lt le eq of_int to_unsigned
    pick sum without having least leads winner highest_layer lowest foremost lesser greater plate at contours_from contours vertex_at layer_at
    mul_add root_by floor_root round_root sqrt distance_squared distance half centre measured_from oriented ends layer_of beats start
    widen box_from box cell_size ceiling cells_along grid_of index_along cell_of square within on_border
    seen_from found wins nearer scan_ring bound beyond scan_from nearest
    sampled_after sampled cell_number cell_at sample_at samples_from samples cache cached query_sample seeded
    met listed listed_row listed_square listed_around cells_around query_in updated_in updated waiting ask_path keep seed update
    coincide landing_kind land cut_up cut_down back_step step_at vertex_of walk_to walk_back forward backward return_to both_ways emit entry_of begin path_points
    closer waiting_layer choose waiting_number place_in entered join_all retrace_from retrace_of retrace coordinates marks vertices
given = (
  λ h. h in_a_row asked_f64 asked.0 asked.1,
  λ h. h in_a_row (along tenths ((9, 9) ∷ (9, 9) ∷ (9, 9) ∷ (9, 9) ∷ [])) (pairs ((9, 9) ∷ (9, 9) ∷ (9, 9) ∷ (9, 9) ∷ [])) 16500 3 asked_f64 asked.0,
  λ h. h in_a_row (along tenths ((9, 9) ∷ (9, 9) ∷ [])) (pairs ((9, 9) ∷ (9, 9) ∷ (9, 9) ∷ [])) 16500 3 asked_f64 asked.0,
)
