-- Contours that are recovered from paths with marks (document 02, ticket 6), as rows of one table that one theorem covers.
-- Answers, places and slices follow document 02's text, worked out by hand.
use Rattle.std.specs.Prelude.{◌≡◌, refl, true, List, [], ◌∷◌, ◌++◌, map, ℕ, ◌+◌, ◌*◌, length, replicate, Float, Err}
use Rattle.std.specs.Float.{nan, inf}
use Rattle.std.specs.Float.Ieee.{neg, le, eq, of_int}
use Rattle.rules.specs.Tools.{pick, sum, any, first_failing}
use Rattle.rules.specs.HandedOver.{at, Answer, gives, refuses, refused_by, in_range, plate_limit, first_off, out_of_range, off_the_plate, work_short, no_room, over, written}
use Rattle.rules.specs.Bits.{same_exponent, same_float, same_point}
use Rattle.rules.specs.Marks.{coincide, count_marks, coordinates, kind_at, reference_at, named, vertices_after, cuts_of, enters}
use Rattle.rules.specs.Plates.{whole, ◌∣◌, along, points_of, pairs}
use Rattle.statement.specs.PathCheck.{miscounted_path}
use Rattle.contour_recovery.specs.ContourRecovery.{lands_on, landed, only_where, known_kind, vertex_in_range, cuts_from_an_end, returns_over_a_pair, starts_first, lands_once, returns_to_bits, jumps_apart, consistent, vertex_count, landing_place, recovered_points, lengthen, runs, is_segment_cut}
use Rattle.contour_recovery.specs.ContourRecovery.{recovered_lengths, marks_inconsistent, vertex_missing, recovery_call, recovery_answer}
use Rattle.rules.specs.declared.Recovered.{Recovered}
use Rattle.rules.specs.declared.RecoveryRefusal.TheVariants.{PathMiscounted, PathOffThePlate, PathWorkShort, MarksInconsistent, VertexMissing, NoRoom}

-- ---- rows

-- the slices of a call: path and marks, points and lengths before, work by how many numbers it has; its answer, and points and lengths afterwards
pub record RecoveryRow : Type 0 where
  pub path : List Float
  pub marks : List ℕ
  pub points : List Float
  pub lengths : List ℕ
  pub work : ℕ
  pub answer : Answer Recovered
  pub points_after : List Float
  pub lengths_after : List ℕ

-- with two numbers more than are written, of the points and of the lengths, and no more work than is needed
gives_back : List Float → List (ℕ × ℕ) → List Float → List ℕ → RecoveryRow
gives_back path ms xs ns =
    record {
      path = path;
      marks = pairs ms;
      points = replicate (length xs + 2) nan;
      lengths = replicate (length ns + 2) 77;
      work = 4 * length ms;
      answer = gives (record { points = sum ns; contours = length ns });
      points_after = xs ++ (nan ∷ nan ∷ []);
      lengths_after = ns ++ (77 ∷ 77 ∷ []);
    }

-- nothing is written
refuses_all : List Float → List ℕ → ℕ → ℕ → ℕ → ℕ → ℕ → RecoveryRow
refuses_all path ms points lengths w number place =
    record {
      path = path;
      marks = ms;
      points = replicate points nan;
      lengths = replicate lengths 77;
      work = w;
      answer = refuses number place;
      points_after = replicate points nan;
      lengths_after = replicate lengths 77;
    }

abbrev o : Float
o = whole 0

abbrev minus_o : Float
minus_o = neg o

abbrev one : Float
one = whole 1

-- the contours of points (x, y) from a path's points and its marks (kind, reference)
recovers : List (ℕ × ℕ) → List (ℕ × ℕ) → List (List (ℕ × ℕ)) → RecoveryRow
recovers path ms cs = gives_back (along whole path) ms (points_of whole cs) (map length cs)

-- a path that breaks a rule, or whose vertices are not all there; slices and work are enough
refused : List Float → List (ℕ × ℕ) → ℕ → ℕ → RecoveryRow
refused path ms number place = refuses_all path (pairs ms) 9 9 (4 * length ms) number place

breaks : List (ℕ × ℕ) → List (ℕ × ℕ) → ℕ → RecoveryRow
breaks path ms place = refused (along whole path) ms 10 place

lacks : List (ℕ × ℕ) → List (ℕ × ℕ) → ℕ → RecoveryRow
lacks path ms place = refused (along whole path) ms 11 place

-- ---- the table

pub table : List RecoveryRow
table =
    -- ---- contours
    -- D, E and F of document 01 from their paths; the empty path has no contour
    recovers ((0, 0) ∷ (4, 0) ∷ (4, 1) ∷ (8, 1) ∷ []) ((0, 0) ∷ (1, 0) ∷ (3, 2) ∷ (1, 2) ∷ []) ((0, 0) ∷ (4, 0) ∷ [] ∣ (4, 1) ∷ (8, 1) ∷ [] ∣ [])
    ∷ recovers ((0, 0) ∷ (4, 0) ∷ (8, 0) ∷ (4, 0) ∷ (0, 0) ∷ (0, 1) ∷ []) ((0, 0) ∷ (1, 0) ∷ (1, 1) ∷ (2, 1) ∷ (2, 0) ∷ (3, 3) ∷ []) ((0, 0) ∷ (4, 0) ∷ (8, 0) ∷ [] ∣ (0, 1) ∷ [] ∣ [])
    ∷ recovers ((4, 0) ∷ (4, 1) ∷ (8, 1) ∷ (4, 1) ∷ (0, 1) ∷ []) ((0, 0) ∷ (3, 2) ∷ (1, 2) ∷ (2, 1) ∷ (1, 1) ∷ []) ((4, 0) ∷ [] ∣ (0, 1) ∷ (4, 1) ∷ (8, 1) ∷ [] ∣ [])
    ∷ recovers [] [] []
    -- the vertices' order is not the path's: the last contour first, and backward
    ∷ recovers ((8, 1) ∷ (4, 1) ∷ (0, 1) ∷ (4, 0) ∷ (0, 0) ∷ []) ((0, 4) ∷ (1, 3) ∷ (1, 2) ∷ (3, 1) ∷ (1, 0) ∷ []) ((0, 0) ∷ (4, 0) ∷ [] ∣ (0, 1) ∷ (4, 1) ∷ (8, 1) ∷ [] ∣ [])
    -- only cuts join: neighbours that are jumped to, and a segment that is left uncut between two that are cut
    ∷ recovers ((0, 0) ∷ (1, 0) ∷ (2, 0) ∷ []) ((0, 0) ∷ (3, 1) ∷ (3, 2) ∷ []) ((0, 0) ∷ [] ∣ (1, 0) ∷ [] ∣ (2, 0) ∷ [] ∣ [])
    ∷ recovers ((0, 0) ∷ (1, 0) ∷ (2, 0) ∷ (3, 0) ∷ []) ((0, 0) ∷ (1, 0) ∷ (3, 2) ∷ (1, 2) ∷ []) ((0, 0) ∷ (1, 0) ∷ [] ∣ (2, 0) ∷ (3, 0) ∷ [] ∣ [])
    -- a jump into the middle, back there, and on; a cut of length zero; a back-step over the pair just ended, which may itself be a back-step
    ∷ recovers ((0, 0) ∷ (2, 1) ∷ (3, 1) ∷ (2, 1) ∷ (1, 1) ∷ []) ((0, 0) ∷ (3, 2) ∷ (1, 2) ∷ (2, 1) ∷ (1, 1) ∷ []) ((0, 0) ∷ [] ∣ (1, 1) ∷ (2, 1) ∷ (3, 1) ∷ [] ∣ [])
    ∷ recovers ((2, 0) ∷ (2, 0) ∷ []) ((0, 0) ∷ (1, 0) ∷ []) ((2, 0) ∷ (2, 0) ∷ [] ∣ [])
    -- a back-step of length zero
    ∷ recovers ((2, 0) ∷ (2, 0) ∷ (2, 0) ∷ []) ((0, 0) ∷ (1, 0) ∷ (2, 0) ∷ []) ((2, 0) ∷ (2, 0) ∷ [] ∣ [])
    -- only a cut's reference joins: segment 0 is not cut, though a back-step has 0 for its reference, or a touch or jump
    ∷ recovers ((4, 1) ∷ (8, 1) ∷ (4, 1) ∷ (4, 0) ∷ []) ((0, 1) ∷ (1, 1) ∷ (2, 0) ∷ (3, 0) ∷ []) ((4, 0) ∷ [] ∣ (4, 1) ∷ (8, 1) ∷ [] ∣ [])
    ∷ recovers ((2, 0) ∷ (2, 0) ∷ []) ((0, 1) ∷ (4, 0) ∷ []) ((2, 0) ∷ [] ∣ (2, 0) ∷ [] ∣ [])
    ∷ recovers ((0, 0) ∷ (4, 0) ∷ (0, 0) ∷ []) ((0, 0) ∷ (1, 0) ∷ (2, 0) ∷ []) ((0, 0) ∷ (4, 0) ∷ [] ∣ [])
    ∷ recovers ((0, 0) ∷ (4, 0) ∷ (0, 0) ∷ (4, 0) ∷ []) ((0, 0) ∷ (1, 0) ∷ (2, 0) ∷ (2, 1) ∷ []) ((0, 0) ∷ (4, 0) ∷ [] ∣ [])
    -- 0 and −0 touch, and each has its own bits; they are one number in a jump's other coordinate
    ∷ gives_back (o ∷ o ∷ minus_o ∷ o ∷ []) ((0, 0) ∷ (4, 1) ∷ []) (o ∷ o ∷ minus_o ∷ o ∷ []) (1 ∷ 1 ∷ [])
    ∷ gives_back (minus_o ∷ o ∷ o ∷ one ∷ []) ((0, 1) ∷ (3, 0) ∷ []) (o ∷ one ∷ minus_o ∷ o ∷ []) (1 ∷ 1 ∷ [])
    -- a touch between the contours of a cut path
    ∷ recovers ((0, 0) ∷ (4, 0) ∷ (4, 0) ∷ (8, 0) ∷ []) ((0, 0) ∷ (1, 0) ∷ (4, 2) ∷ (1, 2) ∷ []) ((0, 0) ∷ (4, 0) ∷ [] ∣ (4, 0) ∷ (8, 0) ∷ [] ∣ [])
    -- ---- 10 at the first path point that breaks a rule
    -- the list of kinds, between points that differ and between equal ones
    ∷ breaks ((0, 0) ∷ (1, 0) ∷ []) ((0, 0) ∷ (5, 1) ∷ []) 1
    ∷ breaks ((0, 0) ∷ (0, 0) ∷ []) ((0, 0) ∷ (5, 1) ∷ []) 1
    ∷ breaks ((0, 0) ∷ (1, 0) ∷ []) ((0, 0) ∷ (6, 1) ∷ []) 1
    ∷ breaks ((0, 0) ∷ (1, 0) ∷ []) ((0, 0) ∷ (4294967295, 1) ∷ []) 1
    -- no vertex is above 65,535: named, or reached by a cut
    ∷ breaks ((0, 0) ∷ []) ((0, 65536) ∷ []) 0
    ∷ breaks ((0, 0) ∷ (1, 0) ∷ []) ((0, 0) ∷ (3, 65536) ∷ []) 1
    ∷ breaks ((0, 0) ∷ (0, 0) ∷ []) ((0, 0) ∷ (4, 4294967295) ∷ []) 1
    ∷ breaks ((0, 0) ∷ (1, 0) ∷ []) ((0, 65535) ∷ (1, 65535) ∷ []) 1
    -- a cut leaves an end of its segment, by vertex numbers: at (4,0) segment 0 is not cut from vertex 2
    ∷ breaks ((0, 0) ∷ (4, 0) ∷ []) ((0, 0) ∷ (1, 1) ∷ []) 1
    ∷ breaks ((0, 0) ∷ (4, 0) ∷ []) ((0, 2) ∷ (1, 0) ∷ []) 1
    ∷ breaks ((4, 0) ∷ (4, 0) ∷ (8, 0) ∷ (4, 0) ∷ (0, 0) ∷ []) ((0, 1) ∷ (4, 2) ∷ (1, 2) ∷ (2, 1) ∷ (1, 0) ∷ []) 4
    -- a back-step leaves the vertex of path point k + 1, an earlier one: over its own pair, though all three points are equal; over a later one; from elsewhere
    ∷ breaks ((2, 0) ∷ (2, 0) ∷ (2, 0) ∷ []) ((0, 0) ∷ (1, 0) ∷ (2, 1) ∷ []) 2
    ∷ breaks ((0, 0) ∷ (1, 0) ∷ (0, 0) ∷ []) ((0, 0) ∷ (1, 0) ∷ (2, 2) ∷ []) 2
    ∷ breaks ((0, 0) ∷ (1, 0) ∷ []) ((0, 0) ∷ (2, 4294967295) ∷ []) 1
    ∷ breaks ((0, 0) ∷ (4, 0) ∷ (8, 0) ∷ (0, 0) ∷ []) ((0, 0) ∷ (1, 0) ∷ (1, 1) ∷ (2, 0) ∷ []) 3
    ∷ breaks ((8, 0) ∷ (4, 0) ∷ (0, 0) ∷ (8, 0) ∷ []) ((0, 2) ∷ (1, 1) ∷ (1, 0) ∷ (2, 0) ∷ []) 3
    -- by vertex numbers: from vertex 2, which has the bits of vertex 1
    ∷ breaks ((0, 0) ∷ (4, 0) ∷ (4, 0) ∷ (0, 0) ∷ []) ((0, 0) ∷ (1, 0) ∷ (4, 2) ∷ (2, 0) ∷ []) 3
    -- it goes to path point k and not to path point k + 1
    ∷ breaks ((0, 0) ∷ (4, 0) ∷ (4, 0) ∷ []) ((0, 0) ∷ (1, 0) ∷ (2, 0) ∷ []) 2
    -- the first mark, and no other, is a start
    ∷ breaks ((0, 0) ∷ []) ((1, 0) ∷ []) 0
    ∷ breaks ((0, 0) ∷ []) ((2, 0) ∷ []) 0
    ∷ breaks ((0, 0) ∷ []) ((3, 0) ∷ []) 0
    ∷ breaks ((0, 0) ∷ []) ((4, 0) ∷ []) 0
    ∷ breaks ((0, 0) ∷ (1, 0) ∷ []) ((0, 0) ∷ (0, 1) ∷ []) 1
    -- a vertex is landed on once: by a jump after the start, by a jump after a cut, by a cut after a cut, by a touch, by a cut after a jump
    ∷ breaks ((0, 0) ∷ (1, 0) ∷ (0, 0) ∷ []) ((0, 0) ∷ (3, 1) ∷ (3, 0) ∷ []) 2
    ∷ breaks ((0, 0) ∷ (1, 0) ∷ (2, 0) ∷ []) ((0, 0) ∷ (1, 0) ∷ (3, 1) ∷ []) 2
    ∷ breaks ((0, 0) ∷ (1, 0) ∷ (0, 0) ∷ []) ((0, 0) ∷ (1, 0) ∷ (1, 0) ∷ []) 2
    ∷ breaks ((0, 0) ∷ (0, 0) ∷ (0, 0) ∷ []) ((0, 0) ∷ (4, 1) ∷ (4, 0) ∷ []) 2
    ∷ breaks ((0, 0) ∷ (1, 0) ∷ (0, 0) ∷ []) ((0, 0) ∷ (3, 1) ∷ (1, 0) ∷ []) 2
    -- also a vertex that is higher than there are path points
    ∷ breaks ((0, 0) ∷ (1, 0) ∷ (2, 0) ∷ []) ((0, 9) ∷ (3, 5) ∷ (3, 9) ∷ []) 2
    -- a back-step to other bits: 0 and −0
    ∷ refused (o ∷ o ∷ one ∷ o ∷ minus_o ∷ o ∷ []) ((0, 0) ∷ (1, 0) ∷ (2, 0) ∷ []) 10 2
    ∷ refused (o ∷ o ∷ one ∷ o ∷ o ∷ minus_o ∷ []) ((0, 0) ∷ (1, 0) ∷ (2, 0) ∷ []) 10 2
    -- a jump between equal points, 0 and −0 too, as marks were before there were touches; a touch between others, by one coordinate each
    ∷ breaks ((3, 3) ∷ (3, 3) ∷ []) ((0, 0) ∷ (3, 1) ∷ []) 1
    ∷ refused (o ∷ o ∷ minus_o ∷ o ∷ []) ((0, 0) ∷ (3, 1) ∷ []) 10 1
    ∷ breaks ((0, 0) ∷ (1, 0) ∷ []) ((0, 0) ∷ (4, 1) ∷ []) 1
    ∷ breaks ((0, 0) ∷ (0, 1) ∷ []) ((0, 0) ∷ (4, 1) ∷ []) 1
    -- the first of two such path points, and before any vertex is missed
    ∷ breaks ((0, 0) ∷ (1, 0) ∷ (1, 0) ∷ []) ((0, 7) ∷ (4, 1) ∷ (5, 0) ∷ []) 1
    -- ---- 11 at the lowest absent number: of several, of the first, and below 65,535
    ∷ lacks ((0, 0) ∷ (1, 0) ∷ []) ((0, 0) ∷ (3, 3) ∷ []) 1
    ∷ lacks ((0, 0) ∷ (1, 0) ∷ (2, 0) ∷ []) ((0, 5) ∷ (3, 0) ∷ (1, 0) ∷ []) 2
    ∷ lacks ((0, 0) ∷ []) ((0, 1) ∷ []) 0
    ∷ lacks ((0, 0) ∷ []) ((0, 65535) ∷ []) 0
    ∷ lacks ((0, 0) ∷ (1, 0) ∷ []) ((0, 65535) ∷ (1, 65534) ∷ []) 0
    ∷ lacks ((0, 0) ∷ (1, 0) ∷ []) ((0, 0) ∷ (3, 65535) ∷ []) 1
    -- ---- 3, 4 and 5 before 10, in this order; places are those of the path slice
    ∷ refuses_all (o ∷ nan ∷ o ∷ []) (5 ∷ 5 ∷ []) 9 9 0 3 0
    ∷ refuses_all (o ∷ nan ∷ []) (5 ∷ 5 ∷ 5 ∷ []) 9 9 0 3 0
    ∷ refuses_all (o ∷ nan ∷ []) (5 ∷ []) 9 9 0 3 0
    ∷ refuses_all (o ∷ nan ∷ o ∷ []) (5 ∷ 5 ∷ 5 ∷ []) 9 9 0 3 0
    ∷ refuses_all [] (0 ∷ 0 ∷ []) 9 9 0 3 0
    ∷ refuses_all (o ∷ nan ∷ []) (5 ∷ 5 ∷ []) 9 9 0 4 1
    ∷ refuses_all (inf true ∷ nan ∷ []) (5 ∷ 5 ∷ []) 9 9 0 4 0
    ∷ refuses_all (o ∷ o ∷ o ∷ whole 1000001 ∷ []) (pairs ((0, 0) ∷ (3, 1) ∷ [])) 9 9 8 4 3
    ∷ refuses_all (o ∷ o ∷ []) (5 ∷ 5 ∷ []) 9 9 3 5 0
    ∷ refuses_all (o ∷ o ∷ []) (5 ∷ 5 ∷ []) 0 0 4 10 0
    -- ---- exactly as much room as is written
    ∷ record {
      path = o ∷ o ∷ [];
      marks = 0 ∷ 0 ∷ [];
      points = nan ∷ nan ∷ [];
      lengths = 77 ∷ [];
      work = 4;
      answer = gives (record { points = 1; contours = 1 });
      points_after = o ∷ o ∷ [];
      lengths_after = 1 ∷ [];
    }
    ∷ record { path = []; marks = []; points = []; lengths = []; work = 0; answer = gives (record { points = 0; contours = 0 }); points_after = []; lengths_after = [] }
    -- ---- 6 at last: with room for one number less than is to be written, of the points and of the lengths
    ∷ refuses_all (o ∷ o ∷ []) (0 ∷ 1 ∷ []) 0 0 4 11 0
    ∷ refuses_all (o ∷ o ∷ []) (0 ∷ 0 ∷ []) 1 1 4 6 0
    ∷ refuses_all (o ∷ o ∷ []) (0 ∷ 0 ∷ []) 2 0 4 6 0
    ∷ refuses_all (o ∷ o ∷ o ∷ one ∷ []) (pairs ((0, 0) ∷ (3, 1) ∷ [])) 4 1 8 6 0
    ∷ refuses_all (o ∷ o ∷ o ∷ one ∷ []) (pairs ((0, 0) ∷ (1, 0) ∷ [])) 3 1 8 6 0
    ∷ []

-- what a row holds after the call
pub after_call : RecoveryRow → Answer Recovered × List Float × List ℕ
after_call r = let o = recovery_call r.path r.marks r.points r.lengths r.work in (o.answer, o.points, o.lengths)

-- each row's answer and slices are what the definitions give
pub recovered : map after_call table ≡ map (λ r. (r.answer, r.points_after, r.lengths_after)) table
unfolding
    table after_call gives_back refuses_all recovers refused breaks lacks whole ◌∣◌ along points_of pairs
    -- floats
    neg le eq of_int
    -- Tools, HandedOver
    pick sum any first_failing at in_range plate_limit first_off refused_by out_of_range off_the_plate work_short no_room over written
    -- Bits, Marks, PathCheck
    same_exponent same_float same_point coincide count_marks coordinates kind_at reference_at named vertices_after cuts_of enters miscounted_path
    -- ContourRecovery
    lands_on landed only_where known_kind vertex_in_range cuts_from_an_end returns_over_a_pair starts_first lands_once returns_to_bits jumps_apart consistent
    vertex_count landing_place recovered_points lengthen runs is_segment_cut recovered_lengths marks_inconsistent vertex_missing recovery_call
recovered = refl

-- the numbers and places of the code's refusals
pub answered :
    map
    (λ r. recovery_answer (Err r))
    (PathMiscounted ∷ PathOffThePlate 7 ∷ PathWorkShort ∷ NoRoom ∷ MarksInconsistent 8 ∷ VertexMissing 9 ∷ [])
    ≡ (refuses 3 0 ∷ refuses 4 7 ∷ refuses 5 0 ∷ refuses 6 0 ∷ refuses 10 8 ∷ refuses 11 9 ∷ [])
unfolding recovery_answer
answered = refl
