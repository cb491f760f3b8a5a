-- Paths bought elsewhere (document 02, ticket 7), as rows of one table that one theorem covers, and a few paths that the division itself holds of or not.
-- Answers and places follow document 02's text, worked out by hand.
use Rattle.std.specs.Prelude.{◌≡◌, refl, true, false, List, [], ◌∷◌, ◌++◌, map, ℕ, zero, suc, ◌+◌, ◌<◌, length, replicate, negsuc, Float}
use Rattle.std.proofs.Common.{ap, subst, inl, inr, arith}
use Rattle.std.proofs.lemmas.Bool.{false≢true}
use Rattle.std.proofs.Math.Decide.{dec_le}
use Rattle.std.specs.Float.{nan, inf, fin}
use Rattle.std.specs.Float.Ieee.{neg, le, eq, of_int}
use Rattle.rules.specs.Tools.{pick, sum, any, every, first_failing}
use Rattle.rules.specs.HandedOver.{Contour, at, contours_from, contours_of, Answer, gives, refuses, in_range, plate_limit, first_off, refused_by, too_many_contours, too_many_points, miscounted, out_of_range, off_the_plate, work_short, contour_rows}
use Rattle.rules.specs.Bits.{same_exponent, same_float, same_point}
use Rattle.statement.specs.Division.{Cut, BackStep, Landing, PairOf, Unentered}
use Rattle.rules.specs.Marks.{cut_kind, back_step_kind, jump_kind, coincide, landing_kind, count_marks, marks_of, kind_at, reference_at, cuts_of, enters, entries_of}
use Rattle.rules.specs.Contours.{Among, is_of, segments_of}
use Rattle.statement.specs.PathCheck.{lands_fresh, goes, cuts_fresh, reverses, keeps_after, keeps_rules, complete, miscounted_path, not_drawn, check_rows, check_call, RulesAt, DividesByPoints, LeftOut, FirstFault}
use Rattle.rules.specs.Plates.{whole, ◌∣◌, along, points_of, pairs}
use Rattle.rules.specs.declared.Point.{Point}

-- ---- rows

-- what is handed to the check, and its answer; the work slice by how many numbers it has
pub record CheckedPath : Type 0 where
  pub points : List Float
  pub lengths : List ℕ
  pub path : List Float
  pub marks : List ℕ
  pub work : ℕ
  pub answer : Answer (Unit {0})

handed : List Float → List ℕ → List Float → List ℕ → ℕ → Answer (Unit {0}) → CheckedPath
handed xs ns path ms w a = record { points = xs; lengths = ns; path = path; marks = ms; work = w; answer = a }

-- contours of points (x, y), the path's points, its marks (kind, reference); P + M u32 of work
checking : List (List (ℕ × ℕ)) → List (ℕ × ℕ) → List (ℕ × ℕ) → Answer (Unit {0}) → CheckedPath
checking cs path ms a = let ns = map length cs in handed (points_of whole cs) ns (along whole path) (pairs ms) (sum ns + length ns) a

-- the same of floats, with contours of one point each
singles : List Float → List Float → List (ℕ × ℕ) → Answer (Unit {0}) → CheckedPath
singles xs path ms a = let ns = replicate {A = ℕ} (length ms) 1 in handed xs ns path (pairs ms) (sum ns + length ns) a

draws : Answer (Unit {0})
draws = gives tt

-- refusal 12, with its place
breaks : ℕ → Answer (Unit {0})
breaks place = refuses 12 place

abbrev o : Float
o = whole 0

abbrev minus_o : Float
minus_o = neg o

abbrev one : Float
one = whole 1

half : Float
half = fin false 1 (negsuc 0)

quarter : Float
quarter = fin false 1 (negsuc 1)

-- the contours of document 01's marked plates
A : List (List (ℕ × ℕ))
A = []

D : List (List (ℕ × ℕ))
D = (0, 0) ∷ (4, 0) ∷ [] ∣ (4, 1) ∷ (8, 1) ∷ [] ∣ []

E : List (List (ℕ × ℕ))
E = (0, 0) ∷ (4, 0) ∷ (8, 0) ∷ [] ∣ (0, 1) ∷ [] ∣ []

F : List (List (ℕ × ℕ))
F = (4, 0) ∷ [] ∣ (0, 1) ∷ (4, 1) ∷ (8, 1) ∷ [] ∣ []

-- two contours that meet: vertices 1 and 2 are one point
pub meeting : List (List (ℕ × ℕ))
meeting = (0, 0) ∷ (4, 0) ∷ [] ∣ (4, 0) ∷ (8, 0) ∷ [] ∣ []

-- ---- the table

pub table : List CheckedPath
table =
    -- ---- accepted
    -- the paths of D, E and F draw their plates; a blank plate is drawn by the empty path
    checking D ((0, 0) ∷ (4, 0) ∷ (4, 1) ∷ (8, 1) ∷ []) ((0, 0) ∷ (1, 0) ∷ (3, 2) ∷ (1, 2) ∷ []) draws
    ∷ checking E ((0, 0) ∷ (4, 0) ∷ (8, 0) ∷ (4, 0) ∷ (0, 0) ∷ (0, 1) ∷ []) ((0, 0) ∷ (1, 0) ∷ (1, 1) ∷ (2, 1) ∷ (2, 0) ∷ (3, 3) ∷ []) draws
    ∷ checking F ((4, 0) ∷ (4, 1) ∷ (8, 1) ∷ (4, 1) ∷ (0, 1) ∷ []) ((0, 0) ∷ (3, 2) ∷ (1, 2) ∷ (2, 1) ∷ (1, 1) ∷ []) draws
    ∷ checking A [] [] draws
    -- skipped contours are not entered
    ∷ checking ([] ∣ (0, 0) ∷ [] ∣ [] ∣ (1, 0) ∷ [] ∣ []) ((1, 0) ∷ (0, 0) ∷ []) ((0, 1) ∷ (3, 0) ∷ []) draws
    -- not retrace's path: from another start and by other entries; the jump is not from the nearest point
    ∷ checking D ((8, 1) ∷ (4, 1) ∷ (0, 0) ∷ (4, 0) ∷ []) ((0, 3) ∷ (1, 2) ∷ (3, 0) ∷ (1, 0) ∷ []) draws
    ∷ checking D ((4, 1) ∷ (8, 1) ∷ (0, 0) ∷ (4, 0) ∷ []) ((0, 2) ∷ (1, 2) ∷ (3, 0) ∷ (1, 0) ∷ []) draws
    -- bits decide, not vertex numbers: at (4,0) segment 0 is cut from vertex 2, which the return came to
    ∷ checking meeting ((4, 0) ∷ (4, 0) ∷ (8, 0) ∷ (4, 0) ∷ (0, 0) ∷ []) ((0, 1) ∷ (4, 2) ∷ (1, 2) ∷ (2, 1) ∷ (1, 0) ∷ []) draws
    -- back-steps over the pair just ended, which may itself be a back-step
    ∷ checking meeting ((0, 0) ∷ (4, 0) ∷ (0, 0) ∷ (4, 0) ∷ (4, 0) ∷ (8, 0) ∷ []) ((0, 0) ∷ (1, 0) ∷ (2, 0) ∷ (2, 1) ∷ (4, 2) ∷ (1, 2) ∷ []) draws
    -- a back-step names a path point, and enters no contour: here 0 is vertex 0 too, which is then jumped to
    ∷ checking ((0, 0) ∷ [] ∣ (1, 0) ∷ (2, 0) ∷ [] ∣ []) ((1, 0) ∷ (2, 0) ∷ (1, 0) ∷ (0, 0) ∷ []) ((0, 1) ∷ (1, 1) ∷ (2, 0) ∷ (3, 0) ∷ []) draws
    -- 0 and −0 touch
    ∷ singles (o ∷ o ∷ minus_o ∷ o ∷ []) (o ∷ o ∷ minus_o ∷ o ∷ []) ((0, 0) ∷ (4, 1) ∷ []) draws
    -- ---- 12 at the first path point that breaks a rule
    -- a path point on a blank plate
    ∷ checking A ((0, 0) ∷ []) ((0, 0) ∷ []) (breaks 0)
    -- the first mark is a start, and no other; there is no kind 5
    ∷ checking D ((0, 0) ∷ (4, 0) ∷ []) ((3, 0) ∷ (1, 0) ∷ []) (breaks 0)
    ∷ checking D ((0, 0) ∷ (4, 0) ∷ (4, 1) ∷ (8, 1) ∷ []) ((0, 0) ∷ (1, 0) ∷ (0, 2) ∷ (1, 2) ∷ []) (breaks 2)
    ∷ checking D ((0, 0) ∷ (4, 0) ∷ []) ((0, 0) ∷ (5, 0) ∷ []) (breaks 1)
    -- a jump between equal points, a touch between others
    ∷ checking meeting ((0, 0) ∷ (4, 0) ∷ (4, 0) ∷ (8, 0) ∷ []) ((0, 0) ∷ (1, 0) ∷ (3, 2) ∷ (1, 2) ∷ []) (breaks 2)
    ∷ checking D ((0, 0) ∷ (4, 0) ∷ (4, 1) ∷ (8, 1) ∷ []) ((0, 0) ∷ (1, 0) ∷ (4, 2) ∷ (1, 2) ∷ []) (breaks 2)
    -- a landing elsewhere than at its vertex; at no vertex; in a contour entered before
    ∷ checking D ((0, 0) ∷ (4, 0) ∷ (8, 0) ∷ []) ((0, 0) ∷ (1, 0) ∷ (3, 2) ∷ []) (breaks 2)
    ∷ checking D ((0, 0) ∷ (4, 0) ∷ (4, 1) ∷ []) ((0, 0) ∷ (1, 0) ∷ (3, 4) ∷ []) (breaks 2)
    ∷ checking D ((0, 0) ∷ (4, 0) ∷ (0, 0) ∷ []) ((0, 0) ∷ (1, 0) ∷ (3, 0) ∷ []) (breaks 2)
    -- a cut of a contour that is not entered, and of one that is entered only later: cuts enter none
    ∷ checking meeting ((4, 0) ∷ (0, 0) ∷ []) ((0, 2) ∷ (1, 0) ∷ []) (breaks 1)
    ∷ checking meeting ((0, 0) ∷ (4, 0) ∷ (8, 0) ∷ (4, 0) ∷ []) ((0, 0) ∷ (1, 0) ∷ (1, 2) ∷ (3, 2) ∷ []) (breaks 2)
    -- a cut from elsewhere than an end; one that stays at an end, the lower and the upper; of what is no segment; of one segment twice
    ∷ checking E ((0, 0) ∷ (8, 0) ∷ []) ((0, 0) ∷ (1, 1) ∷ []) (breaks 1)
    ∷ checking D ((0, 0) ∷ (0, 0) ∷ []) ((0, 0) ∷ (1, 0) ∷ []) (breaks 1)
    ∷ checking D ((4, 0) ∷ (4, 0) ∷ []) ((0, 1) ∷ (1, 0) ∷ []) (breaks 1)
    ∷ checking meeting ((4, 0) ∷ (4, 0) ∷ []) ((0, 1) ∷ (1, 1) ∷ []) (breaks 1)
    ∷ checking D ((0, 0) ∷ (4, 0) ∷ (0, 0) ∷ []) ((0, 0) ∷ (1, 0) ∷ (1, 0) ∷ []) (breaks 2)
    -- a back-step over a pair that is not earlier; over its own pair, between equal points
    ∷ checking meeting ((0, 0) ∷ (4, 0) ∷ (0, 0) ∷ []) ((0, 0) ∷ (1, 0) ∷ (2, 1) ∷ []) (breaks 2)
    ∷ checking ((2, 0) ∷ (2, 0) ∷ [] ∣ []) ((2, 0) ∷ (2, 0) ∷ (2, 0) ∷ []) ((0, 0) ∷ (1, 0) ∷ (2, 1) ∷ []) (breaks 2)
    -- a back-step elsewhere than to path point k; from elsewhere than path point k + 1; from path point k to path point k + 1
    ∷ checking meeting ((0, 0) ∷ (4, 0) ∷ (4, 0) ∷ []) ((0, 0) ∷ (1, 0) ∷ (2, 0) ∷ []) (breaks 2)
    ∷ checking E ((0, 0) ∷ (4, 0) ∷ (8, 0) ∷ (0, 0) ∷ []) ((0, 0) ∷ (1, 0) ∷ (1, 1) ∷ (2, 0) ∷ []) (breaks 3)
    ∷ checking D ((0, 0) ∷ (4, 0) ∷ (0, 0) ∷ (4, 0) ∷ []) ((0, 0) ∷ (1, 0) ∷ (2, 0) ∷ (2, 0) ∷ []) (breaks 3)
    -- −0 has other bits than 0: at a landing, after a cut, before a cut, after a back-step, before a back-step
    ∷ singles (o ∷ o ∷ []) (o ∷ minus_o ∷ []) ((0, 0) ∷ []) (breaks 0)
    ∷ handed (o ∷ o ∷ one ∷ o ∷ []) (2 ∷ []) (one ∷ o ∷ minus_o ∷ o ∷ []) (pairs ((0, 1) ∷ (1, 0) ∷ [])) 3 (breaks 1)
    ∷ handed (o ∷ o ∷ one ∷ o ∷ minus_o ∷ o ∷ []) (2 ∷ 1 ∷ []) (o ∷ o ∷ minus_o ∷ o ∷ one ∷ o ∷ []) (pairs ((0, 0) ∷ (4, 2) ∷ (1, 0) ∷ [])) 5 (breaks 2)
    ∷ handed (o ∷ o ∷ one ∷ o ∷ []) (2 ∷ []) (o ∷ o ∷ one ∷ o ∷ minus_o ∷ o ∷ []) (pairs ((0, 0) ∷ (1, 0) ∷ (2, 0) ∷ [])) 3 (breaks 2)
    ∷ handed (one ∷ o ∷ o ∷ o ∷ minus_o ∷ o ∷ []) (2 ∷ 1 ∷ []) (one ∷ o ∷ o ∷ o ∷ minus_o ∷ o ∷ one ∷ o ∷ [])
    (pairs ((0, 0) ∷ (1, 0) ∷ (4, 2) ∷ (2, 0) ∷ [])) 5 (breaks 3)
    -- 1, 1/2 and 1/4 have one significand
    ∷ singles (one ∷ o ∷ []) (half ∷ o ∷ []) ((0, 0) ∷ []) (breaks 0)
    ∷ singles (half ∷ o ∷ []) (one ∷ o ∷ []) ((0, 0) ∷ []) (breaks 0)
    ∷ singles (half ∷ o ∷ []) (quarter ∷ o ∷ []) ((0, 0) ∷ []) (breaks 0)
    -- a NaN and an infinity in the path have the bits of no vertex; nor has a NaN whose mark names none
    ∷ singles (o ∷ o ∷ []) (nan ∷ o ∷ []) ((0, 0) ∷ []) (breaks 0)
    ∷ singles (o ∷ o ∷ []) (o ∷ inf true ∷ []) ((0, 0) ∷ []) (breaks 0)
    ∷ singles (o ∷ o ∷ []) (nan ∷ nan ∷ []) ((0, 1) ∷ []) (breaks 0)
    -- ---- 12 at the path's length
    -- a segment is uncut; a contour is unentered; nothing is drawn at all
    ∷ checking D ((0, 0) ∷ (4, 0) ∷ (4, 1) ∷ []) ((0, 0) ∷ (1, 0) ∷ (3, 2) ∷ []) (breaks 3)
    ∷ checking E ((0, 0) ∷ (4, 0) ∷ (8, 0) ∷ []) ((0, 0) ∷ (1, 0) ∷ (1, 1) ∷ []) (breaks 3)
    ∷ checking D [] [] (breaks 0)
    -- ---- the refusals before 12
    -- 3 for an odd path slice and for marks that are not two for each point, before 5
    ∷ handed (o ∷ o ∷ []) (1 ∷ []) (o ∷ o ∷ o ∷ []) (0 ∷ 0 ∷ []) 0 (refuses 3 0)
    ∷ handed (o ∷ o ∷ []) (1 ∷ []) (o ∷ o ∷ []) (0 ∷ 0 ∷ 0 ∷ []) 0 (refuses 3 0)
    ∷ handed (o ∷ o ∷ []) (1 ∷ []) (o ∷ o ∷ []) (0 ∷ []) 0 (refuses 3 0)
    -- 5 for work one short, a skipped contour counting too, before 12
    ∷ handed (o ∷ o ∷ []) (1 ∷ 0 ∷ []) (o ∷ one ∷ []) (0 ∷ 0 ∷ []) 2 (refuses 5 0)
    ∷ handed (o ∷ o ∷ []) (1 ∷ 0 ∷ []) (o ∷ one ∷ []) (0 ∷ 0 ∷ []) 3 (breaks 0)
    -- 1 to 4 first, in their order: 4 is of the plate's coordinates, not of the path's
    ∷ handed [] (65537 ∷ replicate 4096 0) (o ∷ []) [] 0 (refuses 1 0)
    ∷ handed [] (65537 ∷ []) (o ∷ []) [] 0 (refuses 2 0)
    ∷ handed (nan ∷ []) (1 ∷ []) [] [] 2 (refuses 3 0)
    ∷ handed (o ∷ nan ∷ []) (1 ∷ []) (o ∷ []) [] 0 (refuses 4 1)
    ∷ []

-- each row's answer is what the definitions answer
pub paths : map (λ r. check_call r.points r.lengths r.path r.marks r.work) table ≡ map (λ r. r.answer) table
unfolding
    table handed checking singles draws breaks half quarter A D E F meeting whole ◌∣◌ along points_of pairs
    -- floats
    neg le eq of_int
    -- Tools, HandedOver
    pick sum any every first_failing at contours_from in_range plate_limit first_off refused_by too_many_contours too_many_points miscounted out_of_range off_the_plate work_short contour_rows
    -- Bits, Marks
    same_exponent same_float same_point coincide landing_kind count_marks kind_at reference_at cuts_of enters is_of entries_of
    -- PathCheck
    lands_fresh goes cuts_fresh reverses keeps_after keeps_rules complete miscounted_path not_drawn check_rows check_call
paths = refl

-- ---- the division itself

-- the path point is numerically equal to its vertex, but has other bits
pub other_bits : DividesByPoints (contours_of (1 ∷ [])) (o ∷ o ∷ []) 1 (o ∷ minus_o ∷ []) (0 ∷ 0 ∷ []) → ⊥
unfolding whole of_int neg reference_at at same_float same_exponent
other_bits d = false≢true (ap (λ (q : Point). same_float q.y o) (d.division.start (omega arith)).2)

-- A cut of a contour that is entered only later. All else holds: each segment is cut once, and each contour is entered once.
pub cuts_in :
    DividesByPoints (contours_of (2 ∷ 2 ∷ [])) (points_of whole meeting) 4 (along whole ((0, 0) ∷ (4, 0) ∷ (8, 0) ∷ (4, 0) ∷ []))
    (pairs ((0, 0) ∷ (1, 0) ∷ (1, 2) ∷ (3, 2) ∷ [])) → ⊥
unfolding pairs contours_from kind_at reference_at entries_of count_marks enters is_of pick
cuts_in d = omega (arith, (d.first_cuts 1 (omega arith) refl).0 _ (inr (inl refl)) (omega arith, omega arith))

-- (0,0)(4,0) | (0,1)
pub contours_here : List Contour
contours_here = contours_of (2 ∷ 1 ∷ [])

pub points_here : List Float
points_here = points_of whole ((0, 0) ∷ (4, 0) ∷ [] ∣ (0, 1) ∷ [] ∣ [])

-- a start, a cut, a back-step and whatever follows
pub begun : List Float → List Float
begun rest = along whole ((0, 0) ∷ (4, 0) ∷ (0, 0) ∷ []) ++ rest

pub begun_marks : List ℕ → List ℕ
begun_marks rest = pairs ((0, 0) ∷ (1, 0) ∷ (2, 0) ∷ []) ++ rest

by_contour : (B : Contour → Type 0) → B (record { number = 0; first = 0; last = 1 }) → B (record { number = 1; first = 2; last = 0 }) →
    (c : Contour) → Among c contours_here → B c
unfolding contours_here contours_from
by_contour B x y c (inl e) = subst B e x
by_contour B x y c (inr (inl e)) = subst B e y
by_contour B x y c (inr (inr e)) = absurd e

keep : (rest : List Float) (more : List ℕ) (i : ℕ) → i < 3 → RulesAt contours_here points_here (begun rest) (begun_marks more) i
unfolding
    contours_here points_here begun begun_marks contours_from whole of_int ◌∣◌ along points_of pairs at RulesAt kind_at reference_at
    entries_of cuts_of count_marks enters is_of pick
keep rest more zero h = (refl, (_, inl refl, (omega arith, omega arith)), refl)
keep rest more (suc zero) h = (
  inl (refl, record { segment = (_, inl refl, omega arith, omega arith); sense = inl (refl, refl) }),
  λ e. (by_contour _ (λ v. omega arith) (λ v. absurd (omega (arith, v.0))), refl),
)
keep rest more (suc (suc zero)) h = (inr (inl (refl, record { earlier = omega arith; from = refl; to = refl })), λ e. absurd (omega (arith, e)))
keep rest more (suc (suc (suc i))) h = absurd (omega arith)

-- a jump follows: the path divides
abbrev jumped : List Float
jumped = begun (o ∷ one ∷ [])

abbrev jumped_marks : List ℕ
jumped_marks = begun_marks (3 ∷ 2 ∷ [])

jumps : RulesAt contours_here points_here jumped jumped_marks 3
unfolding
    contours_here points_here begun begun_marks contours_from whole of_int ◌∣◌ along points_of pairs at RulesAt kind_at reference_at
    entries_of count_marks enters is_of pick coincide eq
jumps = (inr (inr (inl (refl, tt), record { landing = refl; fresh = (_, inr (inl refl), (omega arith, omega arith), refl) })), λ f. absurd (omega (arith, f)))

rules_kept : (i : ℕ) → i < 4 → RulesAt contours_here points_here jumped jumped_marks i
rules_kept i h = elim (dec_le (suc i) 3) [ yes l ↦ keep (o ∷ one ∷ []) (3 ∷ 2 ∷ []) i l | no l ↦ let e : i ≡ 3 = omega arith in rw e jumps ]

pub divides : DividesByPoints contours_here points_here 4 jumped jumped_marks
unfolding
    contours_here points_here begun begun_marks contours_from whole of_int ◌∣◌ along points_of pairs RulesAt
    segments_of sum marks_of entries_of cuts_of count_marks enters is_of pick
divides =
    record {
      whole = omega arith;
      division =
          record {
            whole = omega arith;
            start = λ h. rules_kept 0 h;
            pairs = λ k h. (rules_kept (suc k) h).0;
            cuts = omega arith;
            jumps = λ h. omega arith;
            points = omega arith;
            once = by_contour (λ c. (i : ℕ) → i < c.last → cuts_of (c.first + i) jumped_marks ≡ 1) (λ i h. only i (omega arith)) (λ i h. absurd (omega arith));
          };
      first_cuts = λ k h. (rules_kept (suc k) h).1;
      entered = by_contour (λ c. entries_of c jumped_marks ≡ 1) refl refl;
    }
  where
    only : (i : ℕ) → i ≡ 0 → cuts_of (0 + i) jumped_marks ≡ 1
    only i e = rw e refl

-- a touch alone: the second contour has the first's only point
pub divides_by_a_touch : DividesByPoints (contours_of (1 ∷ 1 ∷ [])) (o ∷ o ∷ o ∷ o ∷ []) 2 (o ∷ o ∷ o ∷ o ∷ []) (pairs ((0, 0) ∷ (4, 1) ∷ []))
unfolding whole of_int pairs at contours_from kind_at reference_at segments_of sum marks_of cuts_of entries_of count_marks enters is_of pick coincide eq
divides_by_a_touch =
    record {
      whole = omega arith;
      division =
          record {
            whole = omega arith;
            start = λ h. (refl, (_, inl refl, (omega arith, omega arith)), refl);
            pairs =
                λ k h.
                let e : k ≡ 0 = omega arith in
                rw e (inr (inr (inr (refl, tt), record { landing = refl; fresh = (_, inr (inl refl), (omega arith, omega arith), refl) })));
            cuts = omega arith;
            jumps = λ h. omega arith;
            points = omega arith;
            once = λ c m i h. absurd (no_segment c m i h);
          };
      first_cuts = λ k h e. let z : k ≡ 0 = omega arith in absurd (omega (arith, rw z at e));
      entered = λ c m. entered_once c m;
    }
  where
    no_segment : (c : Contour) → Among c (contours_of (1 ∷ 1 ∷ [])) → (i : ℕ) → i < c.last → ⊥
    no_segment c (inl e) i h = omega (arith, h, ap (λ (x : Contour). x.last) e)
    no_segment c (inr (inl e)) i h = omega (arith, h, ap (λ (x : Contour). x.last) e)
    no_segment c (inr (inr e)) i h = e

    entered_once : (c : Contour) → Among c (contours_of (1 ∷ 1 ∷ [])) → entries_of c (pairs ((0, 0) ∷ (4, 1) ∷ [])) ≡ 1
    entered_once c (inl e) = rw (← e) refl
    entered_once c (inr (inl e)) = rw (← e) refl
    entered_once c (inr (inr e)) = absurd e

-- a touch follows, between points that differ: the first fault is there
pub touches_apart : FirstFault contours_here points_here 4 (begun (o ∷ one ∷ [])) (begun_marks (4 ∷ 2 ∷ [])) 3
unfolding begun begun_marks whole of_int along pairs at FirstFault RulesAt kind_at reference_at coincide eq
touches_apart = (keep (o ∷ one ∷ []) (4 ∷ 2 ∷ []), inl (omega arith, refused))
  where
    refused : RulesAt contours_here points_here (begun (o ∷ one ∷ [])) (begun_marks (4 ∷ 2 ∷ [])) 3 → ⊥
    refused (inl c, f) = omega (arith, c.0)
    refused (inr (inl b), f) = omega (arith, b.0)
    refused (inr (inr (inl j, l)), f) = omega (arith, j.0)
    refused (inr (inr (inr t, l)), f) = t.1

-- nothing follows: the first fault is at the path's length, the second contour being unentered
pub leaves_out : FirstFault contours_here points_here 3 (begun []) (begun_marks []) 3
unfolding contours_here begun_marks contours_from pairs FirstFault LeftOut entries_of count_marks enters is_of pick
leaves_out = (keep [] [], inr (refl, (_, inr (inl refl), inl refl)))

-- ---- paths that do not divide by points: clauses that a path's vertices keep by themselves

module _ (cs : List Contour) (xs : List Float) (n : ℕ) (path : List Float) (ms : List ℕ) (d : DividesByPoints cs xs n path ms) (k r : ℕ) where
  abbrev PairAt : ℕ → Type 0
  PairAt kind = PairOf cs (at path) (at xs) (at path) (Unentered ms k) k kind r

  cut : PairAt cut_kind → Cut cs (at xs) (at path) k r
  cut (inl c) = c.1
  cut (inr (inl b)) = absurd (omega (arith, b.0))
  cut (inr (inr (inl j, l))) = absurd (omega (arith, j.0))
  cut (inr (inr (inr t, l))) = absurd (omega (arith, t.0))

  back_step : PairAt back_step_kind → BackStep (at path) k r
  back_step (inl c) = absurd (omega (arith, c.0))
  back_step (inr (inl b)) = b.1
  back_step (inr (inr (inl j, l))) = absurd (omega (arith, j.0))
  back_step (inr (inr (inr t, l))) = absurd (omega (arith, t.0))

  land : PairAt jump_kind → Landing cs (at xs) (at path) (Unentered ms k) k r
  land (inl c) = absurd (omega (arith, c.0))
  land (inr (inl b)) = absurd (omega (arith, b.0))
  land (inr (inr l)) = l.1

-- `whole`: half a point beyond those counted
pub longer_by_half : DividesByPoints (contours_of (1 ∷ [])) (o ∷ o ∷ []) 1 (o ∷ o ∷ o ∷ []) (0 ∷ 0 ∷ []) → ⊥
unfolding whole
longer_by_half d = omega (arith, d.whole)

-- `sense`: a cut to elsewhere than the segment's other end
pub cuts_to_elsewhere :
    DividesByPoints (contours_of (2 ∷ [])) (points_of whole ((0, 0) ∷ (4, 0) ∷ [] ∣ [])) 2 (along whole ((0, 0) ∷ (8, 0) ∷ [])) (pairs ((0, 0) ∷ (1, 0) ∷ [])) → ⊥
unfolding whole of_int ◌∣◌ along points_of pairs at kind_at reference_at eq
cuts_to_elsewhere d = elim (cut _ _ _ _ _ d 0 0 (d.division.pairs 0 (omega arith))).sense [
  | inl s ↦ false≢true (ap (λ (q : Point). eq q.x (whole 4)) s.1)
  | inr s ↦ false≢true (ap (λ (q : Point). eq q.x (whole 4)) s.0)
]

-- and one from elsewhere than an end, of a contour that is entered before
pub cuts_from_elsewhere :
    DividesByPoints (contours_of (1 ∷ 2 ∷ [])) (points_of whole ((9, 0) ∷ [] ∣ (0, 0) ∷ (4, 0) ∷ [] ∣ [])) 3 (along whole ((0, 0) ∷ (9, 0) ∷ (4, 0) ∷ []))
    (pairs ((0, 1) ∷ (3, 0) ∷ (1, 1) ∷ [])) → ⊥
unfolding whole of_int ◌∣◌ along points_of pairs at kind_at reference_at eq
cuts_from_elsewhere d = elim (cut _ _ _ _ _ d 1 1 (d.division.pairs 1 (omega arith))).sense [
  | inl s ↦ false≢true (ap (λ (q : Point). eq q.x (whole 0)) s.0)
  | inr s ↦ false≢true (ap (λ (q : Point). eq q.x (whole 4)) s.0)
]

-- a back-step's `to`: elsewhere than to path point r
pub steps_to_elsewhere :
    DividesByPoints (contours_of (2 ∷ [])) (points_of whole ((0, 0) ∷ (4, 0) ∷ [] ∣ [])) 3 (along whole ((0, 0) ∷ (4, 0) ∷ (8, 0) ∷ []))
    (pairs ((0, 0) ∷ (1, 0) ∷ (2, 0) ∷ [])) → ⊥
unfolding whole of_int ◌∣◌ along points_of pairs at kind_at reference_at eq
steps_to_elsewhere d = false≢true (ap (λ (q : Point). eq q.x (whole 0)) (back_step _ _ _ _ _ d 1 0 (d.division.pairs 1 (omega arith))).to)

-- `landing`: a jump elsewhere than to the vertex that it names
pub lands_elsewhere :
    DividesByPoints (contours_of (1 ∷ 1 ∷ [])) (points_of whole ((0, 0) ∷ [] ∣ (4, 0) ∷ [] ∣ [])) 2 (along whole ((0, 0) ∷ (8, 0) ∷ []))
    (pairs ((0, 0) ∷ (3, 1) ∷ [])) → ⊥
unfolding whole of_int ◌∣◌ along points_of pairs at kind_at reference_at eq
lands_elsewhere d = false≢true (ap (λ (q : Point). eq q.x (whole 4)) (land _ _ _ _ _ d 0 1 (d.division.pairs 0 (omega arith))).landing)

-- `entered`: the second contour is not. Breaks `jumps` and `points` too.
pub enters_one : DividesByPoints contours_here points_here 3 (begun []) (begun_marks []) → ⊥
unfolding contours_here begun_marks contours_from pairs entries_of count_marks enters is_of pick
enters_one d = omega (arith, d.entered _ (inr (inl refl)))

-- a plate with no contour: the empty path divides
pub blank_divides : DividesByPoints [] [] 0 [] []
unfolding segments_of sum marks_of count_marks
blank_divides =
    record {
      whole = omega arith;
      division =
          record {
            whole = omega arith;
            start = λ h. absurd (omega (arith, h));
            pairs = λ k h. absurd (omega (arith, h));
            cuts = omega arith;
            jumps = λ h. absurd (omega (arith, h));
            points = omega arith;
            once = λ c m i h. absurd m;
          };
      first_cuts = λ k h. absurd (omega (arith, h));
      entered = λ c m. absurd m;
    }

-- the first fault: a segment cut again; a contour entered again
pub cuts_again : FirstFault contours_here points_here 4 (begun (along whole ((4, 0) ∷ []))) (begun_marks (1 ∷ 0 ∷ [])) 3
unfolding begun_marks pairs FirstFault RulesAt kind_at reference_at cuts_of count_marks pick
cuts_again = (keep _ (1 ∷ 0 ∷ []), inl (omega arith, λ f. omega (arith, (f.1 refl).1)))

pub enters_again : FirstFault contours_here points_here 4 (begun (along whole ((4, 0) ∷ []))) (begun_marks (3 ∷ 1 ∷ [])) 3
unfolding contours_here begun_marks contours_from pairs FirstFault RulesAt kind_at reference_at entries_of count_marks enters is_of pick
enters_again = (keep _ (3 ∷ 1 ∷ []), inl (omega arith, refused))
  where
    refused : RulesAt contours_here points_here (begun (along whole ((4, 0) ∷ []))) (begun_marks (3 ∷ 1 ∷ [])) 3 → ⊥
    refused (inl c, f) = omega (arith, c.0)
    refused (inr (inl b), f) = omega (arith, b.0)
    refused (inr (inr (e, l)), f) = let s = l.fresh in elim s.1 [
      | inl c ↦ omega (arith, rw (← c) at s.3)
      | inr (inl c) ↦ omega (arith, ap (λ (x : Contour). x.first) c, s.2.0)
      | inr (inr c) ↦ c
    ]
