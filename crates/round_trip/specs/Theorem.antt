-- The theorem of this crate, on the contours of a path with marks (document 02, ticket 6). What it says is defined, with all that it names, in
-- crates/contour_recovery/specs/ContourRecovery.antt.
--
--   round_trip          what the retrace call finishes gives back the plate's points and the lengths of its non-empty contours, for all room and work that
--                       is enough;
--   round_trip_by_rules so does the path that the documents' rules give an accepted plate, however long it is;
--   divided_recovers    so does every path that divides as the path statement says, of a plate that refusals 1 to 4 let pass.
--
-- That each vertex is landed on once is in Landings, over LandingCounts; the rules of marks in Consistent; the points in Points and the lengths in Lengths. Assumes
-- nothing.
use Rattle.std.specs.Prelude.{◌≡◌, refl, true, List, [], map, ℕ, suc, ◌*◌, ◌/◌, ◌≤◌, ◌<◌, length, Float}
use Rattle.std.proofs.Common.{sym, ◌∙◌, arith, le-ltb, eq-eqb}
use Rattle.std.proofs.Math.Decide.{dec_le}
use Rattle.std.proofs.lemmas.List.{length-map}
use Rattle.rules.specs.Tools.{pick, sum, first_failing}
use Rattle.rules.specs.HandedOver.{Plate, Contour, plate_limit, first_off, contours, refused_by, out_of_range, off_the_plate, work_short, no_room, written}
use Rattle.rules.specs.Retrace.{retrace}
use Rattle.rules.specs.Marks.{coordinates, marks, vertices, vertices_after}
use Rattle.rules.specs.Calls.{totals, path_totals}
use Rattle.statement.specs.PathStatement.{Divides}
use Rattle.rules.specs.Contours.{contour_count}
use Rattle.statement.specs.PathCheck.{miscounted_path}
use Rattle.statement.specs.HowNear.{IsAccepted}
use Rattle.contour_recovery.specs.ContourRecovery.{landed, consistent, vertex_count, recovered_points, runs, recovered_lengths, marks_inconsistent, vertex_missing, recovery_call, GivesBack, RoundTripByRules, RoundTrip}
use Rattle.rules.specs.declared.Totals.{Totals}
use Rattle.plate_laws.specs.Lists.{All, empty}
use Rattle.plate_laws.specs.FiniteDistances.{OnPlate}
use Rattle.plate_laws.specs.AcceptedInput.{Accepted, first_on, input_gives, accepted_measurable}
use Rattle.plate_laws.specs.Start.{AllTakePart, layered_part}
use Rattle.plate_laws.specs.Contours.{sum_segments}
use Rattle.path.specs.Theorem.{retrace_divides, retrace_gives, retrace_leaves}
use Rattle.path.specs.Blank.{retrace_empty}
use Rattle.division_laws.specs.Rules.{none_failing}
use Rattle.round_trip.specs.Consistent.{divides_consistent}
use Rattle.round_trip.specs.Points.{all_landed, count_is, points_are, path_on}
use Rattle.round_trip.specs.Lengths.{lengths_are}

-- what the call finds in n path points of a plate
record Found (p : Plate) (n : ℕ) (path : List Float) (ms : List ℕ) : Type 0 where
  whole : (length path ≡ 2 * n) × (length ms ≡ 2 * n)
  on_plate : All OnPlate path
  rules : (i : ℕ) → i < n → consistent path ms (vertices_after [] ms) i ≡ true
  count : vertex_count ms (vertices_after [] ms) n ≡ sum p.lengths
  landed : (v : ℕ) → v < sum p.lengths → landed ms (vertices_after [] ms) n v ≡ true
  points : recovered_points path ms (vertices_after [] ms) n (sum p.lengths) ≡ p.points
  lengths : recovered_lengths ms (sum p.lengths) ≡ map (λ x. suc x.last) (contours p)

found_gives_back : (p : Plate) (n : ℕ) (path : List Float) (ms : List ℕ) → Found p n path ms → GivesBack p n path ms
unfolding GivesBack recovery_call miscounted_path off_the_plate out_of_range work_short marks_inconsistent vertex_missing no_room written contour_count refused_by pick
found_gives_back p n path ms f points lengths work hp hl hw =
    let vs = vertices_after [] ms in
    let m = sum p.lengths in
    let half : length path / 2 ≡ n = omega (arith, f.whole.0) in
    let off : first_off plate_limit 0 path ≡ length path = omega (arith, first_on plate_limit 0 path f.on_plate) in
    let rules : first_failing (consistent path ms vs) 0 n ≡ n =
    omega (arith, none_failing (consistent path ms vs) 0 n (λ i a b. rw (f.rules i (omega (arith, b))) tt)) in
    let all : first_failing (landed ms vs n) 0 m ≡ m = omega (arith, none_failing (landed ms vs n) 0 m (λ v a b. rw (f.landed v (omega (arith, b))) tt)) in
    let counted : length (map (λ (x : Contour). suc x.last) (contours p)) ≡ length (contours p) = length-map (contours p) (λ (x : Contour). suc x.last) in
    rw (
      half,
      off,
      rules,
      f.count,
      f.points,
      f.lengths,
      all,
      counted,
      eq-eqb (length path) (2 * n) f.whole.0,
      eq-eqb (length ms) (2 * n) f.whole.1,
      le-ltb (length path) (length path) (omega arith),
      le-ltb work (4 * n) hw,
      le-ltb n n (omega arith),
      le-ltb m m (omega arith),
      le-ltb (length points) (length p.points) hp,
      le-ltb (length lengths) (length (contours p)) hl,
    )
    (refl, refl, refl)

divided_found : (p : Plate) (c : Totals) (path : List Float) (ms : List ℕ) → Accepted p.points p.lengths → Divides p c path ms →
    Found p c.points path ms
divided_found p c path ms a d =
    record {
      whole = (d.whole, d.division.whole);
      on_plate = path_on d a;
      rules = divides_consistent d a.points;
      count = count_is d a;
      landed = all_landed d a;
      points = points_are d a;
      lengths = lengths_are d;
    }

-- with no contour there is no path point
blank_found : (p : Plate) → Accepted p.points p.lengths → contours p ≡ [] → Found p 0 [] []
unfolding recovered_points recovered_lengths coordinates vertex_count runs sum
blank_found p a e =
    let none : sum p.lengths ≡ 0 = sym (sum_segments p) ∙ rw e refl in
    record {
      whole = (refl, refl);
      on_plate = tt;
      rules = λ i l. absurd (omega arith);
      count = sym none;
      landed = λ v l. absurd (omega (arith, l, none));
      points = rw none (sym (empty p.points (omega (arith, none, a.counted))));
      lengths = rw (none, e) refl;
    }

pub divided_recovers : (p : Plate) (c : Totals) (path : List Float) (ms : List ℕ) → Accepted p.points p.lengths → Divides p c path ms →
    GivesBack p c.points path ms
divided_recovers p c path ms a d = found_gives_back p c.points path ms (divided_found p c path ms a d)

-- the path of an accepted plate, which with no contour is empty
retrace_gives_back : (p : Plate) → Accepted p.points p.lengths → AllTakePart p →
    GivesBack p (length (retrace p)) (coordinates p.points (vertices (retrace p))) (marks (retrace p))
unfolding path_totals totals contour_count coordinates marks vertices
retrace_gives_back p accepted part = go (dec_le 1 (length (contours p)))
  where
    go : Dec (1 ≤ length (contours p)) → GivesBack p (length (retrace p)) (coordinates p.points (vertices (retrace p))) (marks (retrace p))
    go (yes x) = divided_recovers p (path_totals p (retrace p)) _ _ accepted (retrace_divides p (accepted_measurable p accepted) part x)
    go (no x) =
        let none : contours p ≡ [] = empty (contours p) (omega (arith, x)) in
        rw (retrace_empty p none) (found_gives_back p 0 [] [] (blank_found p accepted none))

pub round_trip_by_rules : RoundTripByRules
unfolding RoundTripByRules IsAccepted
round_trip_by_rules p accepted =
    let (sound, layered, parked, same) = input_gives p.points p.lengths p.layers p.strategy _ tt accepted in
    retrace_gives_back p sound (layered_part p layered)

pub round_trip : RoundTrip
unfolding RoundTrip
round_trip p path ms w d c e =
    let (accepted, part, counted) = retrace_gives p path ms w d c e in
    let l = retrace_leaves p path ms w d c e in
    rw (l.path_front, l.marks_front, l.points) (retrace_gives_back p accepted part)
