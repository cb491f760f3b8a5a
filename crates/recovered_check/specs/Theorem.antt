-- The theorems of this crate, on the contours of a path with marks (document 02, ticket 6) and the check of a path (ticket 7). What they say is defined, with
-- all that it names, in crates/contour_recovery/specs/ContourRecovery.antt.
--
--   recovered_divides_over         what the recovery call reads divides, by points, over the contours that it gives;
--   recovered_divides_by_vertices  by its vertices it divides over them too;
--   recovered_accepted             so the check of a path accepts it.
--
-- How the path points go from vertex to vertex is in Vertices, the recovered contours in Runs, and that the path divides over them in Entries. Assumes nothing.
use Rattle.std.specs.Prelude.{◌≡◌, refl, true, List, [], ◌++◌, map, ℕ, ◌+◌, ◌*◌, ◌/◌, ◌≤◌, ◌<◌, length, take, drop, Float}
use Rattle.std.proofs.Common.{ap, ◌∙◌, arith, ltb-false, eqb-true}
use Rattle.std.proofs.Math.Seq.{take-append_seam}
use Rattle.rules.specs.Limits.{most_contours, most_points}
use Rattle.rules.specs.Tools.{up_from, first_failing}
use Rattle.rules.specs.HandedOver.{contours_of, Answer, gives, refuses, plate_limit, first_off, out_of_range, off_the_plate, work_short, no_room, over, written}
use Rattle.rules.specs.Marks.{vertices_after}
use Rattle.statement.specs.PathCheck.{miscounted_path, check_call, DividesByPoints, CheckDecides}
use Rattle.contour_recovery.specs.ContourRecovery.{landed, consistent, vertex_count, landing_place, recovered_points, recovered_lengths, marks_inconsistent, vertex_missing, recovery_call, RecoveredDivides, RecoveredDividesByVertices, RecoveredAccepted}
use Rattle.rules.specs.declared.Recovered.{Recovered}
use Rattle.plate_laws.specs.Lists.{All, all_map, all_up_from}
use Rattle.plate_laws.specs.FiniteDistances.{OnPlate}
use Rattle.plate_laws.specs.AcceptedInput.{Accepted, first_off_lem}
use Rattle.plate_laws.specs.Rows.{rows_give}
use Rattle.division_laws.specs.Checks.{Matched, check_passes}
use Rattle.division.specs.Theorem.{check_decides}
use Rattle.recovery_laws.specs.FirstFailing.{PassBefore, first_pass}
use Rattle.recovery_laws.specs.ByKind.{rule_within}
use Rattle.recovery_laws.specs.Points.{points_length}
use Rattle.recovery_laws.specs.LandedVertices.{count_small, place_lands}
use Rattle.round_trip.specs.Points.{coordinates_on}
use Rattle.recovered_check.specs.Vertices.{MarksKept}
use Rattle.recovered_check.specs.Entries.{lengths_sum, recovered_division, recovered_divides}

front : {A : Type 0} (xs ys : List A) (k : ℕ) → length xs ≡ k → take k (xs ++ ys) ≡ xs
front xs ys k e = rw (← e) (take-append_seam xs ys)

-- n path points that the recovery call reads
record ReadPath (path : List Float) (ms : List ℕ) (n : ℕ) : Type 0 where
  whole : length path ≡ 2 * n
  on_plate : All OnPlate path
  kept : MarksKept path ms n
  landed : (v : ℕ) → v < vertex_count ms (vertices_after [] ms) n → landed ms (vertices_after [] ms) n v ≡ true

module _ {path : List Float} {ms : List ℕ} {n : ℕ} (f : ReadPath path ms n) where
  abbrev vs : List ℕ
  vs = vertices_after [] ms

  abbrev m : ℕ
  m = vertex_count ms (vertices_after [] ms) n

  abbrev xs : List Float
  xs = recovered_points path ms (vertices_after [] ms) n (vertex_count ms (vertices_after [] ms) n)

  abbrev ns : List ℕ
  ns = recovered_lengths ms (vertex_count ms (vertices_after [] ms) n)

  few : m ≤ most_points
  few = count_small ms vs n (λ j l. rule_within path ms vs j (f.kept.rules j l))

  points_on : All OnPlate xs
  unfolding recovered_points
  points_on =
      let place = landing_place ms vs n in
      let inside = all_up_from (λ v. 2 * place v + 1 < length path) 0 m
      (λ v a b. omega (arith, (place_lands ms vs v n (f.landed v (omega (arith, b)))).0, f.whole)) in
      coordinates_on path (map place (up_from 0 m)) f.on_plate (all_map _ place (up_from 0 m) inside)

  check_accepts : (work : ℕ) → length ns ≤ most_contours → m + length ns ≤ work → check_call xs ns path ms work ≡ gives tt
  unfolding CheckDecides
  check_accepts work h l =
      let half : length path / 2 ≡ n = omega (arith, f.whole) in
      let total = lengths_sum f.kept in
      let accepted : Accepted xs ns =
      record { contours = h; points = omega (arith, total, few); counted = points_length path ms vs n m ∙ rw total refl; on_plate = points_on } in
      let matched : Matched xs ns path ms work = record { accepted = accepted; whole = rw half (f.whole, f.kept.whole); work = omega (arith, total, l) } in
      let divides : DividesByPoints (contours_of ns) xs n path ms = recovered_divides f.kept f.landed f.whole in
      (check_decides xs ns path ms work).1 (check_passes xs ns path ms work matched (gives tt)) (rw half divides)

-- ---- what the call finds in what it reads

points_in : Answer Recovered → ℕ
points_in (gives r) = r.points
points_in (refuses number place) = 0

contours_in : Answer Recovered → ℕ
contours_in (gives r) = r.contours
contours_in (refuses number place) = 0

read_of : (path : List Float) (ms : List ℕ) (points : List Float) (lengths : List ℕ) (w : ℕ) (r : Recovered) →
    (recovery_call path ms points lengths w).answer ≡ gives r →
    let n = length path / 2 in
    let m = vertex_count ms (vertices_after [] ms) n in
    ReadPath path ms n × (m ≡ r.points) × (length (recovered_lengths ms m) ≡ r.contours)
unfolding recovery_call miscounted_path off_the_plate out_of_range work_short marks_inconsistent vertex_missing no_room points_in contours_in PassBefore
read_of path ms points lengths w r e =
    let n = length path / 2 in
    let vs = vertices_after [] ms in
    let m = vertex_count ms vs n in
    let ((a, (b, (c, (d, (g, t))))), same) = rows_give _ _ r e in (
      record {
        whole = eqb-true (length path) (2 * n) (grind (arith, a));
        on_plate = first_off_lem plate_limit 0 path (omega (arith, ltb-false (first_off plate_limit 0 path) (length path) b));
        kept =
            record {
              whole = eqb-true (length ms) (2 * n) (grind (arith, a));
              rules = first_pass (consistent path ms vs) n (ltb-false (first_failing (consistent path ms vs) 0 n) n d);
            };
        landed = first_pass (landed ms vs n) m (ltb-false (first_failing (landed ms vs n) 0 m) m g);
      },
      ap points_in same,
      ap contours_in same,
    )

-- the points and the lengths that it writes
written_of : (path : List Float) (ms : List ℕ) (points : List Float) (lengths : List ℕ) (w : ℕ) (r : Recovered) →
    let o = recovery_call path ms points lengths w in
    o.answer ≡ gives r →
    let n = length path / 2 in
    let vs = vertices_after [] ms in
    let m = vertex_count ms vs n in
    (take (2 * r.points) o.points ≡ recovered_points path ms vs n m) × (take r.contours o.lengths ≡ recovered_lengths ms m)
unfolding recovery_call written over
written_of path ms points lengths w r e =
    let n = length path / 2 in
    let vs = vertices_after [] ms in
    let m = vertex_count ms vs n in
    let xs = recovered_points path ms vs n m in
    let ns = recovered_lengths ms m in
    let (f, p, c) = read_of path ms points lengths w r e in
    let long : length xs ≡ 2 * r.points = points_length path ms vs n m ∙ rw p refl in
    let left = front xs (drop (length xs) points) (2 * r.points) long in
    let right = front ns (drop (length ns) lengths) r.contours c in
    rw e (left, right)

pub recovered_divides_over : RecoveredDivides
unfolding RecoveredDivides
recovered_divides_over path ms points lengths w r e =
    let n = length path / 2 in
    let (f, p, c) = read_of path ms points lengths w r e in
    let (left, right) = written_of path ms points lengths w r e in
    rw (left, right) (recovered_divides f.kept f.landed f.whole)

pub recovered_divides_by_vertices : RecoveredDividesByVertices
unfolding RecoveredDividesByVertices
recovered_divides_by_vertices path ms points lengths w r e =
    let (f, p, c) = read_of path ms points lengths w r e in
    rw (written_of path ms points lengths w r e).1 (recovered_division f.kept f.landed)

pub recovered_accepted : RecoveredAccepted
unfolding RecoveredAccepted
recovered_accepted path ms points lengths w work r e some room =
    let n = length path / 2 in
    let (f, p, c) = read_of path ms points lengths w r e in
    let (left, right) = written_of path ms points lengths w r e in
    rw (left, right) (check_accepts f work (omega (arith, c, some)) (omega (arith, p, c, room)))
