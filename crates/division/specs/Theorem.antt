-- The theorems of this crate, on the check of a path from elsewhere (document 02, ticket 7). What they say is defined, with all that it names, in
-- crates/statement/specs/PathCheck.antt. A call is checkable where refusals 1 to 5 let it pass.
--
--   divided_by_points  what divides as the path statement says, divides by points;
--   check_decides      the check accepts exactly the checkable calls whose path and marks divide by points as the path statement says;
--   check_places       it gives 12 exactly for the checkable calls that have a first fault, at its place: the first path point that breaks a rule, or the
--                      number of path points where none does and a contour is not entered or a segment is not cut;
--   retrace_accepted   it accepts every path that the retrace call finishes, with P + M u32 of work or more;
--   accepted_counts    what it accepts has S cuts, n − 1 jumps and touches together, and S + B + n path points; with no contour, none.
--
-- Refusals 1 to 5 are in division_laws/specs/Checks.antt; the numbers of marks in Counts, over Tallies; that path points which keep the check's rules divide, in
-- RulesKept; that refusal 12 decides the division, over any contours that rise, in NotDrawn; and the path statement's division, by points, in ByPoints, over
-- EnteredFirst. Assumes nothing.
use Rattle.std.specs.Prelude.{◌≡◌, List, ℕ, ◌*◌, ◌/◌, ◌≤◌, Float, length, take}
use Rattle.std.proofs.Math.Decide.{dec_le}
use Rattle.std.proofs.Common.{sym, ◌∙◌, arith}
use Rattle.rules.specs.HandedOver.{Contour, contours_of, contours, gives, refuses}
use Rattle.rules.specs.Calls.{retrace_call}
use Rattle.statement.specs.PathCheck.{DividesByPoints, check_rows, check_call, DividedByPoints, CheckDecides, CheckPlaces, RetraceAccepted, AcceptedCounts}
use Rattle.plate_laws.specs.Lists.{empty}
use Rattle.plate_laws.specs.Rows.{given_other, rows_append, lacks_other}
use Rattle.plate_laws.specs.Contours.{Rising, rising_from}
use Rattle.path.specs.Theorem.{retrace_gives}
use Rattle.division_laws.specs.Checks.{Matched, check_other, check_lacks, check_passes}
use Rattle.division.specs.Tallies.{not_among}
use Rattle.division.specs.NotDrawn.{drawn_divides, divides_drawn, drawn_fault, fault_drawn}
use Rattle.division.specs.ByPoints.{divides_by_points, retrace_by_points}

rising : (ns : List ℕ) → Rising (contours_of ns)
rising ns = rising_from 0 0 ns

pub divided_by_points : DividedByPoints
unfolding DividedByPoints
divided_by_points p c path ms d = divides_by_points p c path ms d

pub check_decides : CheckDecides
unfolding CheckDecides check_call
check_decides xs ns path ms w =
    let cs = contours_of ns in
    let rows = check_rows xs ns path ms w in
    let n = length path / 2 in (
      λ e.
          let (m, e1) = check_other xs ns path ms w _ (gives tt) (given_other {A = Unit {0}} rows tt) (sym (rows_append rows _ _) ∙ e) in
          (check_passes xs ns path ms w m (gives tt), (drawn_divides cs (rising ns) xs n path ms (gives tt) (gives tt) tt m.whole e1).0),
      λ c d.
          let m = (check_other xs ns path ms w (gives tt) (gives tt) (given_other {A = Unit {0}} rows tt) c).0 in
          rows_append rows _ _ ∙ check_passes xs ns path ms w m _ ∙ divides_drawn cs (rising ns) xs n path ms d (gives tt),
    )

pub check_places : CheckPlaces
unfolding CheckPlaces check_call
check_places xs ns path ms w i =
    let cs = contours_of ns in
    let rows = check_rows xs ns path ms w in
    let n = length path / 2 in (
      λ e.
          let others = lacks_other (Unit {0}) 12 i rows (check_lacks xs ns path ms w) in
          let (m, e1) = check_other xs ns path ms w _ (refuses 12 i) others (sym (rows_append rows _ _) ∙ e) in
          (check_passes xs ns path ms w m (gives tt), drawn_fault cs (rising ns) xs n path ms (gives tt) tt i e1),
      λ c f.
          let m = (check_other xs ns path ms w (gives tt) (gives tt) (given_other {A = Unit {0}} rows tt) c).0 in
          rows_append rows _ _ ∙ check_passes xs ns path ms w m _ ∙ fault_drawn cs (rising ns) xs n path ms i f (gives tt),
    )

pub retrace_accepted : RetraceAccepted
unfolding RetraceAccepted CheckDecides contours
retrace_accepted p path ms w d c e work l =
    let o = retrace_call p path ms w d in
    let written = take (2 * c.points) o.path in
    let marked = take (2 * c.points) o.marks in
    let divides = retrace_by_points p path ms w d c e in
    let half : length written / 2 ≡ c.points = omega (arith, divides.whole) in
    let matched : Matched p.points p.lengths written marked work =
    record { accepted = (retrace_gives p path ms w d c e).0; whole = rw half (divides.whole, divides.division.whole); work = l } in
    (check_decides p.points p.lengths written marked work).1 (check_passes _ _ _ _ _ matched (gives tt)) (rw half divides)

-- with no contour there is no path point
no_points : {cs : List Contour} {xs : List Float} {n : ℕ} {path : List Float} {ms : List ℕ} → DividesByPoints cs xs n path ms → length cs ≡ 0 → n ≡ 0
no_points {cs} {n = n} d e = go (dec_le 1 n)
  where
    go : Dec (1 ≤ n) → n ≡ 0
    go (yes l) = let (c, m, o) = (d.division.start l).1 in absurd (not_among cs c e m)
    go (no x) = omega (arith, x)

pub accepted_counts : AcceptedCounts
unfolding AcceptedCounts CheckDecides
accepted_counts xs ns path ms w e =
    let cs = contours_of ns in
    let n = length path / 2 in
    let d = ((check_decides xs ns path ms w).0 e).1 in (
      d.division.cuts,
      d.division.jumps,
      d.division.points,
      λ z. empty path (omega (arith, d.whole, no_points d z)),
    )
