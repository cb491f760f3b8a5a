-- What refusals 1 to 5 of the check let pass. Assumes nothing.
use Rattle.std.specs.Prelude.{◌≡◌, ◌&&◌, List, ℕ, ◌+◌, ◌*◌, ◌/◌, ◌≤◌, Float}
use Rattle.std.proofs.Math.Path.{refl}
use Rattle.std.proofs.Common.{ap}
use Rattle.std.proofs.Math.Bool.{true, not}
use Rattle.std.proofs.Math.Dec.{eqb}
use Rattle.std.proofs.Math.ListN.{length}
use Rattle.std.proofs.lemmas.Bool.{and_parts}
use borrow.Author.Tests.{ltb-false, le-ltb, eqb-true, eq-eqb, not-false}
use Rattle.rules.specs.Tools.{sum, every}
use Rattle.rules.specs.HandedOver.{Answer, refused_by, too_many_contours, too_many_points, miscounted, out_of_range, off_the_plate, work_short, contour_rows}
use Rattle.statement.specs.PathCheck.{miscounted_path, check_rows}
use Rattle.plate_laws.specs.Lists.{all_append}
use Rattle.plate_laws.specs.Rows.{Passed, OtherThan, Lacks, rows_other, rows_pass}
use Rattle.plate_laws.specs.AcceptedInput.{Accepted, contours_accepted, accepted_contours}

module _ (xs : List Float) (ns : List ℕ) (path : List Float) (ms : List ℕ) (w : ℕ) where
  -- an accepted plate, two coordinates and two numbers of marks for each path point, and work for it
  pub record Matched : Type 0 where
    pub accepted : Accepted xs ns
    pub whole : let n = length path / 2 in (length path ≡ 2 * n) × (length ms ≡ 2 * n)
    pub work : sum ns + length ns ≤ w

  rows_matched : Passed (check_rows xs ns path ms w) → Matched
  unfolding check_rows contour_rows miscounted_path work_short
  rows_matched (a, (b, (c, (d, (marked, (work, t)))))) =
      let n = length path / 2 in
      let (even, two) = and_parts (eqb (length path) (2 * n)) (eqb (length ms) (2 * n)) (not-false _ marked) in
      record {
        accepted = contours_accepted xs ns (a, (b, (c, (d, tt))));
        whole = (eqb-true (length path) (2 * n) even, eqb-true (length ms) (2 * n) two);
        work = ltb-false w (sum ns + length ns) work;
      }

  -- what an answer has passed that is a result, or another refusal
  pub check_other : {A : Type 0} (later b : Answer A) → OtherThan (check_rows xs ns path ms w) b → refused_by (check_rows xs ns path ms w) later ≡ b →
      Matched × (later ≡ b)
  check_other later b o e = let (p, same) = rows_other (check_rows xs ns path ms w) later b o e in (rows_matched p, same)

  -- refusal 12 is none of these
  pub check_lacks : Lacks 12 (check_rows xs ns path ms w)
  unfolding check_rows contour_rows miscounted_path work_short every too_many_contours too_many_points miscounted out_of_range off_the_plate
  check_lacks = tt

  pub check_passes : {A : Type 0} → Matched → (later : Answer A) → refused_by (check_rows xs ns path ms w) later ≡ later
  unfolding check_rows miscounted_path work_short
  check_passes q later =
      let n = length path / 2 in
      let marked : eqb (length path) (2 * n) && eqb (length ms) (2 * n) ≡ true =
      rw (eq-eqb (length path) (2 * n) q.whole.0, eq-eqb (length ms) (2 * n) q.whole.1) refl in
      rows_pass _
      (all_append _ (contour_rows xs ns) _ (accepted_contours xs ns q.accepted) (ap not marked, (le-ltb w (sum ns + length ns) q.work, tt)))
      later
