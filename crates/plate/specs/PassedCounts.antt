-- What refusals 1 to 3 let pass. Assumes nothing.
use Rattle.std.specs.Prelude.{◌≡◌, List, ℕ, ◌*◌, ◌≤◌, Float, length}
use Rattle.std.proofs.Common.{ltb-false, eqb-true}
use Rattle.std.proofs.lemmas.Bool.{not-false}
use Rattle.rules.specs.Limits.{most_contours, most_points}
use Rattle.rules.specs.Tools.{sum}
use Rattle.rules.specs.HandedOver.{too_many_contours, too_many_points, miscounted}
use Rattle.plate_laws.specs.Rows.{Passed}
use Rattle.plate.specs.Answer.{count_rows}

pub record Counted (xs : List Float) (ns : List ℕ) : Type 0 where
  pub contours : length ns ≤ most_contours
  pub points : sum ns ≤ most_points
  pub counted : length xs ≡ 2 * sum ns

pub rows_counted : (xs : List Float) (ns : List ℕ) → Passed (count_rows xs ns) → Counted xs ns
unfolding count_rows too_many_contours too_many_points miscounted
rows_counted xs ns (m, (p, (c, t))) =
    record {
      contours = ltb-false most_contours (length ns) m;
      points = ltb-false most_points (sum ns) p;
      counted = eqb-true (length xs) (2 * sum ns) (not-false _ c);
    }
