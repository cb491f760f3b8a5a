-- What refusals 1 to 3 let pass, refusal 4 tests.
use Rattle.std.proofs.Common.{◌≡◌, false, [], ◌∷◌, ◌++◌, sym, ◌∙◌, arith}
use Rattle.std.specs.Float.Ieee.{of_bits}
use Rattle.std.proofs.lemmas.Result.{err_from_is_err_and}
use Rattle.rules.specs.Tools.{sum}
use Rattle.rules.specs.HandedOver.{answer_of, gives, plate_limit, off_the_plate, contour_rows}
use Rattle.plate_laws.specs.Lists.{all_append}
use Rattle.plate_laws.specs.Rows.{rows_pass}
use Rattle.plate.specs.Answer.{count_rows}
use Rattle.plate.specs.PassedCounts.{rows_counted}
use Rattle.plate.proofs.RowAnswers.{passed, refuses_among}
use Rattle.plate.proofs.check_contours.Goals as goal

pub returns-in_err-count : goal.returns-in_err-count
unfolding contour_rows count_rows
returns-in_err-count c =
    let p = err_from_is_err_and c.from_residual.result c.from_residual.ensures.1 in
    rw (p.1, p.2) (refuses_among [] (count_rows c.args.points.now c.args.lengths.now) (off_the_plate c.args.points.now ∷ []) _ _ _ tt c.in_err-count.ensures)

pub check_range-requires : goal.check_range-requires
check_range-requires c =
    let few = rows_counted _ _ (passed (count_rows c.args.points.now c.args.lengths.now) _ _ c.in_ok-count.ensures).rows in
    omega (arith, few.points, few.counted)

pub returns-in_err-check_range : goal.returns-in_err-check_range
unfolding contour_rows count_rows off_the_plate plate_limit of_bits
returns-in_err-check_range c =
    let p = err_from_is_err_and c.from_residual-in_err-check_range.result c.from_residual-in_err-check_range.ensures.1 in
    let cs = count_rows c.args.points.now c.args.lengths.now in
    rw (p.1, p.2)
    (refuses_among cs (off_the_plate c.args.points.now ∷ []) [] _ _ _ (passed cs _ _ c.in_ok-count.ensures).rows c.in_err-check_range.ensures)

pub returns : goal.returns
unfolding answer_of contour_rows count_rows off_the_plate plate_limit of_bits
returns c =
    let cs = count_rows c.args.points.now c.args.lengths.now in
    let qs = off_the_plate c.args.points.now ∷ [] in
    let counts = passed cs (sum c.args.lengths.now) c.in_ok-count.count c.in_ok-count.ensures in
    let on = passed qs tt tt c.in_ok-check_range.ensures in
    sym (rows_pass (cs ++ qs) (all_append (λ r. r.test ≡ false) cs qs counts.rows on.rows) (gives (sum c.args.lengths.now)) ∙ counts.answer)
