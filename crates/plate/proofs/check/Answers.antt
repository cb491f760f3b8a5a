-- What refusals 1 to 3 let pass, refusals 13 and 4 test, the parked point's 4 before the contours'.
use Rattle.std.proofs.Common.{false, [], ◌∷◌, ◌++◌, List, ◌≡◌, length, sym, arith}
use Rattle.std.specs.Float.Ieee.{of_bits}
use Rattle.std.proofs.lemmas.Result.{err_from_is_err_and}
use Rattle.rules.specs.Tools.{sum}
use Rattle.rules.specs.HandedOver.{RefusalRow, plate, plate_of, plate_limit, plate_rows, answer_of, gives, refused_by, bad_layer_count, bad_layer, off_the_plate, parked_coordinates, input_rows}
use Rattle.rules.specs.declared.Input.{Input}
use Rattle.plate_laws.specs.Lists.{all_append}
use Rattle.plate_laws.specs.Rows.{Passed, rows_pass}
use Rattle.plate_laws.specs.AcceptedInput.{input_gives}
use Rattle.plate.specs.Answer.{count_rows}
use Rattle.plate.specs.PassedCounts.{rows_counted}
use Rattle.plate.proofs.RowAnswers.{passed, refuses_among}
use Rattle.plate.proofs.check.Goals as goal
use Rattle.plate.proofs.check.Goals.{In_ok-check_range}

abbrev counts : Input → List RefusalRow
counts i = count_rows i.points.now i.lengths.now

abbrev layers : Input → List RefusalRow
layers i = bad_layer_count (length i.lengths.now) i.layers.now ∷ bad_layer i.layers.now ∷ []

abbrev parked : Input → List RefusalRow
parked i = off_the_plate (parked_coordinates i.strategy) ∷ []

abbrev points : Input → List RefusalRow
points i = off_the_plate i.points.now ∷ []

before_points : (i : Input) → Passed (counts i) → Passed (layers i) → Passed (parked i) → Passed (counts i ++ (layers i ++ parked i))
before_points i cs ls ps = all_append (λ r. r.test ≡ false) (counts i) (layers i ++ parked i) cs (all_append (λ r. r.test ≡ false) (layers i) (parked i) ls ps)

whole : (i : Input) → Passed (counts i ++ (layers i ++ parked i)) → Passed (points i) →
    refused_by (plate_rows (plate_of i)) (gives (sum i.lengths.now)) ≡ gives (sum i.lengths.now)
unfolding plate input_rows count_rows
whole i before ps = rows_pass (plate_rows (plate_of i)) (all_append (λ r. r.test ≡ false) (counts i ++ (layers i ++ parked i)) (points i) before ps) _

pub returns-in_err-check_counts-clause-answer : goal.returns-in_err-check_counts-clause-answer
unfolding plate input_rows count_rows
returns-in_err-check_counts-clause-answer c =
    let p = err_from_is_err_and c.from_residual.result c.from_residual.ensures.1 in
    let i = c.args.input.now in
    rw (p.1, p.2) (refuses_among [] (counts i) (layers i ++ (parked i ++ points i)) _ _ _ tt c.in_err-check_counts.ensures)

pub check_layers-requires : goal.check_layers-requires
check_layers-requires c =
    let few = rows_counted _ _ (passed (counts c.args.input.now) _ _ c.in_ok-check_counts.ensures).rows in
    omega (arith, few.contours)

pub returns-in_err-check_layers-clause-answer : goal.returns-in_err-check_layers-clause-answer
unfolding plate input_rows count_rows
returns-in_err-check_layers-clause-answer c =
    let p = err_from_is_err_and c.from_residual-in_err-check_layers.result c.from_residual-in_err-check_layers.ensures.1 in
    let i = c.args.input.now in
    rw (p.1, p.2)
    (refuses_among (counts i) (layers i) (parked i ++ points i) _ _ _ (passed (counts i) _ _ c.in_ok-check_counts.ensures).rows c.in_err-check_layers.ensures)

pub returns-in_err-check_parked-clause-answer : goal.returns-in_err-check_parked-clause-answer
unfolding plate input_rows count_rows
returns-in_err-check_parked-clause-answer c =
    let p = err_from_is_err_and c.from_residual-in_err-check_parked.result c.from_residual-in_err-check_parked.ensures.1 in
    let i = c.args.input.now in
    let passes : Passed (counts i ++ layers i) =
    all_append (λ r. r.test ≡ false) (counts i) (layers i) (passed (counts i) _ _ c.in_ok-check_counts.ensures).rows (passed (layers i) _ _ c.in_ok-check_layers.ensures).rows
    in
    rw (p.1, p.2) (refuses_among (counts i ++ layers i) (parked i) (points i) _ _ _ passes c.in_err-check_parked.ensures)

pub check_range-requires : goal.check_range-requires
check_range-requires c =
    let few = rows_counted _ _ (passed (counts c.args.input.now) _ _ c.in_ok-check_counts.ensures).rows in
    omega (arith, few.points, few.counted)

pub returns-in_err-check_range-clause-answer : goal.returns-in_err-check_range-clause-answer
unfolding plate input_rows count_rows off_the_plate plate_limit of_bits
returns-in_err-check_range-clause-answer c =
    let p = err_from_is_err_and c.from_residual-in_err-check_range.result c.from_residual-in_err-check_range.ensures.1 in
    let i = c.args.input.now in
    let passes : Passed (counts i ++ (layers i ++ parked i)) =
    before_points i (passed (counts i) _ _ c.in_ok-check_counts.ensures).rows (passed (layers i) _ _ c.in_ok-check_layers.ensures).rows
    (passed (parked i) _ _ c.in_ok-check_parked.ensures).rows
    in
    rw (p.1, p.2) (refuses_among (counts i ++ (layers i ++ parked i)) (points i) [] _ _ _ passes c.in_err-check_range.ensures)

all_passed : (c : In_ok-check_range) →
    refused_by (plate_rows (plate_of c.args.input.now)) (gives (sum c.args.input.now.lengths.now)) ≡ gives (sum c.args.input.now.lengths.now)
unfolding off_the_plate plate_limit of_bits
all_passed c =
    let i = c.args.input.now in
    whole i
    (before_points i (passed (counts i) _ _ c.in_ok-check_counts.ensures).rows (passed (layers i) _ _ c.in_ok-check_layers.ensures).rows
    (passed (parked i) _ _ c.in_ok-check_parked.ensures).rows)
    (passed (points i) _ _ c.in_ok-check_range.ensures).rows

pub invariant_of-result : goal.invariant_of-result
unfolding plate
invariant_of-result c =
    let i = c.args.input.now in
    let told = input_gives i.points.now i.lengths.now i.layers.now i.strategy _ _ (all_passed (goal.at.invariant_of-result c).In_ok-check_range) in
    record { accepted = told.0; layered = told.1.counted }

pub returns-clause-answer : goal.returns-clause-answer
unfolding answer_of
returns-clause-answer c = sym (all_passed (goal.at.returns-clause-answer c).In_ok-check_range)
