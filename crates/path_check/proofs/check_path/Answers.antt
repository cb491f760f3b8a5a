-- What the check answers, by the way that a call takes.
use Rattle.std.proofs.Common.{◌≡◌, List, ℕ, Float, ◌+◌, ◌*◌, ◌/◌, ◌≤◌, ◌<◌, length, sym, ◌∙◌, arith}
use Rattle.std.proofs.lemmas.Result.{err_from_is_err_and}
use Rattle.rules.specs.Tools.{sum}
use Rattle.rules.specs.HandedOver.{number_of, place_of, refusal, contours_of, gives, refused_by, contour_rows, answer_of}
use Rattle.plate_laws.specs.AcceptedInput.{contours_gives}
use Rattle.plate_laws.specs.Rows.{Passed, rows_give}
use Rattle.slices.specs.Outcome.{work_same}
use Rattle.path_check.specs.Outcome.{unsound, odd_path, other_marks, short_work, divided, divided_frees}
use Rattle.path_check.proofs.check_path.Goals as goal
use Rattle.path_check.proofs.check_path.Goals.{then-path-ne0-via-then-path-ne0, then-path-ne0-via-else-path-ne0+then-marks-path}

contours_total : (xs : List Float) (ns : List ℕ) (n : ℕ) → refused_by (contour_rows xs ns) (gives (sum ns)) ≡ gives n → n ≡ sum ns
contours_total xs ns n sound = let e = (contours_gives xs ns (gives (sum ns)) n sound).1 in cc

contours_pass : (xs : List Float) (ns : List ℕ) (n : ℕ) → refused_by (contour_rows xs ns) (gives (sum ns)) ≡ gives n → Passed (contour_rows xs ns)
contours_pass xs ns n sound = (rows_give (contour_rows xs ns) (gives (sum ns)) n sound).0

pub returns-in_err-total : goal.returns-in_err-total
unfolding answer_of
returns-in_err-total c =
    let a = c.args in
    let p = err_from_is_err_and c.from_residual.result c.from_residual.ensures.1 in
    rw (p.1, p.2) (unsound a.points.now a.lengths.now a.path.now a.marks.now (length a.work.now) _ _ c.in_err-total.ensures, work_same _ a.work.now)

pub returns-then-path-ne0 : goal.returns-then-path-ne0
unfolding answer_of number_of place_of refusal
returns-then-path-ne0 c =
    let sound = contours_pass _ _ _ (sym c.in_ok-total.ensures) in
    elim c.then-path-ne0.branch [
      | then-path-ne0-via-then-path-ne0 w ↦
          (odd_path _ _ _ _ _ sound (λ e. w.if-path-ne0.true (omega (arith, e))), work_same _ c.args.work.now)
      | then-path-ne0-via-else-path-ne0+then-marks-path w ↦
          (other_marks _ _ _ _ _ sound (omega (arith, w.if-path-ne0.false)) w.if-marks-path.true, work_same _ c.args.work.now)
    ]

pub returns-then-work-total : goal.returns-then-work-total
unfolding answer_of number_of place_of refusal
returns-then-work-total c =
    let a = c.args in
    let accepted = sym c.in_ok-total.ensures in
    let sound = contours_pass _ _ _ accepted in
    let total = contours_total _ _ _ accepted in
    let short : length a.work.now < sum a.lengths.now + length a.lengths.now = omega (arith, total, c.if-work-total.true) in
    (short_work _ _ _ _ _ sound (omega (arith, c.if-path-ne0.false)) c.if-marks-path.false short, work_same _ a.work.now)

pub label-words-requires-clause-total : goal.label-words-requires-clause-total
unfolding answer_of
label-words-requires-clause-total c = contours_total _ _ _ (sym c.in_ok-total.ensures)

pub label-words-requires-clause-count : goal.label-words-requires-clause-count
unfolding answer_of
label-words-requires-clause-count c = (contours_gives _ _ _ _ (sym c.in_ok-total.ensures)).0.contours

pub invariant_of-checked : goal.invariant_of-checked
unfolding answer_of
invariant_of-checked c =
    let sound = sym c.in_ok-total.ensures in
    record { vertices = omega (arith, c.label-words.ensures.total, contours_total _ _ _ sound, (contours_gives _ _ _ _ sound).0.counted) }

pub returns : goal.returns
unfolding answer_of
returns c =
    let a = c.args in
    let ns = a.lengths.now in
    let accepted = sym c.in_ok-total.ensures in
    let sound = contours_pass _ _ _ accepted in
    let even : length a.path.now ≡ 2 * (length a.path.now / 2) = omega (arith, c.if-path-ne0.false) in
    let room : sum ns + length ns ≤ length a.work.now = omega (arith, contours_total _ _ _ accepted, c.if-work-total.false) in (
      c.check_division.ensures.answer (contours_of ns) (c.label-words.ensures.tallied a.marks.now)
          ∙ divided _ _ _ _ _ sound even c.if-marks-path.false room,
      divided_frees _ _ _ _ _ sound even c.if-marks-path.false room a.work.now _,
    )
