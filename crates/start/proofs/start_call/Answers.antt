-- The rows that refuse, and behind them what leads.
use Rattle.std.proofs.Common.{◌≡◌, Option, Some, None, sym, ap, ◌∙◌, rules}
use Rattle.std.proofs.lemmas.Result.{err_from_is_err_and}
use Rattle.rules.specs.HandedOver.{answer_of, number_of, place_of, refusal, plate_of, plate_rows}
use Rattle.rules.specs.Calls.{start_or, start_call}
use Rattle.rules.specs.Start.{start}
use Rattle.rules.specs.declared.Input.{Input}
use Rattle.rules.specs.declared.Refusal.TheVariants.{Blank}
use Rattle.plate_laws.specs.Rows.{rows_give, rows_pass, refusal_refuses}
use Rattle.start.specs.OrientedContours.{oriented_of, lead_of}
use Rattle.contours.specs.ContourOf.{contour_of}
use Rattle.start.specs.declared.OrientedContour.{OrientedContour}
use Rattle.start.proofs.start_call.Goals as goal
use Rattle.start.proofs.start_call.Goals.{In_ok-checked}

pub returns-in_err-checked : goal.returns-in_err-checked
unfolding answer_of start_call
returns-in_err-checked c =
    let p = err_from_is_err_and c.from_residual.result c.from_residual.ensures.1 in
    rw (p.1, p.2) (refusal_refuses (plate_rows (plate_of c.args.input.now)) _ _ _ c.in_err-checked.ensures.answer)

-- what is led by is the start's, of what was handed over
behind : (c : In_ok-checked) (lead : Option OrientedContour) → lead_of lead ≡ start (plate_of c.in_ok-checked.checked.input) →
    start_or (lead_of lead) ≡ start_call (plate_of c.args.input.now)
unfolding answer_of start_call
behind c lead e =
    ap start_or (e ∙ ap (λ (i : Input). start (plate_of i)) c.in_ok-checked.ensures.same)
    ∙ sym (rows_pass (plate_rows (plate_of c.args.input.now)) (rows_give _ _ _ (sym c.in_ok-checked.ensures.answer)).0 _)

pub returns-in_err-s : goal.returns-in_err-s
unfolding answer_of number_of place_of refusal start_or lead_of
returns-in_err-s c =
    let p = err_from_is_err_and c.from_residual-in_err-s.result c.from_residual-in_err-s.ensures.1 in
    let none : c.choose_start_contour.result ≡ None = c.in_err-s.ensures.ok_part in
    let blank : c.in_err-s.field-0.0 ≡ Blank = search rules in
    rw (p.1, p.2, blank) (behind (goal.at.returns-in_err-s c).In_ok-checked None (rw none at c.choose_start_contour.ensures))

pub returns : goal.returns
unfolding answer_of start_or lead_of oriented_of contour_of
returns c = behind (goal.at.returns c).In_ok-checked (Some c.in_ok-s.s) (rw c.in_ok-s.ensures.ok_part at c.choose_start_contour.ensures)
