-- `point::distance_call` meets its contract.
use Rattle.std.proofs.Common.{[], ◌∷◌, sym}
use Rattle.std.specs.Prelude.{Float}
use Rattle.std.specs.Float.Ieee.{of_bits}
use Rattle.std.proofs.lemmas.Result.{err_from_is_err_and}
use Rattle.rules.specs.HandedOver.{answer_of, gives, distance_limit, out_of_range}
use Rattle.rules.specs.Calls.{distance_call}
use Rattle.rules.specs.Distances.{distance_squared, distance}
use Rattle.plate_laws.specs.Rows.{rows_give, rows_pass, refusal_refuses}
use Rattle.point.proofs.distance_call.Goals as goal

pub returns-in_err-check_range : goal.returns-in_err-check_range
unfolding answer_of distance_limit of_bits distance_call
returns-in_err-check_range c =
    let p = err_from_is_err_and c.from_residual.result c.from_residual.ensures.1 in
    rw (p.1, p.2) (refusal_refuses _ _ tt _ c.in_err-check_range.ensures)

pub returns : goal.returns
unfolding answer_of distance_limit of_bits distance_call
returns c =
    let rs = out_of_range distance_limit (c.args.a.x ∷ c.args.a.y ∷ c.args.b.x ∷ c.args.b.y ∷ []) ∷ [] in
    let on = rows_give rs (gives tt) _ (sym c.in_ok-check_range.ensures) in
    let both : Float × Float = (distance_squared c.args.a c.args.b, distance c.args.a c.args.b) in
    simp (rows_pass rs on.0 (gives both)) (cc)
