-- The call never gives refusal 12.
use Rattle.std.proofs.Common.{sym, subst}
use Rattle.plate_laws.specs.Rows.{Other}
use Rattle.twillharbor.specs.Refusals.{order_other}
use Rattle.twillharbor.proofs.twillharbor_order_home.Goals as goal

pub order_result-requires : goal.order_result-requires
order_result-requires c = subst (Other 12) (sym c.order_call.ensures.answer) (order_other _ _ _)
