-- The call never gives refusal 12.
use Rattle.std.proofs.Common.{sym, subst}
use Rattle.plate_laws.specs.Rows.{Other}
use Rattle.twillharbor.specs.Refusals.{straight_other}
use Rattle.twillharbor.proofs.twillharbor_straight.Goals as goal

pub straight_result-requires : goal.straight_result-requires
straight_result-requires c = subst (Other 12) (sym c.straight_call.ensures.answer) (straight_other _ _ _)
