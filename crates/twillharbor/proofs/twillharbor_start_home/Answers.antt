-- The call never gives refusal 12.
use Rattle.std.proofs.Common.{sym, subst}
use Rattle.plate_laws.specs.Rows.{Other}
use Rattle.twillharbor.specs.Refusals.{start_other}
use Rattle.twillharbor.proofs.twillharbor_start_home.Goals as goal

pub start_result-requires : goal.start_result-requires
start_result-requires c = subst (Other 12) (sym c.start_call.ensures) (start_other _)
