-- The call never gives refusal 12.
use Rattle.std.proofs.Common.{sym, subst}
use Rattle.plate_laws.specs.Rows.{Other}
use Rattle.twillharbor.specs.Refusals.{read_other}
use Rattle.twillharbor.proofs.twillharbor_read_file.Goals as goal

pub read_result-requires : goal.read_result-requires
read_result-requires c = subst (Other 12) (sym c.read_file.ensures.answer) (read_other _ _)
