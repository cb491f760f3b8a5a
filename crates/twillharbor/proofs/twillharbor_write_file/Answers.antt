-- The call never gives refusal 12.
use Rattle.std.proofs.Common.{sym, subst}
use Rattle.plate_laws.specs.Rows.{Other}
use Rattle.twillharbor.specs.Refusals.{write_other}
use Rattle.twillharbor.proofs.twillharbor_write_file.Goals as goal

pub write_result-requires : goal.write_result-requires
write_result-requires c = subst (Other 12) (sym c.write_file.ensures.answer) (write_other _ _)
