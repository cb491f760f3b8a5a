-- The call never gives refusal 12, and the struct tells what its answer for the plate promises.
use Rattle.std.proofs.Common.{sym, subst}
use Rattle.plate_laws.specs.Rows.{Other}
use Rattle.twillharbor.specs.Refusals.{retrace_other}
use Rattle.twillharbor.specs.StructAnswers.{told}
use Rattle.twillharbor.proofs.twillharbor_retrace.Goals as goal

pub retrace_result-requires : goal.retrace_result-requires
retrace_result-requires c = subst (Other 12) (sym c.retrace_call.ensures.answer) (retrace_other _ _ _ _ _)

pub returns : goal.returns
returns c =
    let e = rw c.sized-input.ensures at c.retrace_call.ensures in
    told c.retrace_call.result _ c.retrace_result.ensures e
