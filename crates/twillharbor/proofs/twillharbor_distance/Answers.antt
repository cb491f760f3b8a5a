-- The call never gives refusal 12, and its answer is told as a struct.
use Rattle.std.proofs.Common.{◌∙◌, sym, ap, subst}
use Rattle.plate_laws.specs.Rows.{Other}
use Rattle.results.specs.Results.{distance_result}
use Rattle.twillharbor.specs.Arguments.{point_of}
use Rattle.twillharbor.specs.Refusals.{distance_other}
use Rattle.twillharbor.proofs.twillharbor_distance.Goals as goal

pub distance_result-requires : goal.distance_result-requires
distance_result-requires c = subst (Other 12) (sym c.distance_call.ensures) (distance_other _ _)

pub returns : goal.returns
unfolding point_of
returns c = c.distance_result.ensures ∙ ap distance_result c.distance_call.ensures
