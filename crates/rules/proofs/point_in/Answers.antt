use Rattle.std.proofs.Common.{refl}
use Rattle.rules.specs.HandedOver.{at}
use Rattle.rules.proofs.point_in.Goals as goal

pub returns : goal.returns
unfolding at
returns c = refl
