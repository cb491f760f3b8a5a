-- A vertex that is not landed on is noted.
use Rattle.std.proofs.Common.{refl}
use Rattle.landings.specs.NextLandings.{read_step_back}
use Rattle.landings.proofs.words.Landings.step_back.Goals as goal

pub returns-clause-holds : goal.returns-clause-holds
returns-clause-holds c = λ S h. read_step_back c.args.self.now _ S c.args.i c.args.v.0 c.requires h refl refl refl refl
