-- A vertex that is landed on gets its flag, or a place in its chain.
use Rattle.std.proofs.Common.{refl}
use Rattle.landings.specs.NextLandings.{read_near, read_far}
use Rattle.landings.proofs.words.Landings.land.Goals as goal

pub returns-then-vertex-count-clause-holds : goal.returns-then-vertex-count-clause-holds
returns-then-vertex-count-clause-holds c =
    let a = c.args in
    λ S h. read_near a.self.now _ S a.i a.v.0 c.requires.place h refl refl refl c.if-vertex-count.true refl

pub returns-clause-holds : goal.returns-clause-holds
returns-clause-holds c =
    let a = c.args in
    λ S h. read_far a.self.now _ S a.i a.v.0 c.requires.place h refl c.if-vertex-count.false refl refl refl
