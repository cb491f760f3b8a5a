-- `caches::improve` meets its contract. Assumes nothing.
use Rattle.caches.proofs.Replaces.{replaces, keeps_near, keeps_none}
use Rattle.caches.proofs.improve.Goals as goal

pub returns-then-d-distances : goal.returns-then-d-distances
returns-then-d-distances c = replaces _ _ _ _ _ c.in-Found.is c.if-d-distances.true

pub returns-else-d-distances : goal.returns-else-d-distances
returns-else-d-distances c = keeps_near _ _ _ _ _ c.in-Found.is c.if-d-distances.false

pub returns-in_default : goal.returns-in_default
returns-in_default c = keeps_none _ _ _ _ _ c.in_default.is
