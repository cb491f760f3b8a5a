-- `history::clear`: a cleared head ends its chain.
use Rattle.std.proofs.Common.{arith}
use Rattle.rules.specs.Limits.{most_cells}
use Rattle.chains.specs.Chains.{chained_none}
use Rattle.history.proofs.clear.Goals as goal

pub returns : goal.returns
returns c =
    let k = c.clear.ensures in
    record {
      length = c.clear.auto.work;
      empty = λ cell. chained_none _ _ most_cells cell (λ b l. k.zeros b (omega arith) l);
      kept = λ i l. k.above i l;
    }
