-- The rest of the chain is still to be walked.
use Rattle.std.proofs.Common.{◌≡◌, ◌≤◌, length}
use Rattle.landings.specs.Chain.{on_chain}
use Rattle.landings.proofs.words.Landings.is_chained.Given as goal

abbrev pub invariant-loop-cursor : goal.invariant-loop-cursor
invariant-loop-cursor l =
    let w = l.self in
    record {
      within : l.cursor ≤ length w.vertices.now;
      rest : on_chain w.vertices.now w.links.now l.v.0 l.cursor ≡ on_chain w.vertices.now w.links.now l.v.0 l.initial.cursor;
    }

abbrev pub decreases-loop-cursor : goal.decreases-loop-cursor
decreases-loop-cursor l = l.cursor
