-- The path points before i keep the rules; the words alone change.
use Rattle.std.proofs.Common.{◌≡◌}
use Rattle.landings.specs.LandedBefore.{SameParts}
use Rattle.path_vertices.specs.ReadTo.{ReadTo}
use Rattle.path_vertices.proofs.first_inconsistent.Given as goal

abbrev pub invariant-loop-i : goal.invariant-loop-i
invariant-loop-i l =
    let start = l.initial.marked in
    record {
      path : l.marked.path.now ≡ start.path.now;
      marks : l.marked.marks.now ≡ start.marks.now;
      same : SameParts start.landings l.marked.landings;
      read : ReadTo l.marked.landings start.path.now start.marks.now l.i;
    }
