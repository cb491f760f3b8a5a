-- The path points before i keep the rules; the words alone change.
use Rattle.std.proofs.Common.{◌≡◌, List, ◌-◌, ◌/◌, length}
use Rattle.rules.specs.Tools.{first_failing}
use Rattle.rules.specs.HandedOver.{Contour}
use Rattle.statement.specs.PathCheck.{keeps_rules}
use Rattle.path_rules.specs.Parts.{TalliedBy, SameWords}
use Rattle.path_check.proofs.first_failing.Given as goal

abbrev pub invariant-loop-i : goal.invariant-loop-i
invariant-loop-i l =
    let start = l.initial.checked in
    let n = length start.path.now / 2 in
    record {
      points : l.checked.points.now ≡ start.points.now;
      path : l.checked.path.now ≡ start.path.now;
      marks : l.checked.marks.now ≡ start.marks.now;
      same : SameWords start.words l.checked.words;
      kept : (cs : List Contour) → TalliedBy cs start.words start.marks.now 0 →
          (let test = keeps_rules cs start.points.now start.path.now start.marks.now in
          first_failing test 0 n ≡ first_failing test l.i (n - l.i))
          × TalliedBy cs l.checked.words start.marks.now l.i;
    }
