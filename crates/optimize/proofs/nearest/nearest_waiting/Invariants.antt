-- The choice so far, after the contours that are left, is the foremost, and `lowest` is its layer.
use Rattle.std.proofs.Common.{List, map, drop, ◌≡◌}
use Rattle.rules.specs.Tools.{foremost}
use Rattle.rules.specs.HandedOver.{Contour, plate_of}
use Rattle.rules.specs.Start.{layer_of}
use Rattle.rules.specs.OrderAndStraight.{nearer_sense, nearer_end}
use Rattle.plate_laws.specs.Lists.{All}
use Rattle.packed_contours.specs.PackedNumbers.{packed, InLengths}
use Rattle.optimize.specs.Choice.{choice_of, lowest_of, ChoiceStands}
use Rattle.optimize.proofs.Scan.{scanned}
use Rattle.optimize.proofs.nearest.nearest_waiting.Given as goal

abbrev pub invariant-loop-i : goal.invariant-loop-i
invariant-loop-i l =
    let p = plate_of l.input in
    record {
      place : ChoiceStands l.waiting l.i l.best;
      lowest : l.lowest ≡ lowest_of p (choice_of l.best);
      choice : (cs : List Contour) → l.waiting ≡ map packed cs → All (InLengths l.input.lengths.now) cs →
          scanned p l.q (choice_of l.best) (drop l.i cs) ≡ foremost (layer_of p) nearer_end (map (nearer_sense p l.q) cs);
    }
