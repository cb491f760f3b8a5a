-- The lead so far, after the contours that are left, is the start's.
use Rattle.std.proofs.Common.{◌≡◌, length}
use Rattle.rules.specs.Tools.{sum}
use Rattle.rules.specs.HandedOver.{plate_of}
use Rattle.rules.specs.Start.{start}
use Rattle.plate_laws.specs.Lists.{All}
use Rattle.start.specs.OrientedContours.{lead_of, LeadIn}
use Rattle.contours.specs.ContoursLeft.{contours_left, WithinCounts}
use Rattle.start.proofs.Ends.{led}
use Rattle.start.proofs.choose_start_contour.Given as goal

abbrev pub invariant-loop-c : goal.invariant-loop-c
invariant-loop-c l = record {
  can : (goal.iterator-loop-c).can_next l.c-iterator;
  ends : (goal.iterator-loop-c).is_finite l.c-iterator;
  inside : LeadIn (length l.input.layers.now) l.lead;
  within : All (WithinCounts (length l.input.lengths.now) (sum l.input.lengths.now)) (contours_left l.c-iterator);
  leads : led (plate_of l.input) l.from l.input.strategy (lead_of l.lead) (contours_left l.c-iterator) ≡ start (plate_of l.input);
}
