-- The next contour lies within the vertices.
use Rattle.std.proofs.Common.{arith}
use Rattle.contours.specs.ContourOf.{contour_of}
use Rattle.samples.proofs.mark_samples.Goals as goal

pub arc_length_sample_indices-requires : goal.arc_length_sample_indices-requires
unfolding contour_of
arc_length_sample_indices-requires c =
    let a = (rw c.in-Some.ensures.steps at c.loop-c.invariant.marked).ahead in
    record {
      number = omega (arith, c.requires.contours, a);
      within = omega (arith, c.requires.counted, a, c.loop-c.auto.owners);
      few = omega (arith, c.requires.few, c.loop-c.auto.owners);
      points = omega (arith, c.requires.points, c.loop-c.auto.owners);
    }
