-- The first vertex is marked before the walk, and a turn marks one vertex more.
use Rattle.std.proofs.Common.{ap, arith}
use Rattle.std.proofs.Math.ListN.{length-set}
use Rattle.std.proofs.Math.Seq.{get_or-set_same}
use Rattle.std.specs.Float.{binary64}
use Rattle.std.specs.Float.Ieee.{of_bits, add}
use Rattle.samples.proofs.SampleWalk.{walk_start, walk_step, walk_done}
use Rattle.samples.proofs.arc_length_sample_indices.Goals as goal

pub loop-i-init : goal.loop-i-init
unfolding of_bits
loop-i-init c =
    walk_start (simp length-set c.requires.within) (get_or-set_same c.args.owners.now c.args.c.first.0 _ 0 (omega (arith, c.requires.within)))

pub loop-i-preserved : goal.loop-i-preserved
loop-i-preserved c =
    let l = c.loop-i in
    walk_step (simp length-set c.requires.within) l.invariant
    c.loop-i-test.true (ap (add binary64 l.total) c.segment-total.ensures)
    c.is_sample-sample.ensures c.carried-total.ensures c.owner_if.ensures

pub returns : goal.returns
returns c = walk_done _ _ _ _ c.args.c _ _ c.loop-i.invariant c.loop-i-test.false
