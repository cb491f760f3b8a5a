-- `grid::polyline_bounding_box`: the loop, step by step, and its end.
use Rattle.std.proofs.Common.{sym, ap, ◌∙◌, arith}
use Rattle.std.specs.Slice.Iter.{chunks_exact_rest, chunks_exact_size}
use lib.Ieee.{of_bits, neg, div}
use Rattle.rules.specs.Box.{box, box_from}
use Rattle.grid.proofs.BoxReading.{box_pair, box_short}
use Rattle.grid.proofs.polyline_bounding_box.Goals as goal

pub loop-pair-init : goal.loop-pair-init
unfolding box of_bits neg div
loop-pair-init c =
    let e = c.into_iter-pair-iterator.ensures.into_iter_gives in
    let k = c.chunks_exact-pair-items.ensures in
    (ap chunks_exact_size e ∙ k.size, ap (box_from _) (sym (ap chunks_exact_rest e ∙ k.rest)))

pub loop-pair-preserved : goal.loop-pair-preserved
loop-pair-preserved c =
    let l = c.loop-pair in
    let s = c.in-Some.ensures.steps in (
      s.0 ∙ l.invariant.0,
      rw c.widened-b.ensures (l.invariant.1 ∙ ap (box_from l.b) s.1.0 ∙ box_pair l.b c.in-Some.pair.now _ (s.1.1 ∙ l.invariant.0)),
    )

pub returns : goal.returns
returns c =
    let l = c.loop-pair in
    let s = c.in-None.ensures.steps in
    sym (l.invariant.1 ∙ box_short l.b _ (omega (arith, s.1.0, l.invariant.0)))
