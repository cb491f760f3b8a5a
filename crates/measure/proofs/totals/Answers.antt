-- The totals of one path point after the other.
use Rattle.std.proofs.Common.{◌≡◌, suc, ◌/◌, ◌≤◌, length, sym, ◌∙◌, add-one, arith}
use Rattle.length_laws.specs.RunningTotals.{so_far_within}
use Rattle.measure.proofs.TotalsByPoint.{none_is, short, within_more, totals_start, totals_step, totals_end}
use Rattle.measure.proofs.totals.Goals as goal

pub loop-k-init : goal.loop-k-init
loop-k-init c =
    let d = c.default.ensures.1 in
    let none = none_is c.default.result c.args.n (d.0, d.1.0, d.1.1.0, d.1.1.1.0, d.1.1.1.1.0, d.1.1.1.1.1.0, d.1.1.1.1.1.1) in
    record { kept = λ i h. absurd (omega arith); counted = none ∙ sym (totals_start _ _ _ c.requires.walked) }

pub measured-length-requires : goal.measured-length-requires
measured-length-requires c =
    let half : length c.args.path.now / 2 ≡ c.args.n = omega (arith, c.requires.walked.whole) in
    let room : c.args.n ≤ length c.loop-k.kept = omega arith in
    rw half (record { walked = c.requires.walked; pair = omega arith; room = room; kept = c.loop-k.invariant.kept })

pub add-requires : goal.add-requires
add-requires c =
    let l = c.loop-k in
    let fits = short c.measured-length.new.kept _ l.k (λ i h. c.measured-length.ensures.kept i (omega arith)) (λ i. omega (arith, c.type_inv.kept i)) in
    rw l.invariant.counted (within_more _ (suc l.k) _ (omega arith) (so_far_within _ (suc l.k) _ _ fits))

pub loop-k-preserved : goal.loop-k-preserved
loop-k-preserved c =
    let l = c.loop-k in
    record {
      kept = rw add-one c.measured-length.ensures.kept;
      counted =
          rw (add-one, c.add.ensures, l.invariant.counted, c.measured-length.ensures.length)
          (sym (totals_step _ _ _ c.requires.walked l.k (omega arith)));
    }

pub returns : goal.returns
returns c = c.loop-k.invariant.counted ∙ totals_end _ _ _ c.requires.walked c.loop-k.k (omega arith)
