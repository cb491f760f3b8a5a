-- Refusal 6, or all is written.
use Rattle.std.proofs.Common.{ℕ, List, refl, ◌∙◌, ap, length, arith}
use Rattle.rules.specs.HandedOver.{written, over}
use Rattle.contour_recovery.specs.ContourRecovery.{is_segment_cut, recovery_answer, recovered_lengths}
use Rattle.recovery_laws.specs.Runs.{runs_most}
use Rattle.recovery_parts.specs.Outcome.{flagged_recovered, roomy, points_full, lengths_full, all_fit}
use Rattle.recovery_parts.proofs.write_contours.Goals as goal
use Rattle.recovery_parts.proofs.write_contours.Goals.{then-points-count-via-then-points-count, then-points-count-via-else-points-count+then-lengths-contours}

pub returns-then-points-count : goal.returns-then-points-count
unfolding roomy recovery_answer written
returns-then-points-count c =
    let a = c.args in
    let n = length a.vertices.now in
    let m = length a.flags.now in
    let runs = flagged_recovered a.marks.now c.flag_cuts.new.flags m c.flag_cuts.ensures.same c.flag_cuts.ensures.flags in
    let counted = c.count_contours-contours.ensures ∙ ap length runs in
    elim c.then-points-count.branch [
      | then-points-count-via-then-points-count w ↦
          let full = points_full a.path.now a.marks.now a.vertices.now n m (length a.points.now) (length a.lengths.now) w.if-points-count.true in
          rw full (refl, refl, refl)
      | then-points-count-via-else-points-count+then-lengths-contours w ↦
          let full = lengths_full a.path.now a.marks.now a.vertices.now n m (length a.points.now) (length a.lengths.now) w.if-points-count.false (omega (arith, w.if-lengths-contours.true, counted)) in
          rw full (refl, refl, refl)
    ]

pub overflow_cast-result-2 : goal.overflow_cast-result-2
unfolding recovered_lengths
overflow_cast-result-2 c =
    let a = c.args in
    let m = length a.flags.now in
    let runs = flagged_recovered a.marks.now c.flag_cuts.new.flags m c.flag_cuts.ensures.same c.flag_cuts.ensures.flags in
    let counted = c.count_contours-contours.ensures ∙ ap length runs in
    omega (arith, counted, c.requires.most, runs_most (is_segment_cut a.marks.now) 0 m)

pub returns : goal.returns
unfolding roomy recovery_answer written
returns c =
    let a = c.args in
    let n = length a.vertices.now in
    let m = length a.flags.now in
    let runs = flagged_recovered a.marks.now c.flag_cuts.new.flags m c.flag_cuts.ensures.same c.flag_cuts.ensures.flags in
    let counted = c.count_contours-contours.ensures ∙ ap length runs in
    let fit = all_fit a.path.now a.marks.now a.vertices.now n m (length a.points.now) (length a.lengths.now) c.if-points-count.false (omega (arith, c.if-lengths-contours.false, counted)) in
    rw (fit, counted) (
      refl,
      rw c.requires.count c.put_points.ensures,
      c.put_lengths.ensures ∙ ap (λ (ns : List ℕ). over ns a.lengths.now) runs,
    )
