-- Each contour's words are written, and with the last all are.
use Rattle.std.proofs.Common.{◌≡◌, ◌+◌, ◌≤◌, ◌++◌, length, refl, slice_index_or, arith, add-one, length-append}
use Rattle.rules.specs.Tools.{sum}
use Rattle.path_check.specs.Labels.{labelled_none, next_end, all_labelled, all_tallied}
use Rattle.path_check.specs.FilledRange.{filled}
use Rattle.path_check.specs.TwoParts.{labelled_parts}
use Rattle.path_check.proofs.label.Goals as goal

pub loop-j-init : goal.loop-j-init
unfolding sum
loop-j-init c = record { end = refl; labelled = labelled_none c.args.lengths.now c.args.total _ }

pub loop-j-preserved : goal.loop-j-preserved
loop-j-preserved c =
    let l = c.loop-j in
    let ns = c.args.lengths.now in
    let total = c.args.total in
    let s = c.split_at_mut-vertices.ensures in
    let e = next_end ns total c.requires.total l.j l.v c.loop-j-test.true l.invariant.end in
    let front : length l.vertices ≡ total = omega (arith, l.auto.vertices, s.front_len) in
    let room : total + length ns ≤ length (l.vertices ++ l.contours) = simp length-append (omega (arith, c.requires.room, front, l.auto.contours, s.back_len)) in
    let part = filled l.vertices c.fill.new.self l.v (l.v + slice_index_or ns l.j 0) _ (omega arith) (omega (arith, e.1, front)) (c.fill.ensures.after (λ y z. z)) in
    record {
      end = rw add-one e.0;
      labelled = rw add-one
          (labelled_parts ns total c.requires.total l.j l.v l.vertices _ l.contours c.loop-j-test.true l.invariant.end front room l.invariant.labelled part);
    }

pub invariant_of-result : goal.invariant_of-result
invariant_of-result c =
    let l = c.loop-j in
    let s = c.split_at_mut-vertices.ensures in
    let front : length l.vertices ≡ c.args.total = omega (arith, l.auto.vertices, s.front_len) in
    let room : c.args.total + length c.args.lengths.now ≤ length (l.vertices ++ l.contours) =
    simp length-append (omega (arith, c.requires.room, front, l.auto.contours, s.back_len))
    in
    record { labelled = rw front (all_labelled c.args.lengths.now _ l.j _ c.requires.total c.loop-j-test.false l.invariant.labelled room) }

pub returns-clause-tallied : goal.returns-clause-tallied
returns-clause-tallied c =
    let l = c.loop-j in
    let front : length l.vertices ≡ c.args.total = omega (arith, l.auto.vertices, c.split_at_mut-vertices.ensures.front_len) in
    λ ms. rw front (all_tallied c.args.lengths.now c.args.total l.j _ c.requires.total c.loop-j-test.false l.invariant.labelled ms)
