-- A turn draws one contour more.
use Rattle.std.proofs.Common.{◌≡◌, List, ℕ, ◌/◌, Float, length, take, get_or, refl, sym, ap, ◌∙◌}
use Rattle.std.proofs.Math.Seq.{take_all}
use Rattle.rules.specs.HandedOver.{over}
use Rattle.rules.specs.Marks.{coordinates}
use Rattle.plate_laws.specs.OrderTotals.{run_length}
use Rattle.slices.specs.Pairs.{coordinates_take}
use Rattle.straight.specs.Runs.{run, run_of, runs}
use Rattle.straight.proofs.PathSoFar.{drawn_none, drawn_more, runs_next}
use Rattle.straight.proofs.write_contours.Goals as goal

pub loop-word-init : goal.loop-word-init
unfolding runs
loop-word-init c = drawn_none _ _

pub loop-word-preserved : goal.loop-word-preserved
unfolding run_of run
loop-word-preserved c =
    let l = c.loop-word in
    let ns = c.args.lengths.now in
    let ws = c.args.words.now in
    let e = c.write-count.ensures in
    let w = get_or ws l.word-index 0 in
    let f = c.from-packed.ensures in
    let packed = c.from-packed.result in
    let size = get_or ns packed.number 0 in
    let drawn : run_of ns w ≡ run packed.reversed packed.first.0 size = rw (f.number, f.first, f.reversed) refl in
    rw (runs_next ns ws l.word-index c.loop-word-test.true, drawn)
    (drawn_more c.args.points.now (runs ns (take l.word-index ws)) c.args.path.now l.path l.count l.invariant
    (run packed.reversed packed.first.0 size) c.write-count.result c.write-count.new.part (rw (run_length packed.reversed packed.first.0 size) e.count) e.written)

pub returns : goal.returns
returns c =
    let l = c.loop-word in
    let a = c.args in
    let room = length a.path.now / 2 in
    let ws = take_all l.word-index a.words.now c.loop-word-test.false in
    l.invariant.written
    ∙ ap (λ (vs : List Float). over vs a.path.now) (ap (λ (us : List ℕ). coordinates a.points.now (take room (runs a.lengths.now us))) ws
    ∙ sym (coordinates_take a.points.now room (runs a.lengths.now a.words.now)))
