-- `run_grid_c::query_all`: what a query asks for, and one more answer is written.
use Rattle.std.proofs.Common.{ap, ◌∙◌, ◌/◌, arith, length}
use Rattle.rules.specs.SamplesAndCache.{ask_path}
use Rattle.plate_laws.specs.AcceptedInput.{point_on}
use Rattle.run_grid_c.specs.Results.{place_number, squared_number}
use Rattle.run_grid_c.proofs.AnswerRange.{answer_below}
use Rattle.run_grid_c.proofs.WriteLoop.{writing_start, writing_next}
use Rattle.run_grid_c.proofs.query_all.Goals as goal

pub loop-v-init : goal.loop-v-init
loop-v-init c = (writing_start _ _ _, writing_start _ _ _)

pub nearest-answer-requires : goal.nearest-answer-requires
nearest-answer-requires c =
    let on = point_on c.args.points.now c.loop-v.v c.requires.on_plate (omega arith) in
    record { ready = c.requires.ready; on_plate = rw c.point_at-q.ensures on }

pub place_number-requires : goal.place_number-requires
unfolding ask_path
place_number-requires c =
    let below = answer_below c.args.g.spatial c.args.points.now c.args.path.now (length c.args.path.now / 2) c.loop-v.v in
    rw (c.nearest-answer.ensures, c.point_at-q.ensures) (omega (arith, below, c.requires.small_path))

pub loop-v-preserved : goal.loop-v-preserved
unfolding ask_path
loop-v-preserved c =
    let l = c.loop-v in
    let t = c.loop-v-test.true in
    let p = c.point_at-q.ensures in
    let a = c.nearest-answer.ensures in (
      writing_next _ _ _ _ l.v l.invariant.0 c.requires.places_room t _ (c.place_number.ensures ∙ ap place_number (rw (a, p))),
      writing_next _ _ _ _ l.v l.invariant.1 c.requires.squared_room t _ (c.squared_number.ensures ∙ ap squared_number (rw (a, p))),
    )
