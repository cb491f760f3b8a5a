-- What is queried is on the path, the walk goes back to the place that is found, and what is written is what the rules write.
use mathlib.Core.Path.{◌≡◌, ap, ◌∙◌}
use Prim.Native.Nat.{◌<◌}
use native.Mathlib.Omega.{arith}
use Rattle.rules.specs.GridAndNearest as rules
use Rattle.rules.specs.Marks.{kind_of, landing_kind}
use Rattle.rules.specs.Retrace.{place_in}
use Rattle.contours.specs.ContourOf.{contour_of}
use Rattle.history.specs.History.{points}
use Rattle.history.specs.CutPath.{count_cut, points_cut, ready_cut}
use Rattle.path_points.specs.WriterCalls.{long}
use Rattle.emission.proofs.EnteredSteps.{FoundFor, found_below, enter_full, enter_drawn, adds_err}
use Rattle.emission.proofs.enter.Goals as goal
use Rattle.emission.proofs.enter.Goals.{After-place_in-h, After-landing_mark-landing}

place : (c : After-place_in-h) →
    c.place_in-h.result.0
    ≡ place_in (rules.nearest c.args.writer.now.grid.spatial (points c.args.writer.now.path.now c.args.writer.now.count) c.point_at-q.result)
place c =
    let w = c.args.writer.now in rw (c.place_in-h.ensures, c.nearest.ensures, c.so_far.ensures, points_cut w.path.now w.count (long w c.requires.fits))

below : (c : After-place_in-h) → c.place_in-h.result.0 < c.args.writer.now.count
below c = rw (place c) (found_below _ _ _ c.requires.some)

found : (c : After-landing_mark-landing) →
    FoundFor c.args.points.now.coordinates.now c.args.writer.now.grid.spatial c.args.writer.now.path.now c.args.writer.now.count c.args.entry.0
    c.point_at-q.result c.place_in-h.result.0 (kind_of c.landing_mark-landing.result)
found c =
    let q = c.point_at-q.result in
    record {
      point = c.point_at-q.ensures.point;
      place = place (goal.at.After-landing_mark-landing c).After-place_in-h;
      landing = c.landing_mark-landing.ensures.kind ∙ ap (λ x. landing_kind x q) c.point.ensures;
    }

pub nearest-requires : goal.nearest-requires
nearest-requires c =
    let w = c.args.writer.now in
    let h = long w c.requires.fits in
    let ready = ready_cut w.path.now w.count h w.grid.spatial w.work.now w.count (omega arith) (w.pen.ready c.requires.fits) in
    record {
      ready = rw (c.so_far.ensures, c.work.ensures, count_cut w.path.now w.count h) ready;
      on_plate = c.point_at-q.ensures.on_plate;
    }

pub point-requires : goal.point-requires
point-requires c =
    omega (arith, below (goal.at.point-requires c).After-place_in-h, long c.args.writer.now c.requires.fits)

pub walk_back-requires : goal.walk_back-requires
walk_back-requires c = record { behind = λ _. below (goal.at.walk_back-requires c).After-place_in-h }

pub returns-in_err-walk_back-clause-adds : goal.returns-in_err-walk_back-clause-adds
unfolding contour_of
returns-in_err-walk_back-clause-adds c p e =
    let r = c.requires in
    let at = goal.at.returns-in_err-walk_back-clause-adds c in
    adds_err c.args.writer.now c.walk_back.new.self
    (enter_full (contour_of c.args.c) (found at.After-landing_mark-landing) r.low r.high r.fits r.some p e
    (c.in_err-walk_back.ensures.adds c.args.points.now.coordinates.now) (omega arith))
    _ c.from_residual.ensures.0

pub returns-clause-adds : goal.returns-clause-adds
unfolding contour_of
returns-clause-adds c p e =
    let r = c.requires in
    let at = goal.at.returns-clause-adds c in
    enter_drawn (contour_of c.args.c) (found at.After-landing_mark-landing) r.low r.high r.fits r.some p e
    (c.in_ok-walk_back.ensures.adds c.args.points.now.coordinates.now)
    (rw (c.in_ok-walk_back.ensures.same.room, c.landing_mark-landing.ensures.reference) at c.emit.ensures.adds)
