-- All vertices below the highest were landed on, or one was not.
use Rattle.std.proofs.Common.{length, refl, arith}
use Rattle.contour_recovery.specs.ContourRecovery.{recovery_answer, landed}
use Rattle.recovery.specs.VertexPlaces.{count_none}
use Rattle.recovery_laws.specs.LandedVertices.{count_small}
use Rattle.recovery_laws.specs.FirstFailing.{first_pass}
use Rattle.recovery.specs.Rows.{missing}
use Rattle.recovery.proofs.count_vertices.Goals as goal

pub first_missing-requires-clause-most : goal.first_missing-requires-clause-most
first_missing-requires-clause-most c =
    let vs = c.args.landings.now.vertices.now in
    let ms = c.args.marks.now in
    omega (arith, c.vertex_count-count.ensures, count_small ms vs (length vs) (λ j l. c.requires.within j))

pub first_missing-requires-clause-some : goal.first_missing-requires-clause-some
first_missing-requires-clause-some c =
    let vs = c.args.landings.now.vertices.now in
    let ms = c.args.marks.now in
    λ h. count_none ms vs (length vs) (omega (arith, c.vertex_count-count.ensures, h))

pub returns-in-Some-clause-refused : goal.returns-in-Some-clause-refused
unfolding recovery_answer
returns-in-Some-clause-refused c = λ h.
    let vs = c.args.landings.now.vertices.now in
    let ms = c.args.marks.now in
    let f = rw c.vertex_count-count.ensures at (c.in-Some.ensures.found _ _ h) in
    missing ms vs c.in-Some.v f.0 f.1

pub returns-clause-counted : goal.returns-clause-counted
returns-clause-counted c = λ h.
    let vs = c.args.landings.now.vertices.now in
    let ms = c.args.marks.now in
    let e = c.vertex_count-count.ensures in
    let none = rw e at (c.in_default.ensures.none _ _ h refl) in
    (e, first_pass (landed ms vs (length vs)) _ (omega (arith, none)))
