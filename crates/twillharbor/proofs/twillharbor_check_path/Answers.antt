-- The struct tells the check's answer: the number 0 that the marks divide the path, and 12 where the first fault is.
use Rattle.std.proofs.Common.{◌∙◌, length, sym, ap, arith}
use Rattle.rules.specs.HandedOver.{refuses}
use Rattle.statement.specs.PathCheck.{CheckDecides, CheckPlaces}
use Rattle.division.specs.Theorem.{check_decides, check_places}
use Rattle.results.specs.Results.{check_result}
use Rattle.results.specs.Refusals.{number, place, told_accepted, told_place}
use Rattle.twillharbor.proofs.twillharbor_check_path.Goals as goal

pub returns : goal.returns
unfolding CheckDecides CheckPlaces
returns c =
    let xs = c.args.points.now in
    let ns = c.args.lengths.now in
    let path = c.args.path.now in
    let ms = c.args.marks.now in
    let w = length c.args.work.now in
    let answer = c.check_path.result in
    let e = c.check_path.ensures in
    let r = c.check_result.ensures in (
      r ∙ ap check_result e.0,
      e.1,
      λ z. ((check_decides xs ns path ms w).0 (sym e.0 ∙ told_accepted answer (sym (ap number r) ∙ z))).1,
      λ z. ((check_places xs ns path ms w _).0
          (sym e.0 ∙ told_place answer 12 (omega arith) (sym (ap number r) ∙ z) ∙ ap (refuses 12) (sym (ap place r)))).1,
    )
