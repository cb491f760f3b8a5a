-- One cut more is put behind the last.
use Rattle.std.proofs.Common.{◌≡◌, ◌+◌, ◌-◌, ◌++◌, map, ap, ◌∙◌, arith}
use Rattle.rules.specs.Tools.{up_from}
use Rattle.rules.specs.Marks.{cut_up}
use Rattle.path_points.specs.WriterCalls.{by_then, by_full}
use Rattle.emission.proofs.DrawnByCalls.{up_to_more, up_to_rest}
use Rattle.emission.proofs.cut_up.Goals as goal

pub loop-i-preserved : goal.loop-i-preserved
loop-i-preserved c =
    let v = c.args.v.0 in
    let i = c.loop-i.i in
    let k = c.in_ok-cut.ensures in
    by_then c.loop-i.invariant k.same k.written k.adds (up_to_more v i)

pub returns-in_err-cut-clause-adds : goal.returns-in_err-cut-clause-adds
returns-in_err-cut-clause-adds c =
    let v = c.args.v.0 in
    let n = c.args.n in
    let i = c.loop-i.i in
    let k = c.in_err-cut in
    let rest = map cut_up (up_from (v + (i + 1)) (n - (i + 1))) in
    by_full (λ ss. rest) c.loop-i.invariant k.ensures.same k.ensures.adds (λ ss. up_to_rest v (i + 1) n (omega (arith, c.loop-i-test.true)) ss ∙ ap (λ r. r ++ rest) (up_to_more v i ss))
    _ c.from_residual.ensures.0

pub returns-clause-adds : goal.returns-clause-adds
returns-clause-adds c =
    let e : c.args.n ≡ c.loop-i.i = omega (arith, c.loop-i-test.false, c.loop-i.auto.i-end) in
    rw e c.loop-i.invariant.adds
