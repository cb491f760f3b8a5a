-- One cut more is put behind the last.
use Rattle.std.proofs.Common.{◌≡◌, ◌+◌, ◌-◌, ◌++◌, map, ap, ◌∙◌, arith}
use Rattle.rules.specs.Tools.{down_to}
use Rattle.rules.specs.Marks.{cut_down}
use Rattle.path_points.specs.WriterCalls.{by_then, by_full}
use Rattle.emission.proofs.DrawnByCalls.{down_to_more, down_to_rest}
use Rattle.emission.proofs.cut_down.Goals as goal

pub loop-i-preserved : goal.loop-i-preserved
unfolding cut_down
loop-i-preserved c =
    let v = c.args.v.0 in
    let n = c.args.n in
    let i = c.loop-i.i in
    let k = c.in_ok-cut.ensures in
    by_then c.loop-i.invariant k.same k.written k.adds (down_to_more v n (i - 1) i (omega (arith, c.loop-i-test.true)) c.loop-i.auto.i)

pub returns-in_err-cut-clause-adds : goal.returns-in_err-cut-clause-adds
unfolding cut_down
returns-in_err-cut-clause-adds c =
    let v = c.args.v.0 in
    let n = c.args.n in
    let i = c.loop-i.i in
    let j = i - 1 in
    let k = c.in_err-cut in
    let rest = map cut_down (down_to v j) in
    by_full (λ ss. rest) c.loop-i.invariant k.ensures.same k.ensures.adds
    (λ ss. down_to_rest v n j (omega (arith, c.loop-i.auto.i)) ss ∙ ap (λ r. r ++ rest) (down_to_more v n j i (omega (arith, c.loop-i-test.true)) c.loop-i.auto.i ss))
    _ c.from_residual.ensures.0

pub returns-clause-adds : goal.returns-clause-adds
returns-clause-adds c =
    let e : c.loop-i.i ≡ 0 = omega (arith, c.loop-i-test.false) in
    let a : c.args.v.0 + 0 ≡ c.args.v.0 = omega arith in
    let b : c.args.n - 0 ≡ c.args.n = omega arith in
    rw (e, a, b) at c.loop-i.invariant.adds
