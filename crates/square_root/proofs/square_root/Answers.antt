-- `square_root::square_root` meets its contract.
use Rattle.std.proofs.Common.{◌∙◌, ◌*◌, ◌/◌, ◌%◌, ◌^◌, arith}
use Rattle.rounding.specs.Pattern.{not_nan}
use Rattle.rounding.specs.SquareRoot.{radicand_range, root_range, root_zero, root_nonzero}
use Rattle.square_root.specs.PackedRoot.{packed}
use Rattle.square_root.proofs.square_root.Goals as goal

pub returns-then-a-eq0 : goal.returns-then-a-eq0
returns-then-a-eq0 c =
    let a = c.magnitude_of-a in
    root_zero c.args.x a.result.significand a.result.exponent c.requires a.ensures c.if-a-eq0.true

pub wide_root-root-requires : goal.wide_root-root-requires
wide_root-root-requires c =
    let u = c.normalized-b in
    let range = radicand_range u.result.significand u.result.exponent u.ensures.least u.ensures.most in
    record { least = range.least; most = range.below }

pub float_from_bits-result : goal.float_from_bits-result
float_from_bits-result c =
    let u = c.normalized-b in
    let r = c.wide_root-root in
    let range = root_range u.result.significand u.result.exponent r.result u.ensures.least u.ensures.most r.ensures in
    not_nan _ (omega (arith, range.below, u.ensures.range))

pub returns : goal.returns
returns c =
    let a = c.magnitude_of-a in
    let u = c.normalized-b in
    let r = c.wide_root-root in
    let range = root_range u.result.significand u.result.exponent r.result u.ensures.least u.ensures.most r.ensures in
    packed (u.result.significand * 2 ^ (u.result.exponent % 2) % 18446744073709551616) r.result (u.result.exponent / 2) r.ensures range.least range.below (omega (arith, u.ensures.range))
    ∙ root_nonzero u.result.significand u.result.exponent r.result u.ensures.least u.ensures.most r.ensures
    c.args.x a.result.significand a.result.exponent c.requires a.ensures c.if-a-eq0.false u.ensures
