-- `pack::round_pack` meets its contract: the three ways out are a zero, an infinity and a pattern.
use mathlib.Core.Path.{ap, ◌∙◌}
use Prim.Native.Nat.{ℕ, ◌+◌, ◌*◌}
use native.Mathlib.Nat.{le_trans, le_of_eq}
use native.Mathlib.Omega.{arith}
use lib.Ieee.{binary64, of_bits}
use Rattle.rounding.specs.Pattern.{not_nan}
use Rattle.rounding.specs.Pack.{cut_fits, packs, packs_infinity, packs_zero, significand_fits, bits_most}
use Rattle.pack.proofs.round_pack.Goals as goal

pub overflow_sub-cut : goal.overflow_sub-cut
overflow_sub-cut c =
    omega (arith, cut_fits c.args.q c.args.sticky c.args.e c.ulp_exponent-k.result c.requires.least c.requires.fits c.requires.sticky c.ulp_exponent-k.ensures)

pub returns-then-cut-gt63 : goal.returns-then-cut-gt63
returns-then-cut-gt63 c =
    packs_zero c.args.q c.args.sticky c.args.e c.ulp_exponent-k.result c.requires.least c.requires.fits c.requires.sticky c.ulp_exponent-k.ensures c.if-cut-gt63.true

pub returns-then-k-gt2045 : goal.returns-then-k-gt2045
returns-then-k-gt2045 c =
    packs_infinity c.args.q c.args.sticky c.args.e c.ulp_exponent-k.result c.requires.least c.requires.fits c.requires.sticky c.ulp_exponent-k.ensures c.if-k-gt2045.true

pub float_from_bits-result : goal.float_from_bits-result
float_from_bits-result c =
    let k = c.ulp_exponent-k.result in
    not_nan (k * 4503599627370496 + c.rounded_shift.result)
    (bits_most k c.rounded_shift.result c.if-k-gt2045.false
    (le_trans (le_of_eq c.rounded_shift.ensures) (significand_fits c.args.q c.args.sticky c.args.e k c.requires.least c.requires.fits c.requires.sticky c.ulp_exponent-k.ensures)))

pub returns : goal.returns
returns c =
    let k = c.ulp_exponent-k.result in
    ap (λ (m : ℕ). of_bits binary64 (k * 4503599627370496 + m)) c.rounded_shift.ensures
    ∙ packs c.args.q c.args.sticky c.args.e k c.requires.least c.requires.fits c.requires.sticky c.ulp_exponent-k.ensures c.if-k-gt2045.false
