-- `pack::rounded_shift` meets its contract.
use mathlib.Core.Path.{ap₂, ◌∙◌}
use Prim.Native.Nat.{ℕ, ◌+◌, ◌*◌, ◌/◌, ◌^◌, compare}
use lib.Ieee.{nearest}
use Rattle.rounding.specs.Shift.{shifted_out, one_shifted}
use Rattle.rounding.specs.Pack.{shift_rounds}
use Rattle.pack.proofs.rounded_shift.Goals as goal

pub returns : goal.returns
returns c =
    let q = c.args.q in
    let t = c.args.sticky in
    let cut = c.args.cut in
    c.nearest_even.ensures
    ∙ ap₂ (λ (x y : ℕ). nearest (q / 2 ^ cut) (compare (2 * x + t) y)) (shifted_out q cut c.ranges.q.fits) (one_shifted cut c.requires.cut)
    ∙ shift_rounds q t cut c.requires.sticky
