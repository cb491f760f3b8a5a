-- What `same_bits` returns.
use mathlib.Core.Path.{◌∙◌}
use Rattle.std.proofs.lemmas.Float.{T_from_true}
use lib.Ieee.{binary64}
use Rattle.division_laws.specs.SameBits.{same_bits}
use Rattle.bits.proofs.Nans.{nan_same, one_nan}
use Rattle.bits.proofs.same_bits.Goals as goal
use Rattle.bits.proofs.same_bits.Goals.{then-is_nan-via-then-is_nan, then-is_nan-via-else-is_nan+then-is_nan-2}

pub returns-then-is_nan-3 : goal.returns-then-is_nan-3
returns-then-is_nan-3 c = c.is_nan-then-is_nan-3.ensures.value ∙ nan_same c.args.a c.args.b c.if-is_nan-3.ensures.value

pub returns-else-is_nan-3 : goal.returns-else-is_nan-3
returns-else-is_nan-3 c =
    elim c.then-is_nan.branch [
      | then-is_nan-via-then-is_nan w ↦ absurd (cc)
      | then-is_nan-via-else-is_nan+then-is_nan-2 w ↦
          c.if-is_nan-3.false ∙ one_nan c.args.a c.args.b c.if-is_nan-3.ensures.value w.if-is_nan-2.ensures.value
    ]

pub returns : goal.returns
returns c =
    same_bits binary64 c.args.a c.args.b (T_from_true _ c.well_formed.0.1) (T_from_true _ c.well_formed.1.0.1)
