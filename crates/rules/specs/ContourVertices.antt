-- A vertex is one of a contour's or none of them, and never both. Assumes nothing.
use Rattle.std.specs.Prelude.{◌⊎◌, ◌+◌, ◌≤◌, ℕ}
use Rattle.std.proofs.Common.{inl, inr, arith}
use Rattle.std.proofs.Math.Decide.{dec_le}
use Rattle.rules.specs.HandedOver.{Contour}
use Rattle.rules.specs.Contours.{Of, NotOf}

pub one_or_none : (c : Contour) (v : ℕ) → Of c v ⊎ NotOf c v
one_or_none c v = go (dec_le c.first v) (dec_le v (c.first + c.last))
  where
    go : Dec (c.first ≤ v) → Dec (v ≤ c.first + c.last) → Of c v ⊎ NotOf c v
    go (yes f) (yes l) = inl (omega (arith, f), omega (arith, l))
    go (no f) l = inr (inl (omega (arith, f)))
    go (yes f) (no l) = inr (inr (omega (arith, l)))

pub never_both : (c : Contour) (v : ℕ) → Of c v → NotOf c v → ⊥
never_both c v (f, l) (inl x) = omega (arith, f, x)
never_both c v (f, l) (inr x) = omega (arith, l, x)
