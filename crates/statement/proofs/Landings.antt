-- What is no landing.
use Rattle.std.specs.Prelude.{ℕ, ◌≤◌}
use Rattle.std.proofs.Common.{inl, inr, arith}
use Rattle.statement.specs.Division.{IsJumpOrTouch}

-- a start, a cut and a back-step are no landings
pub no_landing : {kind : ℕ} → kind ≤ 2 → IsJumpOrTouch kind → ⊥
no_landing h (inl e) = omega (arith, e)
no_landing h (inr e) = omega (arith, e)
