-- The vertices before v were landed on.
use Rattle.std.proofs.Common.{Bool, ℕ}
use Rattle.landings.specs.LandedBefore.{LandedBefore}
use Rattle.recovery_laws.specs.FirstFailing.{PassBefore}
use Rattle.recovery.proofs.first_missing.Given as goal

abbrev pub invariant-loop-v : goal.invariant-loop-v
invariant-loop-v l = record { landed : (S : ℕ → Bool) (i : ℕ) → LandedBefore l.landings S i → PassBefore S l.v }
