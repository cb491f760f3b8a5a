-- A vertex that has a flag, by the flag.
use Rattle.std.proofs.Common.{◌≡◌, refl, Bool, true, false, ℕ, eqb}
use mathlib.Core.Bool.{not}
use Rattle.rules.specs.Tools.{pick}
use Rattle.landings.proofs.words.Landings.has_landed.Goals as goal

flagged : (flag : ℕ) (b : Bool) → flag ≡ pick b 1 0 → not (eqb flag 0) ≡ b
unfolding pick
flagged flag true e = rw e refl
flagged flag false e = rw e refl

pub returns-then-vertex-self : goal.returns-then-vertex-self
returns-then-vertex-self c = λ S i h. flagged _ _ (h.near c.args.v.0 c.if-vertex-self.true)
