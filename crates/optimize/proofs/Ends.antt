-- The ends of a contour in both senses. Assumes nothing.
use Rattle.std.proofs.Common.{◌≡◌, refl, Bool, true, false, not, ℕ}
use Rattle.rules.specs.Tools.{pick}

-- the end of a contour is the beginning of the contour in the other sense
pub other_end : (reversed : Bool) (last : ℕ) → pick (not reversed) last 0 ≡ pick reversed 0 last
unfolding pick
other_end true last = refl
other_end false last = refl
