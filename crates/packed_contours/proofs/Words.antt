-- The word that the code makes of a contour, as the definitions have it. Assumes nothing.
use Rattle.std.proofs.Common.{◌≡◌, Bool, false, ℕ, ◌+◌, ◌*◌, arith}
use Rattle.rules.specs.Tools.{pick}
use Rattle.rules.specs.HandedOver.{Contour}
use Rattle.rules.specs.Start.{Oriented}
use Rattle.packed_contours.specs.PackedNumbers.{number_unit, sense_unit, packed, packed_sense}

module _ {number first word : ℕ} {reversed : Bool} where
  pub word_forward : (c : Contour) → number ≡ c.number → first ≡ c.first → reversed ≡ false →
      word ≡ number * number_unit + first + pick reversed sense_unit 0 → word ≡ packed c
  unfolding packed pick
  word_forward c n f r e = let forward = rw r at e in omega (arith, n, f, forward)

  pub word_in_sense : (s : Oriented) → number ≡ s.contour.number → first ≡ s.contour.first → reversed ≡ s.reversed →
      word ≡ number * number_unit + first + pick reversed sense_unit 0 → word ≡ packed_sense s
  unfolding packed_sense packed
  word_in_sense s n f r e = rw (← n, ← f, ← r) e
