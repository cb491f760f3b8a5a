-- What an entry says of the sense of a packed contour. Definitions only.
use Rattle.std.specs.Prelude.{ℕ}
use Rattle.rules.specs.Tools.{pick}
use Rattle.packed_contours.specs.UnpackedNumbers.{reversed_in}

-- 1 if it is reversed, else 0
abbrev pub told_sense : ℕ → ℕ
told_sense word = pick (reversed_in word) 1 0
