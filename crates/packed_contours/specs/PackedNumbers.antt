-- A contour as one u32 of the work slice: its number (below 4,096) and its first vertex (below 65,536), and above them whether it is reversed.
-- Definitions only.
use Rattle.std.specs.Prelude.{◌≡◌, List, ℕ, ◌+◌, ◌*◌, ◌/◌, ◌%◌, ◌<◌, length, get_or}
use Rattle.rules.specs.Tools.{pick, sum}
use Rattle.rules.specs.Limits.{most_contours, most_points}
use Rattle.rules.specs.HandedOver.{Contour}
use Rattle.rules.specs.Start.{Oriented}

-- what the number of a contour, and whether it is reversed, count in a word
abbrev pub number_unit : ℕ
number_unit = 65536

abbrev pub sense_unit : ℕ
sense_unit = 268435456

unfoldable pub packed : Contour → ℕ
packed c = c.number * number_unit + c.first

unfoldable pub packed_sense : Oriented → ℕ
packed_sense s = packed s.contour + pick s.reversed sense_unit 0

-- the number and the first vertex of a packed contour
abbrev pub number_in : ℕ → ℕ
number_in word = word % sense_unit / number_unit

abbrev pub first_in : ℕ → ℕ
first_in word = word % number_unit

-- c is a contour of a list of lengths, within the limits
pub record InLengths (ns : List ℕ) (c : Contour) : Type 0 where
  pub listed : c.number < length ns
  pub few : c.number < most_contours
  pub long : get_or ns c.number 0 ≡ c.last + 1
  pub inside : c.first + c.last < sum ns
  pub small : c.first + c.last < most_points
