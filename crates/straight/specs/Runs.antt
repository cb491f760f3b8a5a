-- The vertices of contours in their senses, by their sizes and by packed contours. Definitions only.
use Rattle.std.specs.Prelude.{Bool, List, [], ◌∷◌, ◌++◌, ℕ, ◌+◌, ◌*◌, ◌≤◌, ◌<◌, eqb, Float, length, get_or}
use Rattle.rules.specs.Tools.{pick, up_from, down_to}
use Rattle.rules.specs.Limits.{most_points}
use Rattle.packed_contours.specs.PackedNumbers.{number_in, first_in}
use Rattle.packed_contours.specs.UnpackedNumbers.{sense_in}

-- the n vertices from `first` on, or from the last of them back
unfoldable pub run : Bool → ℕ → ℕ → List ℕ
run reversed first n = pick reversed (down_to first n) (up_from first n)

-- those of a packed contour, whose size is one of the lengths
unfoldable pub run_of : List ℕ → ℕ → List ℕ
run_of lengths word = run (eqb (sense_in word) 1) (first_in word) (get_or lengths (number_in word) 0)

unfoldable pub runs : List ℕ → List ℕ → List ℕ
runs lengths [] = []
runs lengths (word ∷ words) = run_of lengths word ++ runs lengths words

-- a packed contour whose points are the plate's
pub record Readable (points : List Float) (lengths : List ℕ) (word : ℕ) : Type 0 where
  pub number : number_in word < length lengths
  pub few : first_in word + get_or lengths (number_in word) 0 ≤ most_points
  pub inside : 2 * (first_in word + get_or lengths (number_in word) 0) ≤ length points
