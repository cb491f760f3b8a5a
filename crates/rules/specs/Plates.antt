-- How rows write plates down: numbers, points, contours and pairs of numbers. Definitions only.
use Rattle.std.specs.Prelude.{ℕ, ◌^◌, false, List, [], ◌∷◌, ◌++◌, map, pos, length, replicate, Float}
use Rattle.std.specs.Float.{binary64}
use Rattle.std.specs.Float.Ieee.{round, of_int}
use Rattle.rules.specs.HandedOver.{Plate, plate}
use Rattle.rules.specs.declared.StartPointStrategy.{StartPointStrategy}

-- n, n / 10^k and n / 2^k, each as the nearest float
unfoldable pub whole : ℕ → Float
whole n = of_int binary64 (pos n)

unfoldable pub decimal : ℕ → ℕ → Float
decimal n k = round binary64 false n (10 ^ k)

unfoldable pub binary : ℕ → ℕ → Float
binary n k = round binary64 false n (2 ^ k)

unfoldable pub tenths : ℕ → Float
tenths n = decimal n 1

-- contours between bars
infixr 2 ◌∣◌
unfoldable pub ◌∣◌ : List (ℕ × ℕ) → List (List (ℕ × ℕ)) → List (List (ℕ × ℕ))
c ∣ cs = c ∷ cs

-- points (x, y), in some unit, as an f64 slice has them
unfoldable pub along : (ℕ → Float) → List (ℕ × ℕ) → List Float
along unit [] = []
along unit (p ∷ ps) = unit p.0 ∷ unit p.1 ∷ along unit ps

unfoldable pub points_of : (ℕ → Float) → List (List (ℕ × ℕ)) → List Float
points_of unit [] = []
points_of unit (c ∷ cs) = along unit c ++ points_of unit cs

-- contours drawn in some unit, in one layer; width by height
unfoldable pub drawn : (ℕ → Float) → List (List (ℕ × ℕ)) → ℕ → ℕ → StartPointStrategy → Plate
drawn unit cs w h s = plate (points_of unit cs) (map length cs) (replicate (length cs) 0) w h s

-- marks (kind, reference) and order entries (contour, 1 if reversed), as a u32 slice has them
unfoldable pub pairs : List (ℕ × ℕ) → List ℕ
pairs [] = []
pairs (p ∷ ps) = p.0 ∷ p.1 ∷ pairs ps
