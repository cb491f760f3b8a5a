-- A list of contours: how many segments it has, and which vertices are its contours'. The documents' n and S are those of a plate's contours. Definitions only.
use Rattle.std.specs.Prelude.{◌≡◌, ◌⊎◌, Bool, ◌&&◌, List, [], ◌∷◌, map, ℕ, ◌+◌, ◌≤◌, ◌<◌, leb, length}
use Rattle.rules.specs.Tools.{sum}
use Rattle.rules.specs.HandedOver.{Plate, Contour, contours}

-- n, and S: each contour has one segment less than it has points
unfoldable pub contour_count : Plate → ℕ
contour_count p = length (contours p)

unfoldable pub segments_of : List Contour → ℕ
segments_of cs = sum (map (λ c. c.last) cs)

unfoldable pub segment_count : Plate → ℕ
segment_count p = segments_of (contours p)

-- c is one of a list of contours
abbrev pub Among : Contour → List Contour → Type 0
Among c [] = ⊥
Among c (d ∷ ds) = (d ≡ c) ⊎ Among c ds

-- c is one of the plate's contours that are not empty
abbrev pub IsContour : Plate → Contour → Type 0
IsContour p c = Among c (contours p)

-- vertex v is one of c's, is one of some contour's, of a list and of a plate, and is none of c's
abbrev pub Of : Contour → ℕ → Type 0
Of c v = (c.first ≤ v) × (v ≤ c.first + c.last)

abbrev pub OfOne : List Contour → ℕ → Type 0
OfOne cs v = (c : Contour) × Among c cs × Of c v

unfoldable pub OfContour : Plate → ℕ → Type 0
OfContour p v = OfOne (contours p) v

abbrev pub NotOf : Contour → ℕ → Type 0
NotOf c v = (v < c.first) ⊎ (c.first + c.last < v)

-- the test of whether v is one of c's
unfoldable pub is_of : Contour → ℕ → Bool
is_of c v = leb c.first v && leb v (c.first + c.last)
