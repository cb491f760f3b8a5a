-- "Lengths for the quotation" of document 02, ticket 4: in whole 1,024ths of the unit that the coordinates are in. A length here is that of a groove; a plate's
-- `lengths` are something else, how many points its contours have. Definitions only.
use Rattle.std.specs.Prelude.{ℕ, suc, ◌-◌, ◌*◌, ◌/◌, Bool, ◌||◌, List, map, eqb, Float}
use Rattle.std.specs.Float.{nan, inf, fin}
use Rattle.std.specs.Float.Ieee.{up, down}
use Rattle.rules.specs.Tools.{pick, sum, up_from}
use Rattle.rules.specs.HandedOver.{Plate, Contour, at, contours}
use Rattle.rules.specs.Distances.{distance}
use Rattle.rules.specs.Marks.{cut_kind, back_step_kind, jump_kind, touch_kind, kind_at}
use Rattle.rules.specs.declared.Point.{Point}

-- A number times 1,024, exactly, rounded down to a whole number. A finite float is the fraction m × up e / down e, m being its significand and e its exponent.
-- The plain distance of accepted points is finite and not negative: the sign is not read, and the other cases never count.
unfoldable pub in_1024ths : Float → ℕ
in_1024ths nan = 0
in_1024ths (inf s) = 0
in_1024ths (fin s m e) = m * up e * 1024 / down e

-- of a segment's two ends, and of a pair of neighbouring path points
unfoldable pub pair_length : Point → Point → ℕ
pair_length a b = in_1024ths (distance a b)

-- ---- contour by contour, from the input

-- segment v goes from vertex v to vertex v + 1
unfoldable pub segment_length : Plate → ℕ → ℕ
segment_length p v = pair_length (at p.points v) (at p.points (suc v))

unfoldable pub contour_length : Plate → Contour → ℕ
contour_length p c = sum (map (segment_length p) (up_from c.first c.last))

-- Each segment is cut once, so this is the sum over the plate's cuts (statement/specs/Quotation.antt).
unfoldable pub plate_length : Plate → ℕ
plate_length p = sum (map (contour_length p) (contours p))

-- ---- along the path: xs and ms are its coordinates and its marks, as slices

-- Which kinds are counted together. A touch goes between equal points: its length is 0, and it is among the jumps.
abbrev pub is_cut : ℕ → Bool
is_cut kind = eqb kind cut_kind

abbrev pub is_back_step : ℕ → Bool
is_back_step kind = eqb kind back_step_kind

abbrev pub is_touch : ℕ → Bool
is_touch kind = eqb kind touch_kind

abbrev pub is_jump_or_touch : ℕ → Bool
is_jump_or_touch kind = eqb kind jump_kind || is_touch kind

-- what the pair of path points k and k + 1 adds: its length where the mark of path point k + 1 has a kind that is counted, and else 0
unfoldable pub counted_length : (ℕ → Bool) → List Float → List ℕ → ℕ → ℕ
counted_length test xs ms k = pick (test (kind_at ms (suc k))) (pair_length (at xs k) (at xs (suc k))) 0

-- the sum over the n − 1 pairs of n path points (of none, the sum is 0)
unfoldable pub length_along : (ℕ → Bool) → ℕ → List Float → List ℕ → ℕ
length_along test n xs ms = sum (map (counted_length test xs ms) (up_from 0 (n - 1)))
