-- Which contours wait, by their numbers. Definitions only.
use Rattle.std.specs.Prelude.{◌≡◌, List, [], ◌∷◌, map, ℕ, zero, suc, eqb}
use Rattle.rules.specs.Tools.{pick}
use Rattle.rules.specs.SamplesAndCache.{Waiting}
use Rattle.rules.specs.Retrace.{waiting_number}

-- those of the n contours from j on that wait, in order; contour i waits where `waits i` is not 0
unfoldable pub waiters_from : (ℕ → ℕ) → ℕ → ℕ → List ℕ
waiters_from waits j zero = []
waiters_from waits j (suc n) = let rest = waiters_from waits (suc j) n in pick (eqb (waits j) 0) rest (j ∷ rest)

-- ws are exactly those of n contours that wait, in order
unfoldable pub Lined : (ℕ → ℕ) → ℕ → List Waiting → Type 0
Lined waits n ws = map waiting_number ws ≡ waiters_from waits 0 n
