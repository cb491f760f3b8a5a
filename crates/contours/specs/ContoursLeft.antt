-- The contours that an iterator has left, and where they lie. Assumes nothing.
use Rattle.std.specs.Prelude.{List, ℕ, ◌+◌, ◌<◌, length}
use Rattle.std.proofs.Common.{arith}
use Rattle.rules.specs.Tools.{sum}
use Rattle.rules.specs.HandedOver.{Contour, contours_from, contours_of}
use Rattle.plate_laws.specs.Lists.{All, all_give}
use Rattle.plate_laws.specs.Contours.{places_from}
use Rattle.contours.specs.declared.Contours.{Contours}

abbrev pub contours_left : Contours → List Contour
contours_left s = contours_from s.number s.first s.lengths.now

-- of n lengths with a sum of s: a contour's number and its vertices are below them
pub record WithinCounts (n s : ℕ) (c : Contour) : Type 0 where
  pub number : c.number < n
  pub last : c.first + c.last < s

pub all_within : (ns : List ℕ) → All (WithinCounts (length ns) (sum ns)) (contours_of ns)
all_within ns = all_give _ _ (λ c h. record { number = omega (arith, h.most); last = omega (arith, h.inside) }) (contours_of ns) (places_from 0 0 ns)
