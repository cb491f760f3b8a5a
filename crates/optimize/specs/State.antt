-- The work slice while contours are put in order: those in order, packed with their senses, then those that wait, packed, in the order of the contours.
-- Definitions only.
use Rattle.std.specs.Prelude.{◌≡◌, List, ◌++◌, map, ℕ, ◌+◌, length, take, Option, Some, None}
use Rattle.rules.specs.HandedOver.{Plate, Contour}
use Rattle.rules.specs.Start.{Oriented}
use Rattle.rules.specs.OrderAndStraight.{order_after, order}
use Rattle.plate_laws.specs.Lists.{All}
use Rattle.plate_laws.specs.Contours.{Rising}
use Rattle.start.specs.OrientedContours.{oriented_of}
use Rattle.start.specs.declared.OrientedContour as code
use Rattle.packed_contours.specs.PackedNumbers.{packed, packed_sense, InLengths}

-- n contours in all, of which `done` are in order, `last` being the last of them
pub record State (p : Plate) (words : List ℕ) (n done : ℕ) (last : Oriented) : Type 0 where
  pub ordered : List Oriented
  pub left : List Contour
  pub tail : List ℕ
  pub count : done ≡ length ordered
  pub total : n ≡ done + length left
  pub parts : words ≡ map packed_sense ordered ++ (map packed left ++ tail)
  pub result : order p ≡ ordered ++ order_after p (length left) left last
  pub rising : Rising left
  pub placed : All (InLengths p.lengths) left
  pub at : InLengths p.lengths last.contour

-- the work slice begins with the whole order, of `done` contours
abbrev pub Whole : Plate → List ℕ → ℕ → Type 0
Whole p words done = (done ≡ length (order p)) × (take done words ≡ map packed_sense (order p))

-- after one more step: where no contour that waits takes part, the order is whole
unfoldable pub Continued : Plate → List ℕ → ℕ → ℕ → Option code.OrientedContour → Type 0
Continued p words n done (Some t) = State p words n (done + 1) (oriented_of t)
Continued p words n done None = Whole p words done
