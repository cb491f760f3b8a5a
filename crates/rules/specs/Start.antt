-- "Start" of document 01, with the layers and the parked point of document 02. Definitions only.
use Rattle.std.specs.Prelude.{ℕ, Bool, true, false, List, [], ◌∷◌, pos, Float}
use Rattle.std.proofs.Math.Option.{Option}
use Rattle.std.specs.Float.{fin, binary64}
use Rattle.std.specs.Float.Ieee.{of_int, div, lt}
use Rattle.rules.specs.Tools.{pick, foremost}
use Rattle.rules.specs.HandedOver.{Plate, Contour, contours, vertex_at, layer_at}
use Rattle.rules.specs.Distances.{distance_squared}
use Rattle.rules.specs.declared.Point.{Point}
use Rattle.rules.specs.declared.StartPointStrategy.{StartPointStrategy}
use Rattle.rules.specs.declared.StartPointStrategy.TheVariants.{Outside, Inside, Home}

unfoldable pub half : ℕ → Float
half n = div binary64 (of_int binary64 (pos n)) (fin false 1 (pos 1))

unfoldable pub centre : ℕ → ℕ → Point
centre width height = record { x = half width; y = half height }

-- A contour in one of its two senses, and the squared distance from some point to the end that then comes first.
pub record Oriented : Type 0 where
  pub contour : Contour
  pub reversed : Bool
  pub squared : Float

unfoldable pub oriented : Plate → Point → Bool → Contour → Oriented
oriented p q r c = record { contour = c; reversed = r; squared = distance_squared q (vertex_at p c (pick r c.last 0)) }

-- contours in order, first point before last
unfoldable pub ends : Plate → Point → List Contour → List Oriented
ends p q [] = []
ends p q (c ∷ cs) = oriented p q false c ∷ oriented p q true c ∷ ends p q cs

unfoldable pub layer_of : Plate → Oriented → ℕ
layer_of p s = layer_at p s.contour

-- The strategies. Distances are taken from the centre, with Home from the parked point; a strictly larger squared distance beats the leader with Outside, a
-- strictly smaller one with Inside and Home.
unfoldable pub measured_from : StartPointStrategy → ℕ → ℕ → Point
measured_from Outside width height = centre width height
measured_from Inside width height = centre width height
measured_from (Home parked) width height = parked

unfoldable pub beats : StartPointStrategy → Oriented → Oriented → Bool
beats Outside new best = lt best.squared new.squared
beats Inside new best = lt new.squared best.squared
beats (Home parked) new best = lt new.squared best.squared

unfoldable pub start : Plate → Option Oriented
start p = foremost (layer_of p) (beats p.strategy) (ends p (measured_from p.strategy p.width p.height) (contours p))
