-- The ends of contours, one contour at a time. Assumes nothing.
use Rattle.std.specs.Prelude.{◌≡◌, List}
use Rattle.std.proofs.Math.Option.{Option, none}
use Rattle.rules.specs.Tools.{foldl}
use Rattle.rules.specs.HandedOver.{Plate, Contour, contours_of, contours}
use Rattle.rules.specs.Start.{Oriented, ends, layer_of, beats, measured_from, start}
use Rattle.rules.specs.declared.Point.{Point}
use Rattle.plate_laws.specs.Layers.{leads_in}
use Rattle.plate_laws.proofs.Layers.{foremost_is}
use Rattle.rules.specs.declared.StartPointStrategy.{StartPointStrategy}

-- the lead after the ends of a list of contours
abbrev pub led : Plate → Point → StartPointStrategy → Option Oriented → List Contour → Option Oriented
led p q s b cs = foldl (leads_in (layer_of p) (beats s)) b (ends p q cs)

pub led_start : (p : Plate) → start p ≡ led p (measured_from p.strategy p.width p.height) p.strategy none (contours_of p.lengths)
unfolding start contours
led_start p = foremost_is (layer_of p) (beats p.strategy) _
