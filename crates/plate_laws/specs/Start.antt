-- The start: a plate that has a contour, all taking part, has one, and it is one of the plate's contours. Assumes nothing.
use Rattle.std.specs.Prelude.{◌≡◌, List, [], ◌∷◌, ◌≤◌, length}
use Rattle.std.proofs.Math.Option.{some}
use Rattle.std.proofs.Common.{arith}
use Rattle.rules.specs.Tools.{highest_layer}
use Rattle.rules.specs.HandedOver.{Plate, Contour, contours, layer_at}
use Rattle.rules.specs.Start.{Oriented, oriented, ends, layer_of, beats, start}
use Rattle.rules.specs.Contours.{contour_count, IsContour}
use Rattle.rules.specs.declared.Point.{Point}
use Rattle.plate_laws.specs.Lists.{All, all-at, all_give}
use Rattle.plate_laws.specs.Layers.{foremost_has, foremost_some, foremost_low}
use Rattle.plate_laws.specs.AcceptedInput.{Layered}
use Rattle.plate_laws.specs.Contours.{all_contours, contours_numbered}

pub all_ends : (P : Contour → Type 0) (p : Plate) (q : Point) (cs : List Contour) → All P cs → All (λ s. P s.contour) (ends p q cs)
unfolding ends oriented
all_ends P p q [] a = tt
all_ends P p q (c ∷ cs) a = (a.0, (a.0, all_ends P p q cs a.1))

some_ends : (p : Plate) (q : Point) (cs : List Contour) → 1 ≤ length cs → 1 ≤ length (ends p q cs)
unfolding ends
some_ends p q [] h = h
some_ends p q (c ∷ cs) h = omega arith

-- every contour takes part
abbrev pub AllTakePart : Plate → Type 0
AllTakePart p = All (λ c. layer_at p c ≤ highest_layer) (contours p)

pub layered_part : (p : Plate) → Layered (length p.lengths) p.layers → AllTakePart p
unfolding layer_at
layered_part p l =
    let n = l.counted in
    all_give _ _ (λ c h. all-at (λ k. k ≤ highest_layer) 0 p.layers l.shallow c.number (omega arith)) (contours p) (contours_numbered p)

pub start_some : (p : Plate) → AllTakePart p → 1 ≤ contour_count p → (s : Oriented) × (start p ≡ some s)
unfolding start contour_count layer_of
start_some p t h = foremost_some (layer_of p) (beats p.strategy) _ (some_ends p _ (contours p) h) (all_ends (λ c. layer_at p c ≤ highest_layer) p _ (contours p) t)

all_ends_of : (P : Contour → Type 0) (p : Plate) (q : Point) (cs : List Contour) → All (λ s. P s.contour) (ends p q cs) → All P cs
unfolding ends oriented
all_ends_of P p q [] a = tt
all_ends_of P p q (c ∷ cs) a = (a.0, all_ends_of P p q cs a.1.1)

-- none of cs is of a lower layer than c
abbrev pub NoneLower : Plate → Contour → List Contour → Type 0
NoneLower p c cs = All (λ d. layer_at p c ≤ layer_at p d) cs

-- the start is of the lowest layer
pub start_low : (p : Plate) (s : Oriented) → start p ≡ some s → NoneLower p s.contour (contours p)
unfolding start layer_of
start_low p s e =
    all_ends_of (λ d. layer_at p s.contour ≤ layer_at p d) p _ (contours p) (foremost_low (layer_of p) (beats p.strategy) _ s e)

pub start_is : (p : Plate) (s : Oriented) → start p ≡ some s → IsContour p s.contour
unfolding start
start_is p s e = foremost_has (layer_of p) (beats p.strategy) (λ o. IsContour p o.contour) _ (all_ends (IsContour p) p _ (contours p) (all_contours p)) s e
