-- The nearer sense by the code's comparison, and a chosen place as more contours pass. Assumes nothing.
use mathlib.Core.Path.{◌≡◌, refl, sym, ap, ◌∙◌}
use mathlib.Core.Bool.{Bool, true, false}
use mathlib.Core.List.{List}
use Prim.Native.Nat.{ℕ, ◌+◌, ◌<◌, min}
use native.Mathlib.Nat.{add-zero}
use native.Mathlib.Omega.{arith}
use native.Mathlib.Decide.{dec_lt}
use lib.Ieee.{Float, le, lt}
use mathlib.Core.Option.{Option, none, some}
use Rattle.std.specs.Prelude as prelude
use Rattle.std.specs.Prelude.{Some, None}
use Rattle.rules.specs.Tools.{pick, leads}
use Rattle.rules.specs.HandedOver.{Plate, Contour, at, vertex_at, layer_at}
use Rattle.rules.specs.Distances.{distance_squared}
use Rattle.rules.specs.Start as definitions
use Rattle.rules.specs.Start.{oriented, layer_of}
use Rattle.rules.specs.OrderAndStraight.{nearer_sense, nearer_end}
use Rattle.rules.specs.declared.Point.{Point}
use Rattle.plate_laws.specs.Layers.{leads_in, taking_low, taking_high}
use Rattle.plate_laws.proofs.Layers.{beats_lower, beats_higher, beats_alike}
use Rattle.plate_laws.specs.OrderTotals.{nearer_contour}
use Rattle.point.specs.Bound.{above_not_below}
use Rattle.start.specs.OrientedContours.{oriented_of}
use Rattle.start.specs.declared.OrientedContour.{OrientedContour}
use Rattle.optimize.specs.Choice.{lowest_of, ChoiceStands}
use Rattle.optimize.specs.declared.nearest.Choice.{Choice}

pub later : (words : List ℕ) (n : ℕ) (b : prelude.Option Choice) → ChoiceStands words n b → ChoiceStands words (n + 1) b
unfolding ChoiceStands
later words n (Some c) h = let a = h.0 in (omega arith, h.1)
later words n None h = tt

module _ (p : Plate) (q : Point) (c : Contour) (f r : OrientedContour) (ef : oriented_of f ≡ oriented p q false c) (er : oriented_of r ≡ oriented p q true c) where
  nearer_by : nearer_sense p q c ≡ pick (le f.squared r.squared) (oriented_of f) (oriented_of r)
  unfolding nearer_sense oriented_of
  nearer_by = rw (← ef, ← er)

  pub forward_nearer : le f.squared r.squared ≡ true → oriented_of f ≡ nearer_sense p q c
  unfolding pick
  forward_nearer h = sym (nearer_by ∙ rw h)

  pub reverse_nearer : le f.squared r.squared ≡ false → oriented_of r ≡ nearer_sense p q c
  unfolding pick
  reverse_nearer h = sym (nearer_by ∙ rw h)

-- ---- a contour that is passed over

-- both ends are farther than the best: it does not win
both_farther : (p : Plate) (q : Point) (c : Contour) (best : definitions.Oriented) →
    lt best.squared (distance_squared q (vertex_at p c 0)) ≡ true → lt best.squared (distance_squared q (vertex_at p c c.last)) ≡ true →
    leads nearer_end (some best) (nearer_sense p q c) ≡ some best
unfolding leads nearer_end nearer_sense oriented pick
both_farther p q c best f r = go (le (distance_squared q (vertex_at p c 0)) (distance_squared q (vertex_at p c c.last)))
  where
    go : (b : Bool) → pick (lt (pick b (oriented p q false c) (oriented p q true c)).squared best.squared) (some (pick b (oriented p q false c) (oriented p q true c))) (some best) ≡ some best
    go true = rw (above_not_below best.squared (distance_squared q (vertex_at p c 0)) f)
    go false = rw (above_not_below best.squared (distance_squared q (vertex_at p c c.last)) r)

-- the same of the two points that the code looks at
pub passed_over : (p : Plate) {xs : List Float} (q : Point) {a b : Point} (number first last : ℕ) {best : definitions.Oriented} → p.points ≡ xs →
    a ≡ at xs first → b ≡ at xs (first + last) → lt best.squared (distance_squared q a) ≡ true → lt best.squared (distance_squared q b) ≡ true →
    leads nearer_end (some best) (nearer_sense p q (record { number = number; first = first; last = last })) ≡ some best
unfolding vertex_at
passed_over p q {a = a} number first last {best = best} e x y f g =
    both_farther p q (record { number = number; first = first; last = last }) best (rw (e, add-zero first, ← x) f) (rw (e, ← y) g)

-- ---- layers

module _ (p : Plate) (q : Point) (c : Contour) where
  same_layer : layer_of p (nearer_sense p q c) ≡ layer_at p c
  unfolding layer_of
  same_layer = ap (layer_at p) (nearer_contour p q c)

  pub lead_lower : (o : Option definitions.Oriented) → layer_at p c < lowest_of p o →
      leads nearer_end none (nearer_sense p q c) ≡ leads_in (layer_of p) nearer_end o (nearer_sense p q c)
  unfolding leads leads_in pick lowest_of
  lead_lower none h = sym (taking_low (layer_of p) (nearer_sense p q c) (omega (arith, same_layer)))
  lead_lower (some best) h = rw (beats_lower (layer_of p) nearer_end (nearer_sense p q c) best (omega (arith, same_layer)))

  pub lead_higher : (o : Option definitions.Oriented) → lowest_of p o < layer_at p c → o ≡ leads_in (layer_of p) nearer_end o (nearer_sense p q c)
  unfolding leads leads_in pick lowest_of
  lead_higher none h = sym (taking_high (layer_of p) (nearer_sense p q c) (omega (arith, same_layer)))
  lead_higher (some best) h = rw (beats_higher (layer_of p) nearer_end (nearer_sense p q c) best (omega (arith, same_layer)))

  pub lead_alike : (o : Option definitions.Oriented) → layer_at p c ≡ lowest_of p o →
      leads nearer_end o (nearer_sense p q c) ≡ leads_in (layer_of p) nearer_end o (nearer_sense p q c)
  unfolding leads leads_in pick lowest_of
  lead_alike none h = sym (taking_low (layer_of p) (nearer_sense p q c) (omega (arith, same_layer)))
  lead_alike (some best) h = rw (beats_alike (layer_of p) nearer_end (nearer_sense p q c) best (same_layer ∙ h))

  -- of two of one layer either may lead
  alike_lowest : (o : Option definitions.Oriented) → layer_at p c ≡ lowest_of p o → lowest_of p (leads nearer_end o (nearer_sense p q c)) ≡ lowest_of p o
  unfolding leads lowest_of pick
  alike_lowest none h = same_layer ∙ h
  alike_lowest (some best) h = go (nearer_end (nearer_sense p q c) best)
    where
      go : (b : Bool) → lowest_of p (pick b (some (nearer_sense p q c)) (some best)) ≡ layer_of p best
      go true = same_layer ∙ h
      go false = refl

  -- the layer of the choice after one more
  pub lowest_after : (o : Option definitions.Oriented) → lowest_of p (leads_in (layer_of p) nearer_end o (nearer_sense p q c)) ≡ min (lowest_of p o) (layer_at p c)
  unfolding leads lowest_of
  lowest_after o = go (dec_lt (lowest_of p o) (layer_at p c)) (dec_lt (layer_at p c) (lowest_of p o))
    where
      go : Dec (lowest_of p o < layer_at p c) → Dec (layer_at p c < lowest_of p o) →
          lowest_of p (leads_in (layer_of p) nearer_end o (nearer_sense p q c)) ≡ min (lowest_of p o) (layer_at p c)
      go (yes h) d = omega (arith, ap (lowest_of p) (lead_higher o h))
      go (no h) (yes k) = omega (arith, ap (lowest_of p) (lead_lower o k), same_layer)
      go (no h) (no k) = let e : layer_at p c ≡ lowest_of p o = omega arith in omega (arith, ap (lowest_of p) (lead_alike o e), alike_lowest o e)
