-- No point of a plate is below the least coordinates of the plate's box. Assumes nothing.
use Rattle.std.specs.Prelude.{Bool, true, false, not, List, [], ◌∷◌, ℕ, zero, suc, ◌+◌, ◌*◌, ◌<◌, T, length, Float}
use Rattle.std.proofs.Common.{arith}
use Rattle.std.specs.Float.{nan, inf, fin}
use Rattle.std.specs.Float.Ieee.{lt}
use Rattle.std.specs.Float.Ieee.Scale.{finite}
use Rattle.rules.specs.Tools.{pick, lesser}
use Rattle.rules.specs.HandedOver.{at}
use Rattle.rules.specs.Box.{widen, box_from, box}
use Rattle.rules.specs.declared.Point.{Point}
use Rattle.rules.specs.declared.BoundingBox.{BoundingBox}
use Rattle.plate_laws.specs.Lists.{All}
use Rattle.plate_laws.specs.Slices.{twice, twice_one}
use Rattle.plate_laws.specs.FiniteDistances.{OnPlate}
use Rattle.rounding_errors.specs.Order.{InOrder, under_refl, under_trans, not_lt_under, lesser_first}
use Rattle.rounding_errors.specs.Boxes.{from_keeps}
use Rattle.rounding_errors.specs.Coords.{on_plate_finite}

-- q is not below the box's least coordinates
pub record NotBelow (b : BoundingBox) (q : Point) : Type 0 where
  pub x : InOrder b.min_x q.x
  pub y : InOrder b.min_y q.y

-- the lesser of m and any finite x is at most x: of a finite m, and of the infinity that a box starts from
abbrev Floor : Float → Type 0
Floor m = (x : Float) → T (finite x) → InOrder (lesser m x) x

finite_floor : (m : Float) → T (finite m) → Floor m
unfolding lesser pick
finite_floor m f x g = go (lt x m) (not_lt_under x m g f)
  where
    go : (t : Bool) → (T (not t) → InOrder m x) → InOrder (pick t x m) x
    go true h = under_refl x g
    go false h = h tt

infinite_floor : Floor (inf false)
unfolding lesser pick lt
infinite_floor nan g = elim g [ ]
infinite_floor (inf _) g = elim g [ ]
infinite_floor (fin s m e) g = under_refl (fin s m e) tt

-- one point more
widen_keeps : (b : BoundingBox) (x y : Float) (q : Point) → OnPlate x → OnPlate y → NotBelow b q → NotBelow (widen b x y) q
unfolding widen
widen_keeps b x y q hx hy h =
    record {
      x = under_trans _ _ _ (lesser_first b.min_x x h.x.first (on_plate_finite x hx)) h.x;
      y = under_trans _ _ _ (lesser_first b.min_y y h.y.first (on_plate_finite y hy)) h.y;
    }

all_keep : (b : BoundingBox) (xs : List Float) (q : Point) → All OnPlate xs → NotBelow b q → NotBelow (box_from b xs) q
all_keep b xs q a h = from_keeps OnPlate (λ c. NotBelow c q) (λ c x y hx hy. widen_keeps c x y q hx hy) b xs a h

from_holds : (b : BoundingBox) (xs : List Float) → Floor b.min_x → Floor b.min_y → All OnPlate xs → (v : ℕ) → 2 * v + 1 < length xs →
    NotBelow (box_from b xs) (at xs v)
unfolding box_from at
from_holds b [] fx fy a v l = absurd (omega arith)
from_holds b (x ∷ []) fx fy a v l = absurd (omega arith)
from_holds b (x ∷ y ∷ xs) fx fy a zero l =
    all_keep (widen b x y) xs _ a.1.1
    (unfold widen in record { x = fx x (on_plate_finite x a.0); y = fy y (on_plate_finite y a.1.0) })
from_holds b (x ∷ y ∷ xs) fx fy a (suc v) l =
    rw (twice_one v, twice v)
    (from_holds (widen b x y) xs (unfold widen in finite_floor _ (fx x (on_plate_finite x a.0)).first)
    (unfold widen in finite_floor _ (fy y (on_plate_finite y a.1.0)).first) a.1.1 v (omega arith))

pub box_holds : (xs : List Float) → All OnPlate xs → (v : ℕ) → 2 * v + 1 < length xs → NotBelow (box xs) (at xs v)
unfolding box
box_holds xs a v l = from_holds _ xs infinite_floor infinite_floor a v l
