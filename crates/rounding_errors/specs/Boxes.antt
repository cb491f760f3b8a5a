-- The box of an accepted plate with a point is sound: its sides are on the plate, and none is turned around. Assumes nothing.
use Rattle.std.specs.Prelude.{◌≡◌, refl, Bool, true, false, List, [], ◌∷◌, ℕ, ◌<◌, T, length, Float}
use Rattle.std.proofs.Common.{arith}
use Rattle.std.specs.Float.{nan, inf, fin}
use Rattle.std.specs.Float.Ieee.{lt, le}
use Rattle.std.specs.Float.Ieee.Scale.{finite}
use Rattle.rules.specs.Tools.{pick, lesser, greater, sum}
use Rattle.rules.specs.Box.{widen, box_from, box}
use Rattle.rules.specs.declared.BoundingBox.{BoundingBox}
use Rattle.plate_laws.specs.Lists.{All}
use Rattle.plate_laws.specs.FiniteDistances.{OnPlate}
use Rattle.plate_laws.specs.AcceptedInput.{Accepted}
use Rattle.rounding_errors.specs.Order.{le_under, under_le, under_refl, under_trans, lesser_first, greater_first}
use Rattle.rounding_errors.specs.Coords.{on_plate_finite}

-- all four sides of a box have P
pub record Sides (P : Float → Type 0) (b : BoundingBox) : Type 0 where
  pub left : P b.min_x
  pub right : P b.max_x
  pub bottom : P b.min_y
  pub top : P b.max_y

pub record SoundBox (b : BoundingBox) : Type 0 where
  pub on_plate : Sides OnPlate b
  pub across : T (le b.min_x b.max_x)
  pub upward : T (le b.min_y b.max_y)

-- ---- one point more

lesser_on : (P : Float → Type 0) (x y : Float) → P x → P y → P (lesser x y)
unfolding lesser pick
lesser_on P x y hx hy = go (lt y x)
  where
    go : (t : Bool) → P (pick t y x)
    go true = hy
    go false = hx

greater_on : (P : Float → Type 0) (x y : Float) → P x → P y → P (greater x y)
unfolding greater pick
greater_on P x y hx hy = go (lt x y)
  where
    go : (t : Bool) → P (pick t y x)
    go true = hy
    go false = hx

-- one side, widened
wider : (lo hi x : Float) → OnPlate lo → OnPlate hi → OnPlate x → T (le lo hi) → T (le (lesser lo x) (greater hi x))
wider lo hi x a b c h =
    let fa = on_plate_finite lo a in
    let fb = on_plate_finite hi b in
    let fc = on_plate_finite x c in
    under_le (lesser lo x) (greater hi x)
    (under_trans (lesser lo x) lo (greater hi x) (lesser_first lo x fa fc) (under_trans lo hi (greater hi x) (le_under lo hi fa fb h) (greater_first hi x fb fc)))

sides_widened : (P : Float → Type 0) (b : BoundingBox) (x y : Float) → P x → P y → Sides P b → Sides P (widen b x y)
unfolding widen
sides_widened P b x y hx hy s =
    record {
      left = lesser_on P b.min_x x s.left hx;
      right = greater_on P b.max_x x s.right hx;
      bottom = lesser_on P b.min_y y s.bottom hy;
      top = greater_on P b.max_y y s.top hy;
    }

widened : (b : BoundingBox) (x y : Float) → OnPlate x → OnPlate y → SoundBox b → SoundBox (widen b x y)
unfolding widen
widened b x y hx hy s =
    let o = s.on_plate in
    record {
      on_plate = sides_widened OnPlate b x y hx hy o;
      across = wider b.min_x b.max_x x o.left o.right hx s.across;
      upward = wider b.min_y b.max_y y o.bottom o.top hy s.upward;
    }

-- I holds of the box at the end, where each point keeps it
pub from_keeps : (P : Float → Type 0) (I : BoundingBox → Type 0) → ((b : BoundingBox) (x y : Float) → P x → P y → I b → I (widen b x y)) →
    (b : BoundingBox) (xs : List Float) → All P xs → I b → I (box_from b xs)
unfolding box_from
from_keeps P I k b [] a i = i
from_keeps P I k b (x ∷ []) a i = i
from_keeps P I k b (x ∷ y ∷ xs) a i = from_keeps P I k (widen b x y) xs a.1.1 (k b x y a.0 a.1.0 i)

-- what all coordinates and the infinities have, the sides have
pub box_sides : (P : Float → Type 0) (xs : List Float) → ((s : Bool) → P (inf s)) → All P xs → Sides P (box xs)
unfolding box
box_sides P xs i a = from_keeps P (Sides P) (sides_widened P) _ xs a (record { left = i false; right = i true; bottom = i false; top = i true })

-- ---- the first point

first_lesser : (x : Float) → T (finite x) → lesser (inf false) x ≡ x
unfolding lesser pick lt
first_lesser nan f = absurd f
first_lesser (inf s) f = absurd f
first_lesser (fin s m e) f = refl

first_greater : (x : Float) → T (finite x) → greater (inf true) x ≡ x
unfolding greater pick lt
first_greater nan f = absurd f
first_greater (inf s) f = absurd f
first_greater (fin s m e) f = refl

point : Float → Float → BoundingBox
point x y = record { min_x = x; min_y = y; max_x = x; max_y = y }

box_first : (x y : Float) (xs : List Float) → T (finite x) → T (finite y) → box (x ∷ y ∷ xs) ≡ box_from (point x y) xs
unfolding box box_from widen point
box_first x y xs fx fy = rw (first_lesser x fx, first_lesser y fy, first_greater x fx, first_greater y fy)

point_sound : (x y : Float) → OnPlate x → OnPlate y → SoundBox (point x y)
unfolding point
point_sound x y a b =
    let self : (z : Float) → OnPlate z → T (le z z) = λ z h. under_le z z (under_refl z (on_plate_finite z h)) in
    record { on_plate = record { left = a; right = a; bottom = b; top = b }; across = self x a; upward = self y b }

box_sound : (xs : List Float) → All OnPlate xs → 1 < length xs → SoundBox (box xs)
box_sound [] a l = absurd (omega arith)
box_sound (x ∷ []) a l = absurd (omega arith)
box_sound (x ∷ y ∷ xs) a l =
    rw (box_first x y xs (on_plate_finite x a.0) (on_plate_finite y a.1.0))
    (from_keeps OnPlate SoundBox widened (point x y) xs a.1.1 (point_sound x y a.0 a.1.0))

pub accepted_sound : (xs : List Float) (ns : List ℕ) → Accepted xs ns → 0 < sum ns → SoundBox (box xs)
accepted_sound xs ns a h = box_sound xs a.on_plate (omega (arith, a.counted))
