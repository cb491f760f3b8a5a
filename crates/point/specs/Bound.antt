-- A quick test of whether a squared distance is surely above `best`, by a lower bound of x * x + z, rounded once, that is quick to form: y + z, for a
-- float y below the rounded square of x. What is below the bound is below the sum, and what is below the sum is neither above it nor equal to it.
-- Assumes nothing.
use Rattle.std.specs.Prelude.{◌≡◌, refl, Bool, true, false, not, ◌&&◌, T, negsuc, Float}
use Rattle.std.proofs.lemmas.Bool.{false≢true}
use Rattle.std.proofs.lemmas.Float.{T_from_true, lt_of_lt_of_le}
use Rattle.std.specs.Float.{nan, inf, fin, Format, binary64}
use Rattle.std.specs.Float.Ieee.{add, sub, mul, lt, eq, fits, is_nan}
use Rattle.std.specs.Float.Ieee.Bits.{is_true}
use Rattle.std.specs.Float.Ieee.Fits.{mul-fits}
use Rattle.rules.specs.Distances.{mul_add, distance_squared}
use Rattle.rules.specs.declared.Point.{Point}
use Rattle.point.specs.Squares.{unsigned, mul_unsigned}
use Rattle.point.specs.UnsignedProducts.{product_unsigned}
use Rattle.point.specs.Order.{not_below_nan, lt_turned, lt_not_eq}
use Rattle.point.specs.Below.{below_square, sum_at_most}

-- ---- the test

-- 1 − 2^−30
unfoldable pub factor : Float
factor = fin false 1073741823 (negsuc 29)

-- the test at the differences dx and dy: it passes where a float below the rounded dx × dx, added to dy × dy, is above `best`
unfoldable pub sum_above : Float → Float → Float → Bool
sum_above dx dy best =
    let square = mul binary64 dx dx in
    let under = mul binary64 square factor in
    lt under square && lt best (add binary64 under (mul binary64 dy dy))

-- the test of two points
unfoldable pub point_beyond : Point → Point → Float → Bool
point_beyond p q best = sum_above (sub binary64 p.x q.x) (sub binary64 p.y q.y) best

-- ---- what is below the bound is below the sum

-- a sum that is above something is none with NaN
no_nan : (f : Format) (y z best : Float) → T (lt best (add f y z)) → T (not (is_nan z))
unfolding add is_nan
no_nan f nan z best h = absurd (not_below_nan best h)
no_nan f (inf s) nan best h = absurd (not_below_nan best h)
no_nan f (inf s) (inf t) best h = tt
no_nan f (inf s) (fin t n d) best h = tt
no_nan f (fin s m e) nan best h = absurd (not_below_nan best h)
no_nan f (fin s m e) (inf t) best h = tt
no_nan f (fin s m e) (fin t n d) best h = tt

pub below_bound : (y x z best : Float) → T (fits binary64 y) → T (unsigned y) → T (unsigned z) →
    lt y (mul binary64 x x) ≡ true → lt best (add binary64 y z) ≡ true → lt best (mul_add binary64 x x z) ≡ true
below_bound y x z best fy uy uz hy hb =
    let l = T_from_true _ hb in
    let under = below_square y x fy uy (T_from_true _ hy) in
    is_true (lt best (mul_add binary64 x x z))
    (lt_of_lt_of_le best (add binary64 y z) (mul_add binary64 x x z) l
    (sum_at_most binary64 y x z under uz (no_nan binary64 y z best l)))

-- ---- where the test passes, the squared distance is above `best`

both_true : (a b : Bool) → (a && b) ≡ true → (a ≡ true) × (b ≡ true)
both_true true true h = (refl, refl)
both_true true false h = absurd (false≢true h)
both_true false b h = absurd (false≢true h)

-- the test of dx and dy, written out
passes : (dx dy best : Float)
    → (lt (mul binary64 (mul binary64 dx dx) factor) (mul binary64 dx dx) && lt best (add binary64 (mul binary64 (mul binary64 dx dx) factor) (mul binary64 dy dy))) ≡ true
    → lt best (mul_add binary64 dx dx (mul binary64 dy dy)) ≡ true
unfolding factor
passes dx dy best h =
    let passed = both_true _ _ h in
    below_bound _ dx (mul binary64 dy dy) best (mul-fits _ _ _) (product_unsigned _ _ _ (mul_unsigned _ _) tt) (mul_unsigned _ _) passed.0 passed.1

pub sum_above_lem : (dx dy best : Float) → sum_above dx dy best ≡ true → lt best (mul_add binary64 dx dx (mul binary64 dy dy)) ≡ true
unfolding sum_above
sum_above_lem dx dy best = passes dx dy best

pub beyond_above : (p q : Point) (best : Float) → point_beyond p q best ≡ true → lt best (distance_squared p q) ≡ true
unfolding point_beyond sum_above distance_squared
beyond_above p q best = passes (sub binary64 p.x q.x) (sub binary64 p.y q.y) best

-- ---- for a caller that keeps the best

pub above_not_below : (best d : Float) → lt best d ≡ true → lt d best ≡ false
above_not_below best d h = lt_turned best d (T_from_true _ h)

pub above_not_equal : (best d : Float) → lt best d ≡ true → eq d best ≡ false
above_not_equal best d h = lt_not_eq best d (T_from_true _ h)
