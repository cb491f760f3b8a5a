-- The number of the grid's cells along one axis is from 2 to 54. Assumes nothing.
use Rattle.std.specs.Prelude.{◌≡◌, true, false, ℕ, suc, ◌+◌, ◌-◌, ◌*◌, ◌/◌, ◌^◌, ◌≤◌, ◌<◌, T, Float}
use Rattle.std.proofs.Common.{le_trans, add-sub_of_le, mul-pos, mul-le-mul_left, mul-le-mul_right, le_of_mul-le-mul_right, le-div_iff_mul-le, div-lt_iff_lt-mul, arith, lit≤, pow_pos}
use Rattle.std.specs.Float.{fin, Format, binary64, nan, inf}
use Rattle.std.specs.Float.Ieee.{low, up, down, add, sub, div}
use Rattle.std.specs.Float.Ieee.Fits.{down_pos}
use Rattle.std.specs.Float.Ieee.Positive.{num, den, den_pos, positive, first_pos}
use Rattle.rules.specs.Limits.{most_cells_along}
use Rattle.rules.specs.Tools.{pick}
use Rattle.rules.specs.GridAndNearest.{ceiling, cells_along}
use Rattle.rounding_errors.specs.Units.{At, positive_at}
use Rattle.rounding_errors.specs.Sums.{add_up, sub_up}
use Rattle.rounding_errors.specs.Quotients.{div_up}
use Rattle.rounding_errors.specs.Coords.{Coord}
use Rattle.rounding_errors.specs.Origin.{Origin}

-- ---- the ceiling of a number that is above 0 and at most C

fraction_ceiling : (X d C : ℕ) → 0 < d → 0 < X → X ≤ C * d → (1 ≤ (X + (d - 1)) / d) × ((X + (d - 1)) / d ≤ C)
fraction_ceiling X d C D P h =
    let a : 1 ≤ (X + (d - 1)) / d = (le-div_iff_mul-le D).1 (omega arith) in
    let b : (X + (d - 1)) / d < suc C = (div-lt_iff_lt-mul D).1 (omega arith) in
    (a, omega arith)

positive_ceiling : (x : Float) (C : ℕ) → T (positive x) → 0 < num x → num x ≤ C * den x → C < 2 ^ 32 → (1 ≤ ceiling 32 x) × (ceiling 32 x ≤ C)
unfolding ceiling pick
positive_ceiling nan C t P h l = elim t [ ]
positive_ceiling (inf _) C t P h l = elim t [ ]
positive_ceiling (fin true m e) C t P h l = elim t [ ]
positive_ceiling (fin false m e) C t P h l = let w = fraction_ceiling (m * up e) (down e) C (down_pos e) P h in omega (arith, w)

ceiling_at : (f : Format) (x : Float) (p C : ℕ) → At f x p 0 → 0 < p → p ≤ C * 2 ^ low f → C < 2 ^ 32 → (1 ≤ ceiling 32 x) × (ceiling 32 x ≤ C)
ceiling_at f x p C h P g l =
    let L = 2 ^ low f in
    let w = positive_at f x p h P in
    let some : 0 < num x = first_pos (num x) L (rw w.1 (mul-pos P (den_pos x))) in
    positive_ceiling x C w.0 some (le_of_mul-le-mul_right (most (num x) (den x) L w.1 (mul-le-mul_right (den x) g)) (pow_pos (low f))) l
  where
    most : (X d L : ℕ) → X * L ≡ p * d → p * d ≤ C * L * d → X * L ≤ C * d * L
    most X d L e h = omega arith

-- ---- p1 - n1 is a coordinate, p - n the least, and a - b the origin, which is not above it

pub origin_below : (p n p1 n1 S a b : ℕ) → n1 + p ≤ p1 + n → (a + n + S) * 2 ^ 26 ≤ (p + b) * 2 ^ 26 + S → n1 + a ≤ p1 + b
origin_below p n p1 n1 S a b h g = omega arith

-- ---- the greatest coordinate is p1 - n1, and d is its distance from the origin

-- at most 51.1 cells
distance_most : (p n p1 n1 S a b d : ℕ) → n1 + a + d ≡ p1 + b → (p1 + n) * 1024 ≤ (n1 + p) * 1024 + S * 51250 →
    (p + b) * 2 ^ 26 ≤ (a + n + S) * 2 ^ 26 + S → d * 100 ≤ S * 5110
distance_most p n p1 n1 S a b d e h g = omega arith

most_1024 : (w d : ℕ) → w * 2 ^ 53 ≤ d * (2 ^ 53 + 1) → w * 1024 ≤ d * 1025
most_1024 w d h = omega arith

-- ---- G is that distance rounded, H is G + S rounded, and R is H / S rounded

room_g : (L S d : ℕ) → d * 100 ≤ S * 5110 → S ≤ 40001 * L → d ≤ 2 ^ 100 * L
room_g L S d h g = le_trans (go L S d h g) (mul-le-mul_right L (lit≤ tt))
  where
    go : (L S d : ℕ) → d * 100 ≤ S * 5110 → S ≤ 40001 * L → d ≤ 2 ^ 30 * L
    go L S d h g = omega arith

room_h : (L S d G : ℕ) → d * 100 ≤ S * 5110 → G * 1024 ≤ d * 1025 → S ≤ 40001 * L → G + S ≤ 2 ^ 100 * L
room_h L S d G h g k = le_trans (go L S d G h g k) (mul-le-mul_right L (lit≤ tt))
  where
    go : (L S d G : ℕ) → d * 100 ≤ S * 5110 → G * 1024 ≤ d * 1025 → S ≤ 40001 * L → G + S ≤ 2 ^ 30 * L
    go L S d G h g k = omega arith

H_most : (S d G H : ℕ) → d * 100 ≤ S * 5110 → G * 1024 ≤ d * 1025 → H * 1024 ≤ (G + S) * 1025 → H * 100 ≤ S * 5225
H_most S d G H h g k = omega arith

H_least : (S G H : ℕ) → (G + S) * 2 ^ 53 ≤ H * (2 ^ 53 + 1) → S ≤ H * 2
H_least S G H h = omega arith

normal : (L S H : ℕ) → S ≤ H * 2 → 2 ^ 53 ≤ L → 2 ^ 52 * S ≤ H * L
normal L S H h g = omega (arith, mul-le-mul_left H g)

little : (S H : ℕ) → H * 100 ≤ S * 5225 → H ≤ 2 ^ 100 * S
little S H h = omega arith

R_most : (L S H R : ℕ) → 0 < S → R * S * 1024 ≤ H * L * 1025 → H * 100 ≤ S * 5225 → R ≤ 53 * L
R_most L S H R s h g = le_of_mul-le-mul_right (go (mul-le-mul_right L g)) s
  where
    go : H * 100 * L ≤ S * 5225 * L → R * S ≤ 53 * L * S
    go g = omega arith

R_some : (L S H R : ℕ) → 0 < L → 0 < H → H * L * 2 ^ 53 ≤ R * S * (2 ^ 53 + 1) → 0 < R
R_some L S H R l h g = first_pos R S (go (H * L) (R * S) (mul-pos h l) g)
  where
    go : (u v : ℕ) → 0 < u → u * 2 ^ 53 ≤ v * (2 ^ 53 + 1) → 0 < v
    go u v h g = omega arith

-- ---- so R is above 0 and at most 53

pub cells_at : (hi s o : Float) (p n p1 n1 S a b : ℕ) → Coord hi p1 n1 → At binary64 s S 0 → 0 < S → S ≤ 40001 * 2 ^ 1074 → Origin o p n S a b →
    n1 + p ≤ p1 + n → (p1 + n) * 1024 ≤ (n1 + p) * 1024 + S * 51250 → (2 ≤ cells_along s o hi) × (cells_along s o hi ≤ most_cells_along)
unfolding cells_along
cells_at hi s o p n p1 n1 S a b c hs S0 top w h g =
    let L = 2 ^ 1074 in
    let d = p1 + b - (n1 + a) in
    let e = add-sub_of_le (origin_below p n p1 n1 S a b h w.over) in
    let D = distance_most p n p1 n1 S a b d e g w.under in
    let G = sub_up binary64 hi o p1 n1 a b d c.at w.at e (room_g L S d D top) in
    let Gd = most_1024 G.0 d G.2.over in
    let H = add_up binary64 (sub binary64 hi o) s G.0 0 S 0 (G.0 + S) G.1 hs (self (G.0 + S)) (room_h L S d G.0 D Gd top) in
    let HS = H_most S d G.0 H.0 D Gd (most_1024 H.0 (G.0 + S) H.2.over) in
    let SH = H_least S G.0 H.0 H.2.under in
    let H0 : 0 < H.0 = half S H.0 SH S0 in
    let R = div_up binary64 (add binary64 (sub binary64 hi o) s) s H.0 S H.1 hs H0 S0 (normal L S H.0 SH (lit≤ tt)) (little S H.0 HS) in
    let R-top = R_most L S H.0 R.0 S0 (most_1024 (R.0 * S) (H.0 * L) R.2.over) HS in
    let R0 = R_some L S H.0 R.0 (pow_pos 1074) H0 R.2.under in
    let k = ceiling_at binary64 (div binary64 (add binary64 (sub binary64 hi o) s) s) R.0 53 R.1 R0 R-top (lit≤ tt) in
    (one_more 1 _ k.0, one_more _ 53 k.1)
  where
    self : (x : ℕ) → 0 + 0 + x ≡ x
    self x = omega arith

    half : (S H : ℕ) → S ≤ H * 2 → 0 < S → 0 < H
    half S H h g = omega arith

    one_more : (x y : ℕ) → x ≤ y → x + 1 ≤ y + 1
    one_more x y h = omega arith
