-- The grid's cell size and its reciprocal, in units of 2 ^ -1074. Assumes nothing.
use Rattle.std.proofs.Common.{sym, subst, le_refl, le_trans, lt_of_lt_of_le, mul_assoc, mul-le-mul_right, arith, lit≤, lit<, pow_pos}
use Rattle.std.specs.Prelude.{Bool, true, false, not, ℕ, ◌+◌, ◌*◌, ◌^◌, ◌≤◌, ◌<◌, T, pos, Float}
use Rattle.std.specs.Float.{fin, Format, binary64}
use Rattle.std.specs.Float.Ieee.{sub, div, lt}
use Rattle.rules.specs.Tools.{pick, greater}
use Rattle.rules.specs.GridAndNearest.{cell_size}
use Rattle.rules.specs.declared.BoundingBox.{BoundingBox}
use Rattle.rounding_errors.specs.NearFraction.{Near, most_cancel}
use Rattle.rounding_errors.specs.Units.{At, written_at}
use Rattle.rounding_errors.specs.Order.{InOrder, lt_under, not_lt_under, under_at}
use Rattle.rounding_errors.specs.Quotients.{div_up}

-- ---- the greater of two numbers that are not negative

greater_at : (f : Format) (x y : Float) (X Y B : ℕ) → At f x X 0 → At f y Y 0 → X ≤ B → Y ≤ B →
    (Z : ℕ) × At f (greater x y) Z 0 × (X ≤ Z) × (Y ≤ Z) × (Z ≤ B)
unfolding greater pick
greater_at f x y X Y B hx hy bx by = go (lt x y) (lt_under x y hx.0 hy.0) (not_lt_under x y hx.0 hy.0)
  where
    go : (t : Bool) → (T t → InOrder x y) → (T (not t) → InOrder y x) → (Z : ℕ) × At f (pick t y x) Z 0 × (X ≤ Z) × (Y ≤ Z) × (Z ≤ B)
    go true h g = (Y, hy, omega (arith, under_at f x y X 0 Y 0 hx hy (h tt)), le_refl Y, by)
    go false h g = (X, hx, le_refl X, omega (arith, under_at f y x Y 0 X 0 hy hx (g tt)), bx)

-- ---- the size of a cell

-- S is the cell size, for sides of wx and wy
pub record IsCellSize (s : Float) (wx wy S : ℕ) : Type 0 where
  pub at : At binary64 s S 0
  pub some : 0 < S
  pub least : 2 ^ 1074 ≤ 51 * S
  pub most : S ≤ 40001 * 2 ^ 1074
  pub x : wx * 2 ^ 20 ≤ S * 50 * (2 ^ 20 + 1)
  pub y : wy * 2 ^ 20 ≤ S * 50 * (2 ^ 20 + 1)

-- ---- W is the greater side, at least 1, and L is 2 ^ 1074

self : (L : ℕ) → L ≤ 2000001 * L
self L = omega arith

normal : (L W : ℕ) → L ≤ W → 2 ^ 58 ≤ L → 2 ^ 52 * (50 * L) ≤ W * L
normal L W h g = omega (arith, mul-le-mul_right L h, mul-le-mul_right L g)

room : (L W : ℕ) → W ≤ 2000001 * L → W ≤ 2 ^ 100 * (50 * L)
room L W h = omega arith

-- W / 50 is rounded over L * 50
over_50 : (L S W : ℕ) → 0 < L → Near binary64 (S * (50 * L)) (W * L) → Near binary64 (S * 50) W
over_50 L S W l h =
    let n : Near binary64 (S * 50 * L) (W * L) = subst (λ (i : ℕ). Near binary64 i (W * L)) (sym (mul_assoc S 50 L)) h in
    record { over = most_cancel (2 ^ 53) 1 (S * 50) W L l n.over; under = most_cancel (2 ^ 53) 1 W (S * 50) L l n.under }

share : (x W S : ℕ) → x ≤ W → W * 2 ^ 53 ≤ S * 50 * (2 ^ 53 + 1) → x * 2 ^ 20 ≤ S * 50 * (2 ^ 20 + 1)
share x W S h g = omega arith

size_least : (L S : ℕ) → L * 2 ^ 20 ≤ S * 50 * (2 ^ 20 + 1) → L ≤ 51 * S
size_least L S h = omega arith

size_some : (L S : ℕ) → 0 < L → L ≤ 51 * S → 0 < S
size_some L S l h = omega arith

most_20 : (a b : ℕ) → a * 2 ^ 53 ≤ b * (2 ^ 53 + 1) → a * 2 ^ 20 ≤ b * (2 ^ 20 + 1)
most_20 a b h = omega arith

size_most : (L W S : ℕ) → W ≤ 2000001 * L → S * 50 * 2 ^ 20 ≤ W * (2 ^ 20 + 1) → S ≤ 40001 * L
size_most L W S h g = omega arith

pub size_of : (b : BoundingBox) (wx wy : ℕ) → At binary64 (sub binary64 b.max_x b.min_x) wx 0 →
    At binary64 (sub binary64 b.max_y b.min_y) wy 0 → wx ≤ 2000001 * 2 ^ 1074 → wy ≤ 2000001 * 2 ^ 1074 →
    (S : ℕ) × IsCellSize (cell_size b) wx wy S
unfolding cell_size
size_of b wx wy hx hy lx ly =
    let L = 2 ^ 1074 in
    let l : 0 < L = pow_pos 1074 in
    let dx = sub binary64 b.max_x b.min_x in
    let dy = sub binary64 b.max_y b.min_y in
    let one = fin false 1 (pos 0) in
    let fifty = fin false 25 (pos 1) in
    let u = greater_at binary64 dx dy wx wy (2000001 * L) hx hy lx ly in
    let W = greater_at binary64 (greater dx dy) one u.0 L (2000001 * L) u.1 (written_at binary64 1 0) u.4 (self L) in
    let r = div_up binary64 (greater (greater dx dy) one) fifty W.0 (50 * L) W.1 (written_at binary64 25 1) (lt_of_lt_of_le l W.3) (lit< tt)
    (normal L W.0 W.3 (lit≤ tt)) (room L W.0 W.4) in
    let n = over_50 L r.0 W.0 l r.2 in
    let least = size_least L r.0 (share L W.0 r.0 W.3 n.under) in (
      r.0,
      record {
        at = r.1;
        some = size_some L r.0 l least;
        least = least;
        most = size_most L W.0 r.0 W.4 (most_20 (r.0 * 50) W.0 n.over);
        x = share wx W.0 r.0 (le_trans u.2 W.2) n.under;
        y = share wy W.0 r.0 (le_trans u.3 W.2) n.under;
      },
    )

-- ---- the reciprocal, I

inverse_normal : (L S : ℕ) → S ≤ 40001 * L → 2 ^ 68 ≤ L → 2 ^ 52 * S ≤ L * L
inverse_normal L S h g = le_trans (go L S h) (mul-le-mul_right L g)
  where
    go : (L S : ℕ) → S ≤ 40001 * L → 2 ^ 52 * S ≤ 2 ^ 68 * L
    go L S h = omega arith

inverse_room : (L S : ℕ) → L ≤ 51 * S → L ≤ 2 ^ 100 * S
inverse_room L S h = omega arith

pub inverse_of : (s : Float) (wx wy S : ℕ) → IsCellSize s wx wy S →
    (I : ℕ) × At binary64 (div binary64 (fin false 1 (pos 0)) s) I 0 × Near binary64 (I * S) (2 ^ 1074 * 2 ^ 1074)
inverse_of s wx wy S z =
    let L = 2 ^ 1074 in
    div_up binary64 (fin false 1 (pos 0)) s L S (written_at binary64 1 0) z.at (pow_pos 1074) z.some
    (inverse_normal L S z.most (lit≤ tt)) (inverse_room L S z.least)
